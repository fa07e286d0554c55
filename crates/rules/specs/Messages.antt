-- Messages: the outbox of a party, and the waiting messages of the facade in the order sent.
use Rattle.std.specs.Prelude.{Bool, true, false, cond, List, ◌∷◌, ◌++◌, ℕ, zero, suc, ◌+◌, ◌-◌, eqb, get_or, set, take, drop, replicate}
use Rattle.types.specs.declared.Message.{Message}
use Rattle.types.specs.declared.Outbox.{Outbox}
use Rattle.types.specs.declared.Outcome.{Outcome}
use Rattle.types.specs.declared.Reaction.{Reaction}
use Rattle.types.specs.declared.Facade.{Facade}
use Rattle.rules.specs.Parts.{no_message, with_messages}

-- nothing is sent
abbrev pub nothing : Outbox
nothing = record { count = 0; messages = replicate 4 no_message }

-- what a party is after handling something, the outcome, and what it sends
abbrev pub answer : {T : Type 0} → T → Outcome → Outbox → Reaction T
answer x n o = record { after = x; outcome = n; outbox = o }

-- one message more
abbrev pub post : Outbox → Message → Outbox
post o m = record { count = o.count + 1; messages = set o.messages o.count m }

unfoldable pub post_unless : Bool → Outbox → Message → Outbox
post_unless true o m = o
post_unless false o m = post o m

-- "Broadcasts go in server order": after what o holds, message m j goes to each server j below n but those left out
unfoldable pub to_servers : (ℕ → Bool) → (ℕ → Message) → ℕ → Outbox → Outbox
to_servers left_out m zero o = o
to_servers left_out m (suc n) o = post_unless (left_out n) (to_servers left_out m n o) (m n)

abbrev pub to_each : (ℕ → Message) → ℕ → Outbox → Outbox
to_each m n o = to_servers (λ j. false) m n o

-- to every server other than k
abbrev pub to_others : ℕ → (ℕ → Message) → ℕ → Outbox → Outbox
to_others k m n o = to_servers (λ j. eqb j k) m n o

-- the messages with the first n of an outbox put behind the w that wait, in order
unfoldable pub sent_behind : List Message → ℕ → Outbox → ℕ → List Message
sent_behind ms w o zero = ms
sent_behind ms w o (suc n) = set (sent_behind ms w o n) (w + n) (get_or o.messages n no_message)

-- what is sent waits behind the others
abbrev pub send_all : Facade → Outbox → Facade
send_all f o = with_messages f (sent_behind f.messages f.waiting o o.count) (f.waiting + o.count)

-- of n waiting messages that at position p is taken out: those behind it move up by one, and the last place is emptied
unfoldable pub removed : List Message → ℕ → ℕ → List Message
removed ms p n = take p ms ++ take (n - suc p) (drop (suc p) ms) ++ no_message ∷ drop n ms

-- the facade without the message at position p
abbrev pub without : Facade → ℕ → Facade
without f p = with_messages f (removed f.messages p f.waiting) (f.waiting - 1)

-- the same if it is taken out
abbrev pub without_if : Facade → ℕ → Bool → Facade
without_if f p taken = cond taken (without f p) f
