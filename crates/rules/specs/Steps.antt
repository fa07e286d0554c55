-- The ten steps: what a step says, its refusals, its effect and outcome, and a list of steps.
use Rattle.std.specs.Prelude.{Bool, true, false, not, cond, List, [], ◌∷◌, ℕ, ◌+◌, ◌-◌, leb, ltb, eqb, get_or, set, replicate, ℤ, pos, nat_abs, ◌+ℤ◌}
use Rattle.types.specs.declared.Config.{Config}
use Rattle.types.specs.declared.Server.{Server}
use Rattle.types.specs.declared.State.{State}
use Rattle.types.specs.declared.Client.{Client}
use Rattle.types.specs.declared.Message.{Message}
use Rattle.types.specs.declared.Facade.{Facade}
use Rattle.types.specs.declared.Step.{Step}
-- what a step says: one case for each kind, and one for every other kind
pub use Rattle.types.specs.declared.Action.{Action}
pub use Rattle.types.specs.declared.Action.TheVariants.{Pass as pass, Fail as fail, Return as return, Notice as notice, Discover as discover, Request as request, Renew as renew, Deliver as deliver, Lose as lose, Cleanup as cleanup, Unknown as unknown}
use Rattle.types.specs.declared.ServerEvent.{ServerEvent}
use Rattle.types.specs.declared.ServerEvent.TheVariants.{Fails, Returns, Notices, Receives, CleansUp}
use Rattle.types.specs.declared.ClientEvent.{ClientEvent}
use Rattle.types.specs.declared.ClientEvent.TheVariants.{Discovers, Requests, Renews, Hears}
use Rattle.types.specs.declared.Deed.{Deed}
use Rattle.types.specs.declared.Deed.TheVariants.{Rests, Passes, Serves, Asks}
use Rattle.rules.specs.Answers.{Answer}
use Rattle.types.specs.declared.Outcome.TheVariants.{Done}
use Rattle.types.specs.declared.Reaction.{Reaction}
use Rattle.types.specs.Numbers.{outcome_number}
use Rattle.rules.specs.Conditions.{◌and◌, ◌or◌, is_within, unless, all, counted, filled}
use Rattle.rules.specs.Clock.{not_negative, as_signed}
use Rattle.rules.specs.Parts.{server_at, state_at, message_at, offset_of, offset_at, notices_of, set_notice, clock_of, clock, client_party, parties, in_state, no_client, no_message, with_life, with_server, with_notices, with_client, with_clients, with_time, with_next}
use Rattle.rules.specs.Views.{View, whole}
use Rattle.rules.specs.Ranges.{config_in_range, in_range, end_in_range, is_server, last_time, last_interaction, most_waiting}
use Rattle.rules.specs.Messages.{nothing, answer, send_all, without_if}
use Rattle.rules.specs.Server.{noticed, cleared_server, after_return, cleaned, server_receives}
use Rattle.rules.specs.Client.{is_offered, is_holding, lapsed, discovers, requests, renews, client_receives}

-- Fresh: "time 0, clocks exact, all alive with c and return reading 0, everyone believed live, notice times 0,
-- nothing led, reserved or open, ends and records 0, no messages, clients idle". All places are filled alike.

abbrev pub fresh_server : Server
fresh_server = cleared_server true 0 0 (replicate 32 0)

unfoldable pub fresh : Config → Facade
fresh c = record {
  config = c;
  time = 0;
  next = 1;
  offsets = replicate 36 (pos 0);
  servers = replicate 4 fresh_server;
  notices = replicate 4 (replicate 4 0);
  clients = replicate 32 no_client;
  messages = replicate 128 no_message;
  waiting = 0;
}

-- a step of kind k with three fields
abbrev pub step_of : ℕ → ℕ → ℕ → ℕ → Step
step_of k x y z = record { kind = k; first = x; second = y; third = z }

-- "The kind number decides the step; fields follow in the order shown."
unfoldable pub action_of : Step → Action
action_of s =
    cond (eqb s.kind 1) (pass s.first s.second (as_signed s.third))
    (cond (eqb s.kind 2) (fail s.first)
    (cond (eqb s.kind 3) (return s.first)
    (cond (eqb s.kind 4) (notice s.first s.second s.third)
    (cond (eqb s.kind 5) (discover s.first)
    (cond (eqb s.kind 6) (request s.first s.second)
    (cond (eqb s.kind 7) (renew s.first s.second)
    (cond (eqb s.kind 8) (deliver s.first s.second)
    (cond (eqb s.kind 9) (lose s.first)
    (cond (eqb s.kind 10) (cleanup s.first)
    unknown)))))))))

-- The refusals. A test says that the rule of its number is kept. Refusals 1 and 3 are of scripts.

-- Refusal 4. "The kind is not 1 to 10."
unfoldable pub is_known : Action → Bool
is_known (pass d p e) = true
is_known (fail k) = true
is_known (return k) = true
is_known (notice k j says) = true
is_known (discover i) = true
is_known (request i t) = true
is_known (renew i t) = true
is_known (deliver p keep) = true
is_known (lose p) = true
is_known (cleanup k) = true
is_known unknown = false

-- Refusal 5. "A d, e, τ, keep or says is outside its range."
unfoldable pub fields_in_range : Action → Bool
fields_in_range (pass d p e) = is_within 1 100000 d and leb (nat_abs e) 2000
fields_in_range (fail k) = true
fields_in_range (return k) = true
fields_in_range (notice k j says) = leb says 1
fields_in_range (discover i) = true
fields_in_range (request i t) = end_in_range t
fields_in_range (renew i t) = end_in_range t
fields_in_range (deliver p keep) = leb keep 1
fields_in_range (lose p) = true
fields_in_range (cleanup k) = true
fields_in_range unknown = true

-- Refusal 6. "A named party, server, client or position does not exist, or a notice is about its own receiver."
unfoldable pub exists : View → Action → Bool
exists v (pass d p e) = ltb p (parties v.world.config)
exists v (fail k) = is_server v.world.config k
exists v (return k) = is_server v.world.config k
exists v (notice k j says) = is_server v.world.config k and is_server v.world.config j and not (eqb j k)
exists v (discover i) = ltb i v.world.config.clients
exists v (request i t) = ltb i v.world.config.clients
exists v (renew i t) = ltb i v.world.config.clients
exists v (deliver p keep) = ltb p v.world.waiting
exists v (lose p) = ltb p v.world.waiting
exists v (cleanup k) = is_server v.world.config k
exists v unknown = true

-- Refusal 7. "The named party is in the wrong state: fail, notice or cleanup of a dead server, return of a live one,
-- discover by a holding client, request by one not offered, renew by one not holding."
unfoldable pub state_allows : View → Action → Bool
state_allows v (pass d p e) = true
state_allows v (fail k) = v.alive k
state_allows v (return k) = not (v.alive k)
state_allows v (notice k j says) = v.alive k
state_allows v (discover i) = not (is_holding (v.state i))
state_allows v (request i t) = is_offered (v.state i)
state_allows v (renew i t) = is_holding (v.state i)
state_allows v (deliver p keep) = true
state_allows v (lose p) = true
state_allows v (cleanup k) = v.alive k
state_allows v unknown = true

-- a test of a pass alone
unfoldable pub of_pass : (ℕ → ℕ → ℤ → Bool) → Action → Bool
of_pass g (pass d p e) = g d p e
of_pass g (fail k) = true
of_pass g (return k) = true
of_pass g (notice k j says) = true
of_pass g (discover i) = true
of_pass g (request i t) = true
of_pass g (renew i t) = true
of_pass g (deliver p keep) = true
of_pass g (lose p) = true
of_pass g (cleanup k) = true
of_pass g unknown = true

-- Refusal 8. "True time would pass 1,000,000,000."
unfoldable pub time_left : View → ℕ → ℕ → ℤ → Bool
time_left v d p e = leb (v.world.time + d) last_time

-- Refusal 9. "A clock would go back (d+e below 0) or be off by more than Δ." The clock is ahead by o.
abbrev pub offset_allows : Config → ℤ → ℕ → ℤ → Bool
offset_allows c o d e = not_negative d e and leb (nat_abs (o +ℤ e)) c.skew

unfoldable pub clock_allows : View → ℕ → ℕ → ℤ → Bool
clock_allows v d p e = offset_allows v.world.config (offset_of v.world.offsets p) d e

-- Refusal 10. "A pass would leave a live server more than ν without a notice about another." At true time t after it, server k, whose
-- last notice about server j was at h, had that within ν, or is that server.
abbrev pub has_heard : Config → ℕ → ℕ → ℕ → ℕ → Bool
has_heard c t k j h = eqb j k or leb t (h + c.detection)

-- server k, if it is alive, had one about every other, by its notice times
abbrev pub is_in_touch : Config → ℕ → ℕ → List ℕ → Bool → Bool
is_in_touch c t k row alive = not alive or all (λ j. has_heard c t k j (get_or row j 0)) c.servers

-- every server
abbrev pub are_in_touch : Config → ℕ → List (List ℕ) → (ℕ → Bool) → Bool
are_in_touch c t ts alive = all (λ k. is_in_touch c t k (notices_of ts k) (alive k)) c.servers

unfoldable pub in_touch : View → ℕ → ℕ → ℤ → Bool
in_touch v d p e = are_in_touch v.world.config (v.world.time + d) v.world.notices v.alive

-- Refusal 11. "A dead notice about a server alive for ν or more since c, or an alive notice about one dead for ν or more." True
-- time is t, and the server is alive or not since `changed`.
abbrev pub is_credible_notice : Config → ℕ → Bool → ℕ → ℕ → Bool
is_credible_notice c t alive changed says = cond (eqb says 1) alive (not alive) or ltb t (changed + c.detection)

unfoldable pub is_credible : View → ℕ → ℕ → Bool
is_credible v j says = is_credible_notice v.world.config v.world.time (v.alive j) (v.changed j) says

-- a test of a notice alone
unfoldable pub of_notice : (ℕ → ℕ → Bool) → Action → Bool
of_notice g (pass d p e) = true
of_notice g (fail k) = true
of_notice g (return k) = true
of_notice g (notice k j says) = g j says
of_notice g (discover i) = true
of_notice g (request i t) = true
of_notice g (renew i t) = true
of_notice g (deliver p keep) = true
of_notice g (lose p) = true
of_notice g (cleanup k) = true
of_notice g unknown = true

-- Refusal 12. "A new κ would be above 1,000,000."
unfoldable pub interaction_left : View → Action → Bool
interaction_left v (pass d p e) = true
interaction_left v (fail k) = true
interaction_left v (return k) = true
interaction_left v (notice k j says) = true
interaction_left v (discover i) = leb v.world.next last_interaction
interaction_left v (request i t) = true
interaction_left v (renew i t) = leb v.world.next last_interaction
interaction_left v (deliver p keep) = true
interaction_left v (lose p) = true
interaction_left v (cleanup k) = true
interaction_left v unknown = true

-- The effects.

abbrev pub accepted : Facade → ℕ → Answer
accepted f n = record { refusal = 0; outcome = n; facade = f }

-- "A refused step returns the facade it was given."
abbrev pub refused : Facade → ℕ → Answer
refused f n = record { refusal = n; outcome = 0; facade = f }

-- Step 1. "true time goes up by d .. and every clock by d, but that party's by d+e .."
abbrev pub moved : Facade → ℕ → ℕ → ℤ → Facade
moved f d p e = with_time f (f.time + d) (set f.offsets p (offset_at f p +ℤ e))

-- "A client holding an end not above its clock becomes idle." True time is t, the offsets are os and the clients ys.
unfoldable pub lapsed_at : Config → ℕ → List ℤ → List Client → ℕ → Client
lapsed_at c t os ys i = in_state (lapsed (clock_of t os (client_party c i)) (get_or ys i no_client).state)

unfoldable pub holds_ended : Config → ℕ → List ℤ → List Client → List Client
holds_ended c t os ys = filled (lapsed_at c t os ys) c.clients ys

unfoldable pub lapse : Facade → Facade
lapse f = with_clients f (holds_ended f.config f.time f.offsets f.clients)

-- Steps 2, 3, 4 and 10, and a message that comes: server k at true time t, whose clock reads r. Whether it is alive and since when is
-- written here, and all else by what the server itself does.
unfoldable pub server_after : Config → ℕ → ℕ → ℕ → Server → ServerEvent → Reaction Server
-- "it is dead, c is now"
server_after c t k r s Fails = answer (with_life s false t) Done nothing
-- "alive, c is now, .."
server_after c t k r s Returns = answer (with_life (after_return r s).after true t) Done nothing
server_after c t k r s (Notices j says) = noticed c k r s j says
server_after c t k r s (Receives m) = server_receives c k r s m
server_after c t k r s CleansUp = cleaned c r s

-- the notice times after it: "its notice times are now" of a return, "notice time is now" of a notice
unfoldable pub notices_after : List (List ℕ) → ℕ → ℕ → ServerEvent → List (List ℕ)
notices_after ts t k Fails = ts
notices_after ts t k Returns = set ts k (replicate 4 t)
notices_after ts t k (Notices j says) = set_notice ts k j t
notices_after ts t k (Receives m) = ts
notices_after ts t k CleansUp = ts

-- Steps 5, 6 and 7, and a message that comes: client i, whose clock reads r, where n is the next κ
unfoldable pub client_after : Config → ℕ → ℕ → ℕ → State → ClientEvent → Reaction Client
client_after c n i r x Discovers = discovers c i x n
client_after c n i r x (Requests t) = requests c i x t
client_after c n i r x (Renews t) = renews c i x t n
client_after c n i r x (Hears m) = client_receives r x m

-- the next κ after it: it "goes up by one at each discover or renew step"
unfoldable pub next_after : ℕ → ClientEvent → ℕ
next_after n Discovers = n + 1
next_after n (Requests t) = n
next_after n (Renews t) = n + 1
next_after n (Hears m) = n

-- Step 8. The message m "is handled" by the party that it is for.
unfoldable pub delivered : Config → Message → Deed
delivered c m = cond (is_server c m.receiver) (Serves m.receiver (Receives m)) (Asks (m.receiver - c.servers) (Hears m))

-- what happens in a step, where m is the message at the position that it names; a step that names none does not look at it
unfoldable pub deed_of : Config → Message → Action → Deed
deed_of c m (pass d p e) = Passes d p e
deed_of c m (fail k) = Serves k Fails
deed_of c m (return k) = Serves k Returns
deed_of c m (notice k j says) = Serves k (Notices j says)
deed_of c m (discover i) = Asks i Discovers
deed_of c m (request i t) = Asks i (Requests t)
deed_of c m (renew i t) = Asks i (Renews t)
deed_of c m (deliver p keep) = delivered c m
deed_of c m (lose p) = Rests
deed_of c m (cleanup k) = Serves k CleansUp
deed_of c m unknown = Rests

-- the position of a message that a step names
unfoldable pub position : Action → ℕ
position (pass d p e) = 0
position (fail k) = 0
position (return k) = 0
position (notice k j says) = 0
position (discover i) = 0
position (request i t) = 0
position (renew i t) = 0
position (deliver p keep) = p
position (lose p) = p
position (cleanup k) = 0
position unknown = 0

-- whether that message is taken out. Step 8: "if keep is 0 the message is taken out first". Step 9, lose, does nothing else.
unfoldable pub takes_out : Action → Bool
takes_out (pass d p e) = false
takes_out (fail k) = false
takes_out (return k) = false
takes_out (notice k j says) = false
takes_out (discover i) = false
takes_out (request i t) = false
takes_out (renew i t) = false
takes_out (deliver p keep) = eqb keep 0
takes_out (lose p) = true
takes_out (cleanup k) = false
takes_out unknown = false

unfoldable pub taken_out : Facade → Action → Facade
taken_out f x = without_if f (position x) (takes_out x)

-- server k is as it answered, and what it sends waits
abbrev pub server_acts : Facade → ℕ → Reaction Server → Answer
server_acts f k x = accepted (send_all (with_server f k x.after) x.outbox) (outcome_number x.outcome)

-- the same of client i
abbrev pub client_acts : Facade → ℕ → Reaction Client → Answer
client_acts f i x = accepted (send_all (with_client f i x.after) x.outbox) (outcome_number x.outcome)

-- server k of a facade after an event by its clock, s being its value
abbrev pub served : Facade → ℕ → Server → ServerEvent → Reaction Server
served f k s e = server_after f.config f.time k (clock f k) s e

-- client i of a facade after an event by its clock
abbrev pub asked : Facade → ℕ → ClientEvent → Reaction Client
asked f i e = client_after f.config f.next i (clock f (client_party f.config i)) (state_at f i) e

-- what happens in a facade
unfoldable pub enacted : Facade → Deed → Answer
enacted f Rests = accepted f 0
enacted f (Passes d p e) = accepted (lapse (moved f d p e)) 0
enacted f (Serves k e) = server_acts (with_notices f (notices_after f.notices f.time k e)) k (served f k (server_at f k) e)
enacted f (Asks i e) = client_acts (with_next f (next_after f.next e)) i (asked f i e)

-- the facade and the outcome of a step that is not refused
unfoldable pub effect : Facade → Action → Answer
effect f x = enacted (taken_out f x) (deed_of f.config (message_at f (position x)) x)

-- Refusal 13. "More than 128 messages would wait afterwards."
abbrev pub has_room : ℕ → Bool
has_room n = leb n most_waiting

abbrev pub full : Facade → ℕ
full f = unless (has_room f.waiting) 13 0

-- "Refusal list, checked from the top": the number of the first rule that is broken, or what the rules below give. Rules 4 and
-- 5, which a step alone can break:
unfoldable pub malformed : Action → ℕ → ℕ
malformed x below = unless (is_known x) 4 (unless (fields_in_range x) 5 below)

-- rules 6 to 12, which look at a view:
unfoldable pub barred : View → Action → ℕ → ℕ
barred v x below =
    unless (exists v x) 6
    (unless (state_allows v x) 7
    (unless (of_pass (time_left v) x) 8
    (unless (of_pass (clock_allows v) x) 9
    (unless (of_pass (in_touch v) x) 10
    (unless (of_notice (is_credible v) x) 11
    (unless (interaction_left v x) 12
    below))))))

-- rules 4 to 12:
unfoldable pub broken : View → Action → ℕ → ℕ
broken v x below = malformed x (barred v x below)

-- the number of the first rule that is broken, or 0
unfoldable pub refusal : Facade → Action → ℕ
refusal f x = unless (in_range f) 2 (broken (whole f) x (full (effect f x).facade))

-- refused with n, or the answer a where n is 0
abbrev pub unless_refused : Facade → ℕ → Answer → Answer
unless_refused f n a = cond (eqb n 0) a (refused f n)

-- refused with the first number, or accepted with its effect
unfoldable pub answer_to : Facade → Action → Answer
answer_to f x = unless_refused f (refusal f x) (effect f x)

-- the answer to a step, for every facade, kind number and fields
unfoldable pub step : Facade → Step → Answer
step f s = answer_to f (action_of s)

-- a list of steps: each gets the facade that the last one returned
unfoldable pub run : Facade → List Step → Facade
run f [] = f
run f (s ∷ ss) = run (step f s).facade ss

-- the answer to a configuration alone: the fresh facade, and refusal 2 where a number is outside its range
unfoldable pub start : Config → Answer
start c = record { refusal = unless (config_in_range c) 2 0; outcome = 0; facade = fresh c }

-- "how many clients hold", of the clients ys
unfoldable pub held_among : Config → List Client → ℕ
held_among c ys = counted (λ i. ltb i c.clients and is_holding (get_or ys i no_client).state) 32

abbrev pub held_clients : Facade → ℕ
held_clients f = held_among f.config f.clients
