-- What a device answers: one server or one client on its own, to whatever it is called with.
-- c is the configuration, r its clock reading; k and s are a server's number and value, i and y a client's.
-- A device knows neither true time nor the next interaction, so the widest bounds are taken: the last time, and the
-- interaction after the last.
use Rattle.std.specs.Prelude.{Bool, true, cond, [], ℕ, leb, ltb, eqb, Result, Ok, Err}
use Rattle.types.specs.declared.Config.{Config}
use Rattle.types.specs.declared.Server.{Server}
use Rattle.types.specs.declared.State.{State}
use Rattle.types.specs.declared.State.TheVariants.{Idle}
use Rattle.types.specs.declared.Client.{Client}
use Rattle.types.specs.declared.Message.{Message}
use Rattle.types.specs.declared.Outcome.TheVariants.{Done}
use Rattle.types.specs.declared.Reaction.{Reaction}
use Rattle.types.specs.declared.Refusal.{Refusal}
use Rattle.types.specs.Numbers.{refusal_number}
use Rattle.rules.specs.Conditions.{◌and◌, unless}
use Rattle.rules.specs.Parts.{client_party}
use Rattle.rules.specs.Views.{View}
use Rattle.rules.specs.Ranges.{config_in_range, last_time, after_last, reading_in_range, server_in_range, state_in_range, is_server, message_in_range}
use Rattle.rules.specs.Messages.{nothing, answer}
use Rattle.rules.specs.Server.{noticed, after_return, cleaned, server_receives}
use Rattle.rules.specs.Client.{reply, lapsed, discovers, requests, renews, client_receives}
use Rattle.rules.specs.Steps.{Action, notice, discover, request, renew, malformed, exists, state_allows, interaction_left}

-- The refusals: those of the paper that a device can tell by what it is handed.

-- What the rules see from a device: its configuration, the interaction q that it is handed, and a client's state x. Whether a
-- server is alive is the facade's to say, so every server counts as alive. Nothing else is looked at.
abbrev pub seen : Config → ℕ → State → View
seen c q x = record {
  world = record { config = c; time = 0; next = q; offsets = []; notices = []; waiting = 0 };
  alive = λ j. true;
  changed = λ j. 0;
  state = λ i. x;
}

-- "Refusal list, checked from the top": 2 unless all that is handed in fits, then the rules 5, 6, 7 and 12 on what the step says, x
unfoldable pub device_refusal : Bool → View → Action → ℕ
device_refusal fits v x =
    unless fits 2
    (malformed x
    (unless (exists v x) 6
    (unless (state_allows v x) 7
    (unless (interaction_left v x) 12
    0))))

-- the same of a message, a return, a cleanup and time that passes, which name only the device itself: "A named .. server,
-- client .. does not exist"
unfoldable pub own_refusal : Bool → Bool → ℕ
own_refusal fits there = unless fits 2 (unless there 6 0)

-- a message in range that is for party p: one for another party does not fit
unfoldable pub message_fits : Config → ℕ → Message → Bool
message_fits c p m = eqb m.receiver p and message_in_range c after_last m

-- The answers, of a server or a client p.

-- the refusal or 0, then its value, the outcome and what it sends
pub record Reply (T : Type 0) : Type 0 where
  pub refusal : ℕ
  pub answer : Reaction T

abbrev pub took : {T : Type 0} → Reaction T → Reply T
took x = record { refusal = 0; answer = x }

-- who is refused is as before, and sends nothing
abbrev pub refused : {T : Type 0} → T → ℕ → Reply T
refused p n = record { refusal = n; answer = answer p Done nothing }

-- of a result
abbrev pub reply_of : {T : Type 0} → T → Result (Reaction T) Refusal → Reply T
reply_of p (Ok x) = took x
reply_of p (Err n) = refused p (refusal_number n)

-- the answer x where nothing is refused
unfoldable pub guarded : {T : Type 0} → ℕ → T → Reaction T → Reply T
guarded n p x = cond (eqb n 0) (took x) (refused p n)

-- A server.

-- "A number of a configuration or of a facade handed in is outside its range."
unfoldable pub server_fits : Config → ℕ → Server → Bool
server_fits c r s = config_in_range c and reading_in_range r and server_in_range c last_time after_last s

unfoldable pub device_receives : Config → ℕ → ℕ → Server → Message → Reply Server
device_receives c k r s m =
    guarded (own_refusal (server_fits c r s and message_fits c k m) (is_server c k)) s (server_receives c k r s m)

-- a server sees no interaction and no client
unfoldable pub device_noticed : Config → ℕ → ℕ → Server → ℕ → ℕ → Reply Server
device_noticed c k r s about says =
    guarded (device_refusal (server_fits c r s) (seen c 0 Idle) (notice k about says)) s (noticed c k r s about says)

-- whether it was dead is not tested
unfoldable pub device_returned : Config → ℕ → ℕ → Server → Reply Server
device_returned c k r s = guarded (own_refusal (server_fits c r s) (is_server c k)) s (after_return r s)

unfoldable pub device_cleaned : Config → ℕ → ℕ → Server → Reply Server
device_cleaned c k r s = guarded (own_refusal (server_fits c r s) (is_server c k)) s (cleaned c r s)

-- A client.

unfoldable pub client_fits : Config → ℕ → State → Bool
client_fits c r x = config_in_range c and reading_in_range r and state_in_range c after_last x

unfoldable pub device_hears : Config → ℕ → ℕ → Client → Message → Reply Client
device_hears c i r y m =
    guarded (own_refusal (client_fits c r y.state and message_fits c (client_party c i) m) (ltb i c.clients)) y (client_receives r y.state m)

-- q is the new interaction: κ "starts at 1"
unfoldable pub device_discovers : Config → ℕ → ℕ → Client → ℕ → Reply Client
device_discovers c i r y q =
    guarded (device_refusal (client_fits c r y.state and leb 1 q) (seen c q y.state) (discover i)) y (discovers c i y.state q)

-- t is the wanted end; a request takes no new interaction
unfoldable pub device_requests : Config → ℕ → ℕ → Client → ℕ → Reply Client
device_requests c i r y t =
    guarded (device_refusal (client_fits c r y.state) (seen c 0 y.state) (request i t)) y (requests c i y.state t)

unfoldable pub device_renews : Config → ℕ → ℕ → Client → ℕ → ℕ → Reply Client
device_renews c i r y t q =
    guarded (device_refusal (client_fits c r y.state and leb 1 q) (seen c q y.state) (renew i t)) y (renews c i y.state t q)

-- time passes: a hold whose end is not above the clock ends
unfoldable pub device_lapses : Config → ℕ → ℕ → Client → Reply Client
device_lapses c i r y = guarded (own_refusal (client_fits c r y.state) (ltb i c.clients)) y (reply (lapsed r y.state) Done nothing)
