-- The worked examples of document 01: rows P1 to P12 and the run of the rig. Each is computed by `step` itself, refusal 2
-- included, but for the ranks of P12.
use Rattle.std.specs.Prelude.{Bool, true, false, List, [], ◌∷◌, ◌++◌, map, ℕ, ◌+◌, ◌-◌, set, take, replicate, pos, negsuc, Option, Some, None}
use Rattle.types.specs.declared.Config.{Config}
use Rattle.types.specs.declared.Reservation.{Reservation}
use Rattle.types.specs.declared.Server.{Server}
use Rattle.types.specs.declared.State.{State}
use Rattle.types.specs.declared.State.TheVariants.{Idle, Asking, Offered, Waiting, Holding}
use Rattle.types.specs.declared.Body.{Body}
use Rattle.types.specs.declared.Body.TheVariants.{Empty, Discover, Offer, Request, Renew, Write, WriteAck, Ack}
use Rattle.types.specs.declared.Message.{Message}
use Rattle.types.specs.declared.Facade.{Facade}
use Rattle.types.specs.declared.Step.{Step}
use Rattle.rules.specs.Answers.{Answer}
use Rattle.rules.specs.Conditions.{◌and◌, ◌or◌, is_within, unless, all, lowest, filled}
use Rattle.rules.specs.Clock.{as_signed}
use Rattle.rules.specs.Parts.{notice_at, believes, taken, server_at, state_at, leads_at, reserved_at, lent_at, potlease_at, message, in_state, no_message, with_life, with_server, with_time}
use Rattle.rules.specs.Ranges.{config_in_range, interaction_in_range, offset_in_range, reservation_in_range, write_in_range, address_in_range, server_in_range, notice_in_range, state_in_range, is_client, body_in_range, message_in_range, in_range}
use Rattle.rules.specs.Order.{rank, is_first}
use Rattle.rules.specs.Messages.{post_unless, to_servers, sent_behind, removed}
use Rattle.rules.specs.Server.{closed, leads_after, record_after, leading_with, noticed, after_return, freed_if_old, cleaned, is_free, offerable, offered, on_discover, lowest_offerable, granted, freed_if_of, dropped, grantable, on_request, on_renew, on_write, matches_write, acknowledged, on_write_ack, address_for, handled_at, is_request, server_handles, server_receives}
use Rattle.rules.specs.Client.{is_offered, is_holding, lapsed, discovers, requests, renews, asks_with, on_offer, expects, kept_end, on_ack, client_handles}
use Rattle.rules.specs.Steps.{fresh, action_of, is_known, fields_in_range, exists, state_allows, of_pass, time_left, clock_allows, in_touch, is_credible, of_notice, interaction_left, lapse, delivered, deed_of, takes_out, position, taken_out, enacted, server_after, notices_after, client_after, next_after, effect, broken, refusal, answer_to, step, run, holds_ended, malformed, barred, lapsed_at}
pub use Rattle.rules.specs.Steps.{step_of}

-- the answer to a step; to open this one is to open every rule that it takes
unfoldable pub answered : Facade → Step → Answer
unfolding ◌and◌ ◌or◌ is_within unless all lowest filled as_signed config_in_range interaction_in_range offset_in_range reservation_in_range write_in_range address_in_range server_in_range notice_in_range state_in_range is_client body_in_range message_in_range in_range rank is_first post_unless to_servers sent_behind removed leads_after record_after leading_with noticed after_return freed_if_old cleaned is_free offerable offered on_discover lowest_offerable granted freed_if_of dropped grantable on_request on_renew on_write matches_write acknowledged on_write_ack address_for handled_at is_request server_handles server_receives lapsed discovers requests renews asks_with on_offer expects kept_end on_ack client_handles fresh action_of is_known fields_in_range exists is_offered is_holding state_allows of_pass time_left clock_allows in_touch is_credible of_notice interaction_left lapse lapsed_at holds_ended delivered deed_of takes_out position taken_out enacted server_after notices_after client_after next_after effect broken malformed barred refusal answer_to step run
answered f s = step f s

-- The ten steps by their numbers. A signed field is in two's complement.

abbrev pub pass : ℕ → ℕ → ℕ → Step
pass d p e = step_of 1 d p e

abbrev pub fail : ℕ → Step
fail k = step_of 2 k 0 0

abbrev pub return : ℕ → Step
return k = step_of 3 k 0 0

abbrev pub notice : ℕ → ℕ → ℕ → Step
notice k j says = step_of 4 k j says

abbrev pub discover : ℕ → Step
discover i = step_of 5 i 0 0

abbrev pub request : ℕ → ℕ → Step
request i t = step_of 6 i t 0

abbrev pub renew : ℕ → ℕ → Step
renew i t = step_of 7 i t 0

abbrev pub deliver : ℕ → ℕ → Step
deliver p keep = step_of 8 p keep 0

abbrev pub lose : ℕ → Step
lose p = step_of 9 p 0 0

abbrev pub cleanup : ℕ → Step
cleanup k = step_of 10 k 0 0

abbrev pub config_of : ℕ → ℕ → ℕ → ℕ → ℕ → ℕ → ℕ → Config
config_of s c a skew detection mclt retention = record { servers = s; clients = c; addresses = a; skew = skew; detection = detection; mclt = mclt; retention = retention }

-- Rows P1 to P12, with Δ=2, ν=5, μ=50, θ=10.

unfoldable pub row_config : ℕ → ℕ → Config
row_config s a = config_of s 1 a 2 5 50 10

-- a server alive since c, with return reading r, that leads address 0 or does not; the reservation, lent end and record of that address
unfoldable pub server_of : ℕ → ℕ → Bool → Option Reservation → ℕ → ℕ → Server
server_of c r led x l v = record {
  alive = true;
  changed = c;
  returned = r;
  believed = replicate 4 true;
  leads = led ∷ replicate 31 false;
  reserved = x ∷ replicate 31 None;
  lent = l ∷ replicate 31 0;
  potlease = v ∷ replicate 31 0;
  writes = replicate 32 closed;
}

-- one of which nothing is asked
unfoldable pub plain : Server
plain = server_of 0 0 false None 0 0

-- at true time t, with all notices at h, client 0 in state x and n messages; server 0's clock is 2 ahead and the client's 1
-- behind, so that a clock is told from true time
unfoldable pub row_facade : ℕ → Server → Server → ℕ → State → List Message → ℕ → Facade
row_facade t s₀ s₁ h x ms n = record {
  config = row_config 2 1;
  time = t;
  next = 9;
  offsets = set (set (replicate 36 (pos 0)) 0 (pos 2)) 2 (negsuc 0);
  servers = s₀ ∷ replicate 3 s₁;
  notices = replicate 4 (replicate 4 h);
  clients = in_state x ∷ replicate 31 (in_state Idle);
  messages = ms ++ replicate (128 - n) no_message;
  waiting = n;
}

-- at clock reading r of server 0, which is s
unfoldable pub server_row : ℕ → Server → Facade
server_row r s = row_facade (r - 2) s plain (r - 2) Idle [] 0

-- the same with a message from client 0 to server 0
unfoldable pub mail_row : ℕ → Server → Body → Facade
mail_row r s b = row_facade (r - 2) s plain (r - 2) Idle (message 2 0 1 b ∷ []) 1

-- at clock reading r of client 0, in state x, with a message from server 0 to it
unfoldable pub client_row : ℕ → State → Body → Facade
client_row r x b = row_facade (r + 1) plain plain (r + 1) x (message 0 2 1 b ∷ []) 1

-- What is read off an answer.

unfoldable pub bit : Bool → ℕ
bit true = 1
bit false = 0

unfoldable pub held_until : State → ℕ
held_until Idle = 0
held_until (Asking q) = 0
held_until (Offered q a) = 0
held_until (Waiting q a) = 0
held_until (Holding a e q) = e

unfoldable pub is_taken : Option Reservation → Bool
is_taken None = false
is_taken (Some x) = true

-- the end that a message names
unfoldable pub end_named : Body → ℕ
end_named Empty = 0
end_named Discover = 0
end_named (Offer a) = 0
end_named (Request a t) = t
end_named (Renew a e t) = e
end_named (Write a v) = v
end_named (WriteAck a v) = v
end_named (Ack a e) = e

-- the ends in the waiting messages: after a grant the ack's and then the write's
unfoldable pub sent_ends : Facade → List ℕ
sent_ends f = map (λ m. end_named m.body) (take f.waiting f.messages)

-- refusal, outcome, and what else is read off
unfoldable pub reading : (Facade → List ℕ) → Answer → List ℕ
reading g x = x.refusal ∷ x.outcome ∷ g x.facade

-- P12: three servers, alive or dead as x, y and z say, and each of them hears the truth about the others.
-- The notices to a dead server, and about the receiver itself, are refused and change nothing.
unfoldable pub lives_if : ℕ → Bool → Facade → Facade
lives_if k true f = f
lives_if k false f = with_server f k (with_life (server_at f k) false 0)

unfoldable pub three_servers : Bool → Bool → Bool → Facade
three_servers x y z = lives_if 0 x (lives_if 1 y (lives_if 2 z (with_time (fresh (row_config 3 2)) 14 (replicate 36 (pos 0)))))

unfoldable pub notices : Bool → Bool → Bool → List Step
notices x y z =
    notice 0 0 (bit x) ∷ notice 0 1 (bit y) ∷ notice 0 2 (bit z) ∷ notice 1 0 (bit x) ∷ notice 1 1 (bit y) ∷ notice 1 2 (bit z) ∷ notice 2 0 (bit x) ∷ notice 2 1 (bit y) ∷ notice 2 2 (bit z) ∷ []

unfoldable pub leaders : ℕ → Facade → List ℕ
leaders a f = bit (leads_at (server_at f 0) a) ∷ bit (leads_at (server_at f 1) a) ∷ bit (leads_at (server_at f 2) a) ∷ []

-- The questions of the table, each with the numbers that the paper gives for it, and what is answered after refusal and outcome.
pub data Ask : Type 0 where
  request_at : ℕ → ℕ → ℕ → Ask  -- record, clock, τ: lent end, end in the ack, end in the write
  lead_at : ℕ → ℕ → ℕ → Ask  -- return reading, clock, record: whether it leads, record
  renew_at : ℕ → ℕ → ℕ → Ask  -- old end, clock, lent end: lent end, end in the ack, end in the write
  clean_at : ℕ → ℕ → Ask  -- reading of the reservation, clock: whether it is kept
  ack_at : ℕ → ℕ → Ask  -- end in the ack, clock: held until
  pass_to : ℕ → ℕ → Ask  -- held end, clock after a pass: held until
  dead_at : ℕ → ℕ → Ask  -- alive since, time: when the receiver last had a notice, whether it believes the server live
  silent_to : ℕ → ℕ → Ask  -- last notice, time after a pass that begins 2 later: the time then
  ranks : ℕ → ℕ → Ask  -- servers, address: the ranks of servers 0, 1, 2 (no step)
  lead_when : Bool → Bool → Bool → Ask  -- which of three servers live: who leads address 1 (several steps)

unfoldable pub answer : Ask → List ℕ
answer (request_at v r t) =
    reading (λ f. lent_at (server_at f 0) 0 ∷ sent_ends f) (answered (mail_row r (server_of 0 0 true None 0 v) (Request 0 t)) (deliver 0 0))
answer (lead_at r' r v) =
    reading (λ f. bit (leads_at (server_at f 0) 0) ∷ potlease_at (server_at f 0) 0 ∷ []) (answered (server_row r (server_of 0 r' false None 0 v)) (notice 0 1 1))
answer (renew_at e r l) =
    reading (λ f. lent_at (server_at f 0) 0 ∷ sent_ends f) (answered (mail_row r (server_of 0 0 true None l l) (Renew 0 e 0)) (deliver 0 0))
answer (clean_at r' r) =
    reading (λ f. bit (is_taken (reserved_at (server_at f 0) 0)) ∷ []) (answered (server_row r (server_of 0 0 true (taken 1 r') 0 0)) (cleanup 0))
answer (ack_at e r) = reading (λ f. held_until (state_at f 0) ∷ []) (answered (client_row r (Waiting 1 0) (Ack 0 e)) (deliver 0 0))
answer (pass_to e r) = reading (λ f. held_until (state_at f 0) ∷ []) (answered (client_row (r - 1) (Holding 0 e 1) (Ack 0 e)) (pass 1 0 0))
answer (dead_at c t) =
    reading (λ f. notice_at f 0 1 ∷ bit (believes (server_at f 0).believed 1) ∷ []) (answered (row_facade t plain (server_of c 0 false None 0 0) c Idle [] 0) (notice 0 1 0))
answer (silent_to t t') =
    reading (λ f. f.time ∷ []) (answered (row_facade (t + 2) plain plain t Idle [] 0) (pass (t' - (t + 2)) 0 0))
answer (ranks s a) = rank s a 0 ∷ rank s a 1 ∷ rank s a 2 ∷ []
answer (lead_when x y z) = leaders 1 (run (three_servers x y z) (notices x y z))

pub record Row : Type 0 where
  pub ask : Ask
  pub gives : List ℕ

unfoldable pub row : Ask → List ℕ → Row
row x g = record { ask = x; gives = g }

unfoldable pub table : List Row
table =
    row (request_at 100 104 0) (0 ∷ 1 ∷ 0 ∷ [])  -- P1
    ∷ row (request_at 100 105 0) (0 ∷ 0 ∷ 155 ∷ 155 ∷ 155 ∷ [])  -- P2
    ∷ row (lead_at 10 23 60) (0 ∷ 0 ∷ 0 ∷ 60 ∷ [])  -- P3
    ∷ row (lead_at 10 24 60) (0 ∷ 0 ∷ 1 ∷ 78 ∷ [])  -- P4
    ∷ row (lead_at 10 24 90) (0 ∷ 0 ∷ 1 ∷ 90 ∷ [])  -- P4
    ∷ row (renew_at 200 200 0) (0 ∷ 0 ∷ 250 ∷ 250 ∷ 250 ∷ [])  -- P5
    ∷ row (renew_at 200 200 300) (0 ∷ 0 ∷ 300 ∷ 300 ∷ 300 ∷ [])  -- P5
    ∷ row (renew_at 200 201 0) (0 ∷ 1 ∷ 0 ∷ [])  -- P6
    ∷ row (request_at 100 105 120) (0 ∷ 0 ∷ 155 ∷ 155 ∷ 155 ∷ [])  -- P7
    ∷ row (request_at 100 105 400) (0 ∷ 0 ∷ 155 ∷ 155 ∷ 400 ∷ [])  -- P7
    ∷ row (clean_at 30 40) (0 ∷ 0 ∷ 1 ∷ [])  -- P8
    ∷ row (clean_at 30 41) (0 ∷ 0 ∷ 0 ∷ [])  -- P8
    ∷ row (ack_at 155 154) (0 ∷ 0 ∷ 155 ∷ [])  -- P9
    ∷ row (ack_at 155 155) (0 ∷ 1 ∷ 0 ∷ [])  -- P9
    ∷ row (pass_to 155 154) (0 ∷ 0 ∷ 155 ∷ [])  -- P9, in a pass
    ∷ row (pass_to 155 155) (0 ∷ 0 ∷ 0 ∷ [])  -- P9, in a pass
    ∷ row (dead_at 20 24) (0 ∷ 0 ∷ 24 ∷ 0 ∷ [])  -- P10
    ∷ row (dead_at 20 25) (11 ∷ 0 ∷ 20 ∷ 1 ∷ [])  -- P10
    ∷ row (silent_to 20 25) (0 ∷ 0 ∷ 25 ∷ [])  -- P11
    ∷ row (silent_to 20 26) (10 ∷ 0 ∷ 22 ∷ [])  -- P11
    ∷ row (ranks 3 1) (2 ∷ 0 ∷ 1 ∷ [])  -- P12
    ∷ row (lead_when true true true) (0 ∷ 1 ∷ 0 ∷ [])  -- P12, 1 is first
    ∷ row (lead_when true false true) (0 ∷ 0 ∷ 1 ∷ [])  -- P12, 2 is next
    ∷ row (lead_when true false false) (1 ∷ 0 ∷ 0 ∷ [])  -- P12, 0 is last
    ∷ row (lead_when true true false) (0 ∷ 1 ∷ 0 ∷ [])  -- P12, 1 comes before 0
    ∷ []

-- The run of the rig.

unfoldable pub rig : List Step
rig =
    pass 5 0 0 ∷ notice 0 1 1 ∷ notice 1 0 1 ∷ pass 5 0 0 ∷ notice 0 1 1 ∷ notice 1 0 1 ∷ pass 5 0 0
    ∷ discover 0 ∷ deliver 0 0 ∷ deliver 1 0 ∷ request 0 100 ∷ deliver 1 0 ∷ deliver 2 0 ∷ discover 0 ∷ []

unfoldable pub rig_start : Facade
rig_start = fresh (config_of 2 1 1 0 5 4 10)

-- what is printed for each step but its number: refusal, outcome, true time, waiting messages
unfoldable pub line_of : Answer → List ℕ
line_of x = x.refusal ∷ x.outcome ∷ x.facade.time ∷ x.facade.waiting ∷ []

unfoldable pub lines : Facade → List Step → List (List ℕ)
lines f [] = []
lines f (s ∷ ss) = line_of (answered f s) ∷ lines (answered f s).facade ss

unfoldable pub printed : List (List ℕ)
printed =
    (0 ∷ 0 ∷ 5 ∷ 0 ∷ [])
    ∷ (0 ∷ 0 ∷ 5 ∷ 0 ∷ [])
    ∷ (0 ∷ 0 ∷ 5 ∷ 0 ∷ [])
    ∷ (0 ∷ 0 ∷ 10 ∷ 0 ∷ [])
    ∷ (0 ∷ 0 ∷ 10 ∷ 0 ∷ [])
    ∷ (0 ∷ 0 ∷ 10 ∷ 0 ∷ [])
    ∷ (0 ∷ 0 ∷ 15 ∷ 0 ∷ [])
    ∷ (0 ∷ 0 ∷ 15 ∷ 2 ∷ [])
    ∷ (0 ∷ 0 ∷ 15 ∷ 2 ∷ [])
    ∷ (0 ∷ 0 ∷ 15 ∷ 1 ∷ [])
    ∷ (0 ∷ 0 ∷ 15 ∷ 3 ∷ [])
    ∷ (0 ∷ 0 ∷ 15 ∷ 4 ∷ [])
    ∷ (0 ∷ 0 ∷ 15 ∷ 3 ∷ [])
    ∷ (7 ∷ 0 ∷ 15 ∷ 3 ∷ [])
    ∷ []
