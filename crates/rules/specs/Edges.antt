-- The edges of the refusals from 2 on (3 is of bytes, and comes from no step): each bound, one past it, and steps that break
-- two rules at once.
-- One table; the claims about it, computed by `step`, are in proofs/.
use Rattle.std.specs.Prelude.{true, false, cond, List, [], ◌∷◌, ◌++◌, map, ℕ, ◌+◌, ◌-◌, eqb, set, replicate, ℤ, pos, negsuc}
use Rattle.types.specs.declared.Server.{Server}
use Rattle.types.specs.declared.Binding.{Binding}
use Rattle.types.specs.declared.State.{State}
use Rattle.types.specs.declared.State.TheVariants.{Idle, Asking, Offered, Waiting, Holding}
use Rattle.types.specs.declared.Body.TheVariants.{Empty, Discover, Offer, Request, Renew, Write, WriteAck, Ack}
use Rattle.types.specs.declared.Message.{Message}
use Rattle.types.specs.declared.Facade.{Facade}
use Rattle.types.specs.declared.Step.{Step}
use Rattle.rules.specs.Answers.{Answer}
use Rattle.rules.specs.Parts.{taken, server_at, set_notice, message, no_message, in_state, with_life, with_leading, binding_at, with_binding, with_reservation, with_lease, with_server, with_client, with_time, with_next, with_notices, with_messages}
use Rattle.rules.specs.Server.{opened, closed}
use Rattle.rules.specs.Steps.{fresh}
use Rattle.rules.specs.Examples.{answered, step_of, pass, fail, return, notice, discover, request, renew, deliver, lose, cleanup, config_of}

-- a facade, a step, and the refusal and outcome that it has
pub record Row : Type 0 where
  pub given : Facade
  pub asked : Step
  pub refusal : ℕ
  pub outcome : ℕ

row : Facade → Step → ℕ → Row
row f s n = record { given = f; asked = s; refusal = n; outcome = 0 }

-- accepted, with outcome n
row_outcome : Facade → Step → ℕ → Row
row_outcome f s n = record { given = f; asked = s; refusal = 0; outcome = n }

-- a facade in range, and one out of range
sound : Facade → Row
sound f = row f (cleanup 0) 0

faulty : Facade → Row
faulty f = row f (cleanup 0) 2

-- Changes to a facade, from left to right.

infixl 4 ◌▷◌
unfoldable pub ◌▷◌ : Facade → (Facade → Facade) → Facade
f ▷ g = g f

-- true time t, at which all had their notices
at : ℕ → Facade → Facade
at t f = with_notices (with_time f t f.offsets) (replicate 4 (replicate 4 t))

next : ℕ → Facade → Facade
next n f = with_next f n

-- the clock of party p is o ahead
ahead : ℕ → ℤ → Facade → Facade
ahead p o f = with_time f f.time (set f.offsets p o)

-- server k last had a notice about server j at t
heard : ℕ → ℕ → ℕ → Facade → Facade
heard k j t f = with_notices f (set_notice f.notices k j t)

client : ℕ → State → Facade → Facade
client i x f = with_client f i (in_state x)

server : ℕ → (Server → Server) → Facade → Facade
server k g f = with_server f k (g (server_at f k))

-- server k is alive, or dead, since t
alive : ℕ → ℕ → Facade → Facade
alive k t f = server k (λ s. with_life s true t) f

dead : ℕ → ℕ → Facade → Facade
dead k t f = server k (λ s. with_life s false t) f

-- the facade that a step returns
after : Step → Facade → Facade
after s f = (answered f s).facade

-- what a server stores: its return reading, that it leads all addresses, and for address a the rest
back : ℕ → Server → Server
back r s = record { alive = s.alive; changed = s.changed; returned = r; believed = s.believed; leads = s.leads; reserved = s.reserved; lent = s.lent; potlease = s.potlease; writes = s.writes }

leading : Server → Server
leading s = with_leading s s.believed (replicate 32 true) s.potlease

keeping : ℕ → (Binding → Binding) → Server → Server
keeping a g s = with_binding s a (g (binding_at s a))

reserves : ℕ → ℕ → ℕ → Server → Server
reserves a q r s = keeping a (λ b. with_reservation b (taken q r)) s

lends : ℕ → ℕ → Server → Server
lends a e s = keeping a (λ b. with_lease b e b.potlease closed) s

records : ℕ → ℕ → Server → Server
records a v s = keeping a (λ b. with_lease b b.lent v b.write) s

writes : ℕ → ℕ → ℕ → Server → Server
writes a q v s = keeping a (λ b. with_lease b 0 b.potlease (opened q v (replicate 4 true))) s

-- n waiting messages, all m; the places behind them hold the same
mail : ℕ → Message → Facade → Facade
mail n m f = with_messages f (replicate 129 m) n

write : Message
write = message 1 0 3 (Write 0 50)

-- eight waiting writes, but m at place p
mixed : ℕ → Message → Facade → Facade
mixed p m f = with_messages f (set (replicate 128 write) p m) 8

-- a signed field: −n
unfoldable pub minus : ℕ → ℕ
minus n = 4294967296 - n

-- the last end and the last clock reading in range, as the paper has them: the table does not follow the rules
greatest_end : ℕ
greatest_end = 2000000000

greatest_reading : ℕ
greatest_reading = 1000001000

-- The facades of the table.

-- Three servers, four clients (parties 3 to 6) and two addresses, with Δ = 2 and ν = 5, at time 100; the next κ is 9.
-- Server 2 is dead, client 1 offered, client 2 holding, the others idle, and a write waits: there is a step of each kind to accept.
base : Facade
base =
    fresh (config_of 3 4 2 2 5 50 10) ▷ at 100 ▷ next 9 ▷ alive 0 100 ▷ alive 1 100 ▷ dead 2 100
    ▷ client 1 (Offered 1 0) ▷ client 2 (Holding 1 150 2) ▷ mail 1 write

-- all servers alive
awake : Facade
awake = base ▷ alive 2 100

-- all dead: nobody is there to miss a notice
silent : Facade
silent = base ▷ dead 0 0 ▷ dead 1 0

-- the same with Δ = 1,000, the clock of party 0 as far behind as it may be and that of party 3 as far ahead
loose : Facade
loose = fresh (config_of 3 4 2 1000 5 50 10) ▷ at 10000 ▷ dead 0 0 ▷ dead 1 0 ▷ dead 2 0 ▷ ahead 0 (negsuc 999) ▷ ahead 3 (pos 1000)

-- time and clocks at 0
new : Facade
new = fresh (config_of 3 4 2 2 5 50 10)

-- n waiting writes; n requests that one of four servers grants; n discovers that are answered by an offer
full : ℕ → Facade
full n = base ▷ mail n write

granting : ℕ → Facade
granting n = fresh (config_of 4 2 2 2 5 50 10) ▷ at 100 ▷ next 9 ▷ server 3 leading ▷ server 3 (reserves 0 1 0) ▷ mail n (message 4 3 1 (Request 1 0))

offering : ℕ → Facade
offering n = base ▷ server 1 leading ▷ mail n (message 3 1 1 Discover)

-- Refusal 2, the configuration: all lower bounds, all upper bounds, and one past each.
configs : List Row
configs =
    map (λ c. sound (fresh c)) (config_of 2 1 1 0 1 1 0 ∷ config_of 4 32 32 1000 10000 1000000 1000000 ∷ [])
    ++ map (λ c. faulty (fresh c))
    (config_of 1 4 2 2 5 50 10 ∷ config_of 5 4 2 2 5 50 10
    ∷ config_of 3 0 2 2 5 50 10 ∷ config_of 3 33 2 2 5 50 10
    ∷ config_of 3 4 0 2 5 50 10 ∷ config_of 3 4 33 2 5 50 10
    ∷ config_of 3 4 2 1001 5 50 10
    ∷ config_of 3 4 2 2 0 50 10 ∷ config_of 3 4 2 2 10001 50 10
    ∷ config_of 3 4 2 2 5 0 10 ∷ config_of 3 4 2 2 5 1000001 10
    ∷ config_of 3 4 2 2 5 50 1000001
    ∷ [])

-- 2: true time, the next κ, the count, the clocks
counts : List Row
counts =
    sound (base ▷ at 1000000000) ∷ faulty (base ▷ at 1000000001)
    ∷ faulty (new ▷ next 0) ∷ sound (new ▷ next 1) ∷ sound (base ▷ next 1000001) ∷ faulty (base ▷ next 1000002)
    ∷ sound (full 128) ∷ faulty (full 129)
    ∷ sound (base ▷ ahead 0 (pos 2)) ∷ faulty (base ▷ ahead 0 (pos 3))
    ∷ sound (base ▷ ahead 6 (negsuc 1)) ∷ faulty (base ▷ ahead 6 (negsuc 2))
    -- the dead have clocks too, and there is no party 7
    ∷ faulty (base ▷ ahead 2 (pos 3)) ∷ faulty (base ▷ ahead 2 (negsuc 2147483647)) ∷ sound (base ▷ ahead 7 (pos 3))
    -- a clock at 0, and below
    ∷ sound (new ▷ at 1 ▷ ahead 0 (negsuc 0)) ∷ faulty (new ▷ at 1 ▷ ahead 0 (negsuc 1)) ∷ faulty (new ▷ ahead 6 (negsuc 0))
    ∷ []

-- 2: the servers, dead or not, to the last one and its last address
stored : List Row
stored =
    sound (base ▷ alive 1 100) ∷ faulty (base ▷ alive 1 101) ∷ faulty (base ▷ alive 0 101)
    ∷ sound (base ▷ dead 2 100) ∷ faulty (base ▷ dead 2 101) ∷ sound (base ▷ dead 3 101)
    ∷ sound (base ▷ heard 0 1 100) ∷ faulty (base ▷ heard 0 1 101) ∷ faulty (base ▷ heard 1 2 101) ∷ faulty (base ▷ heard 2 0 101)
    -- nobody has notices about itself, and there is no server 3
    ∷ sound (base ▷ heard 0 0 101 ▷ heard 2 2 101 ▷ heard 0 3 101 ▷ heard 3 0 101)
    -- no limit says who may lead or hold, or what is above the clock
    ∷ sound (base ▷ server 0 leading ▷ server 1 leading ▷ client 0 (Holding 1 0 1) ▷ client 1 (Holding 1 0 1))
    ∷ map (λ g. sound (base ▷ server 2 g))
    (back greatest_reading ∷ reserves 1 1 0 ∷ reserves 1 8 greatest_reading ∷ lends 1 greatest_end ∷ records 1 greatest_end ∷ writes 1 1 0 ∷ writes 1 8 greatest_end
    -- there is no address 2
    ∷ reserves 2 0 (greatest_reading + 1) ∷ lends 2 (greatest_end + 1) ∷ records 2 (greatest_end + 1) ∷ writes 2 9 (greatest_end + 1) ∷ [])
    ++ map (λ g. faulty (base ▷ server 2 g))
    (back (greatest_reading + 1)
    ∷ reserves 1 0 0 ∷ reserves 1 9 0 ∷ reserves 0 9 0 ∷ reserves 1 8 (greatest_reading + 1)
    ∷ lends 1 (greatest_end + 1) ∷ lends 0 (greatest_end + 1) ∷ records 1 (greatest_end + 1) ∷ records 0 (greatest_end + 1)
    ∷ writes 1 0 0 ∷ writes 1 9 0 ∷ writes 0 9 0 ∷ writes 1 8 (greatest_end + 1)
    ∷ [])

-- 2: the clients, to the last one; there is no client 4
states : List Row
states =
    faulty (base ▷ client 0 (Asking 9)) ∷ sound (base ▷ client 4 (Asking 9))
    ∷ map (λ x. sound (base ▷ client 3 x))
    (Asking 1 ∷ Asking 8 ∷ Offered 1 1 ∷ Offered 8 1 ∷ Waiting 1 1 ∷ Waiting 8 1 ∷ Holding 1 0 1 ∷ Holding 1 greatest_end 8 ∷ [])
    ++ map (λ x. faulty (base ▷ client 3 x))
    (Asking 0 ∷ Asking 9 ∷ Offered 0 1 ∷ Offered 9 1 ∷ Offered 8 2 ∷ Waiting 0 1 ∷ Waiting 9 1 ∷ Waiting 8 2
    ∷ Holding 2 150 8 ∷ Holding 1 (greatest_end + 1) 8 ∷ Holding 1 150 0 ∷ Holding 1 150 9
    ∷ [])

-- 2: a waiting message; parties 0 to 2 are servers, 3 to 6 clients. A write to itself is not excluded.
letters : List Row
letters =
    map (λ m. sound (base ▷ mail 1 m))
    (message 3 0 1 Discover ∷ message 6 2 8 Discover
    ∷ message 0 3 1 (Offer 0) ∷ message 2 6 8 (Offer 1)
    ∷ message 3 2 8 (Request 1 greatest_end) ∷ message 6 0 8 (Request 1 0)
    ∷ message 3 2 8 (Renew 1 greatest_end greatest_end) ∷ message 6 0 8 (Renew 1 0 0)
    ∷ message 0 2 8 (Write 1 greatest_end) ∷ message 2 0 8 (Write 0 0) ∷ message 2 2 8 (Write 0 0)
    ∷ message 0 2 8 (WriteAck 1 greatest_end) ∷ message 2 0 8 (WriteAck 0 0) ∷ message 2 2 8 (WriteAck 0 0)
    ∷ message 0 3 8 (Ack 1 greatest_end) ∷ message 2 6 8 (Ack 0 0)
    ∷ [])
    ++ map (λ m. faulty (base ▷ mail 1 m))
    (message 3 0 1 Empty ∷ message 3 0 0 Discover ∷ message 3 0 9 Discover
    ∷ message 2 0 1 Discover ∷ message 7 0 1 Discover ∷ message 3 3 1 Discover
    ∷ message 3 3 1 (Offer 0) ∷ message 0 2 1 (Offer 0) ∷ message 0 7 1 (Offer 0) ∷ message 0 3 1 (Offer 2)
    ∷ message 2 0 1 (Request 0 0) ∷ message 7 0 1 (Request 0 0) ∷ message 3 3 1 (Request 0 0)
    ∷ message 3 0 1 (Request 2 0) ∷ message 3 0 1 (Request 0 (greatest_end + 1))
    ∷ message 2 0 1 (Renew 0 0 0) ∷ message 7 0 1 (Renew 0 0 0) ∷ message 3 3 1 (Renew 0 0 0)
    ∷ message 3 0 1 (Renew 2 0 0) ∷ message 3 0 1 (Renew 0 (greatest_end + 1) 0) ∷ message 3 0 1 (Renew 0 0 (greatest_end + 1))
    ∷ message 3 0 1 (Write 0 0) ∷ message 0 3 1 (Write 0 0) ∷ message 0 1 1 (Write 2 0) ∷ message 0 1 1 (Write 0 (greatest_end + 1))
    ∷ message 3 0 1 (WriteAck 0 0) ∷ message 0 3 1 (WriteAck 0 0) ∷ message 0 1 1 (WriteAck 2 0) ∷ message 0 1 1 (WriteAck 0 (greatest_end + 1))
    ∷ message 3 3 1 (Ack 0 0) ∷ message 0 2 1 (Ack 0 0) ∷ message 0 7 1 (Ack 0 0) ∷ message 0 3 1 (Ack 2 0) ∷ message 0 3 1 (Ack 0 (greatest_end + 1))
    ∷ [])
    -- all that wait are looked at, and the place behind them is not
    ++ (faulty (base ▷ mixed 0 no_message) ∷ faulty (base ▷ mixed 7 no_message) ∷ sound (base ▷ mixed 8 no_message) ∷ [])

-- Refusal 4. A kind is a whole number and not a byte; a field that a kind does not have is not read.
kinds : List Row
kinds =
    map (λ s. row base s 0)
    (step_of 1 1 0 0 ∷ step_of 2 0 999 999 ∷ step_of 3 2 999 999 ∷ step_of 4 0 1 1 ∷ step_of 5 0 999 999
    ∷ step_of 6 1 0 999 ∷ step_of 7 2 0 999 ∷ step_of 8 0 0 999 ∷ step_of 9 0 999 999 ∷ step_of 10 0 999 999
    ∷ [])
    ++ map (λ s. row base s 4) (step_of 0 1 0 0 ∷ step_of 11 1 0 0 ∷ step_of 255 1 0 0 ∷ step_of 257 1 0 0 ∷ step_of 266 0 0 0 ∷ [])

-- Refusal 5.
fields : List Row
fields =
    row silent (pass 0 0 0) 5 ∷ row silent (pass 1 0 0) 0 ∷ row silent (pass 100000 0 0) 0 ∷ row silent (pass 100001 0 0) 5
    ∷ row loose (pass 2001 0 2000) 0 ∷ row loose (pass 2001 0 2001) 5 ∷ row loose (pass 2001 0 2147483647) 5
    ∷ row loose (pass 2001 3 (minus 2000)) 0 ∷ row loose (pass 2001 3 (minus 2001)) 5 ∷ row loose (pass 2001 3 2147483648) 5
    ∷ row base (request 1 greatest_end) 0 ∷ row base (request 1 (greatest_end + 1)) 5
    ∷ row base (renew 2 greatest_end) 0 ∷ row base (renew 2 (greatest_end + 1)) 5
    ∷ row base (deliver 0 0) 0 ∷ row base (deliver 0 1) 0 ∷ row base (deliver 0 2) 5 ∷ row base (deliver 0 256) 5
    ∷ row base (notice 0 1 0) 0 ∷ row base (notice 0 1 1) 0 ∷ row base (notice 0 1 2) 5 ∷ row base (notice 0 1 256) 5
    ∷ []

-- Refusal 6: the last of each, and one past it.
names : List Row
names =
    row base (pass 1 6 0) 0 ∷ row base (pass 1 7 0) 6
    ∷ row awake (fail 2) 0 ∷ row awake (fail 3) 6
    ∷ row base (return 2) 0 ∷ row (base ▷ dead 3 0) (return 3) 6
    ∷ row awake (notice 2 0 1) 0 ∷ row awake (notice 3 0 1) 6
    ∷ row awake (notice 0 2 1) 0 ∷ row awake (notice 0 3 1) 6 ∷ row awake (notice 0 0 1) 6 ∷ row awake (notice 2 2 0) 6
    ∷ row base (discover 3) 0 ∷ row base (discover 4) 6
    ∷ row (base ▷ client 3 (Offered 1 0)) (request 3 0) 0 ∷ row (base ▷ client 4 (Offered 1 0)) (request 4 0) 6
    ∷ row (base ▷ client 3 (Holding 1 150 2)) (renew 3 0) 0 ∷ row (base ▷ client 4 (Holding 1 150 2)) (renew 4 0) 6
    ∷ row base (deliver 0 0) 0 ∷ row base (deliver 1 0) 6
    ∷ row base (lose 0) 0 ∷ row base (lose 1) 6
    ∷ row awake (cleanup 2) 0 ∷ row awake (cleanup 3) 6
    ∷ []

-- Refusal 7. It is the receiver of a notice that has to be alive.
conditions : List Row
conditions =
    row base (fail 1) 0 ∷ row base (fail 2) 7
    ∷ row base (return 2) 0 ∷ row base (return 1) 7
    ∷ row base (notice 1 2 0) 0 ∷ row base (notice 2 1 1) 7
    ∷ row base (cleanup 1) 0 ∷ row base (cleanup 2) 7
    ∷ map (λ x. row (base ▷ client 0 x) (discover 0) 0) (Idle ∷ Asking 1 ∷ Offered 1 0 ∷ Waiting 1 0 ∷ [])
    ++ map (λ x. row (base ▷ client 0 x) (discover 0) 7) (Holding 0 150 1 ∷ [])
    ++ map (λ x. row (base ▷ client 0 x) (request 0 0) 0) (Offered 1 0 ∷ [])
    ++ map (λ x. row (base ▷ client 0 x) (request 0 0) 7) (Idle ∷ Asking 1 ∷ Waiting 1 0 ∷ Holding 0 150 1 ∷ [])
    ++ map (λ x. row (base ▷ client 0 x) (renew 0 0) 0) (Holding 0 150 1 ∷ [])
    ++ map (λ x. row (base ▷ client 0 x) (renew 0 0) 7) (Idle ∷ Asking 1 ∷ Offered 1 0 ∷ Waiting 1 0 ∷ [])

-- Refusals 8, 9 and 10.
passes : List Row
passes =
    row (base ▷ at 999999999) (pass 1 0 0) 0 ∷ row (base ▷ at 999999999) (pass 2 0 0) 8 ∷ row (base ▷ at 1000000000) (pass 1 0 0) 8
    -- 9: d+e is 0 and −1, the named clock off by 2 and by 3
    ∷ row base (pass 1 0 (minus 1)) 0 ∷ row base (pass 1 0 (minus 2)) 9
    ∷ row base (pass 5 0 2) 0 ∷ row base (pass 5 0 3) 9 ∷ row base (pass 5 2 3) 9
    ∷ row base (pass 5 6 (minus 2)) 0 ∷ row base (pass 5 6 (minus 3)) 9
    ∷ row (base ▷ ahead 0 (pos 2)) (pass 5 0 (minus 4)) 0 ∷ row (base ▷ ahead 0 (pos 2)) (pass 5 0 1) 9 ∷ row (base ▷ ahead 0 (pos 2)) (pass 5 1 1) 0
    ∷ row (base ▷ ahead 4 (negsuc 1)) (pass 5 4 4) 0 ∷ row (base ▷ ahead 4 (negsuc 1)) (pass 5 4 (minus 1)) 9
    -- 10: ν and one more, of each live server about each other one, dead or not
    ∷ row base (pass 5 0 0) 0 ∷ row base (pass 6 0 0) 10
    ∷ row (base ▷ heard 0 1 99) (pass 4 0 0) 0 ∷ row (base ▷ heard 0 1 99) (pass 5 0 0) 10 ∷ row (base ▷ heard 0 2 99) (pass 5 0 0) 10
    ∷ row (base ▷ heard 1 0 99) (pass 5 0 0) 10 ∷ row (base ▷ heard 1 2 99) (pass 5 0 0) 10 ∷ row (awake ▷ heard 2 1 99) (pass 5 0 0) 10
    ∷ row (base ▷ heard 2 0 0 ▷ heard 2 1 0) (pass 5 0 0) 0 ∷ row (base ▷ heard 0 0 0 ▷ heard 1 1 0) (pass 5 0 0) 0
    ∷ row (base ▷ heard 0 3 0 ▷ heard 3 0 0) (pass 5 0 0) 0
    ∷ []

-- Refusal 11: untrue for ν − 1, and for ν. What is true is always taken, and the receiver's own c is not looked at.
untrue : List Row
untrue =
    row (base ▷ alive 1 96) (notice 0 1 0) 0 ∷ row (base ▷ alive 1 95) (notice 0 1 0) 11 ∷ row (base ▷ alive 1 0) (notice 0 1 1) 0
    ∷ row (base ▷ dead 2 96) (notice 0 2 1) 0 ∷ row (base ▷ dead 2 95) (notice 0 2 1) 11 ∷ row (base ▷ dead 2 0) (notice 0 2 0) 0
    ∷ row (base ▷ alive 0 0) (notice 0 1 0) 0
    ∷ []

-- Refusal 12: the last κ is used. A request takes none.
spent : List Row
spent =
    row (base ▷ next 1000000) (discover 0) 0 ∷ row (base ▷ next 1000001) (discover 0) 12
    ∷ row (base ▷ next 1000000) (renew 2 0) 0 ∷ row (base ▷ next 1000001) (renew 2 0) 12
    ∷ row (base ▷ next 1000001) (request 1 0) 0
    ∷ []

-- Refusal 13: what is taken out counts, and what is sent.
crowded : List Row
crowded =
    row (full 125) (discover 0) 0 ∷ row (full 126) (discover 0) 13
    ∷ row (full 125) (request 1 0) 0 ∷ row (full 126) (request 1 0) 13
    ∷ row (full 125) (renew 2 0) 0 ∷ row (full 126) (renew 2 0) 13
    -- one write ack, one offer, and a grant's four messages
    ∷ row (full 128) (deliver 127 0) 0 ∷ row (full 127) (deliver 0 1) 0 ∷ row (full 128) (deliver 0 1) 13
    ∷ row (offering 128) (deliver 0 0) 0 ∷ row (offering 127) (deliver 0 1) 0 ∷ row (offering 128) (deliver 0 1) 13
    ∷ row (granting 125) (deliver 0 0) 0 ∷ row (granting 126) (deliver 0 0) 13 ∷ row (granting 124) (deliver 0 1) 0 ∷ row (granting 125) (deliver 0 1) 13
    -- nothing is sent by the dead, where a condition is not met, or on an offer, an ack or a write ack
    ∷ row_outcome (full 128 ▷ dead 0 0) (deliver 0 1) 2
    ∷ row_outcome (base ▷ mail 128 (message 3 0 1 Discover)) (deliver 0 1) 1
    ∷ row_outcome (base ▷ mail 128 (message 3 0 1 (Request 0 0))) (deliver 0 1) 1
    ∷ row (base ▷ client 0 (Asking 1) ▷ mail 128 (message 0 3 1 (Offer 0))) (deliver 0 1) 0
    ∷ row (base ▷ mail 128 (message 0 5 2 (Ack 1 160))) (deliver 0 1) 0
    ∷ row (base ▷ server 0 leading ▷ server 0 (writes 0 1 50) ▷ mail 128 (message 1 0 1 (WriteAck 0 50))) (deliver 0 1) 0
    ∷ row (full 128) (lose 127) 0
    ∷ []

-- Outcome 1, and what a step leaves for a later one: with m delivered to what f is then.
sees : Facade → Message → ℕ → Row
sees f m n = row_outcome (f ▷ mail 1 m) (deliver 0 0) n

outcomes : List Row
outcomes =
    -- an offer: asking, κ
    sees (base ▷ client 0 (Asking 1)) (message 0 3 1 (Offer 0)) 0 ∷ sees (base ▷ client 0 (Asking 1)) (message 0 3 2 (Offer 0)) 1
    ∷ sees (base ▷ client 0 (Offered 1 0)) (message 0 3 1 (Offer 1)) 1
    -- an ack: waiting or holding, κ, address; a shorter end too
    ∷ sees (base ▷ client 0 (Waiting 1 0)) (message 0 3 1 (Ack 0 150)) 0 ∷ sees (base ▷ client 0 (Waiting 1 0)) (message 0 3 2 (Ack 0 150)) 1
    ∷ sees (base ▷ client 0 (Waiting 1 0)) (message 0 3 1 (Ack 1 150)) 1 ∷ sees (base ▷ client 0 (Offered 1 0)) (message 0 3 1 (Ack 0 150)) 1
    ∷ sees base (message 0 5 2 (Ack 1 120)) 0 ∷ sees base (message 0 5 1 (Ack 1 160)) 1 ∷ sees base (message 0 5 2 (Ack 0 160)) 1
    -- a write ack: led, κ, v
    ∷ sees (base ▷ server 0 leading ▷ server 0 (writes 0 1 50)) (message 1 0 1 (WriteAck 0 50)) 0
    ∷ sees (base ▷ server 0 leading ▷ server 0 (writes 0 1 50)) (message 1 0 2 (WriteAck 0 50)) 1
    ∷ sees (base ▷ server 0 leading ▷ server 0 (writes 0 1 50)) (message 1 0 1 (WriteAck 0 51)) 1
    ∷ sees (base ▷ server 0 (writes 0 1 50)) (message 1 0 1 (WriteAck 0 50)) 1
    -- a renew has taken κ 9, and the earlier one is no longer awaited
    ∷ sees (base ▷ after (renew 2 0)) (message 0 5 9 (Ack 1 160)) 0 ∷ sees (base ▷ after (renew 2 0)) (message 0 5 2 (Ack 1 160)) 1
    -- a request that is not granted has dropped the reservations of its κ at both addresses, and no other
    ∷ sees (base ▷ server 0 leading ▷ server 0 (reserves 1 1 100) ▷ server 0 (records 0 200) ▷ mail 1 (message 3 0 1 (Request 0 0)) ▷ after (deliver 0 0)) (message 3 0 2 Discover) 0
    ∷ sees (base ▷ server 0 leading ▷ server 0 (reserves 1 3 100) ▷ server 0 (records 0 200) ▷ mail 1 (message 3 0 1 (Request 0 0)) ▷ after (deliver 0 0)) (message 3 0 2 Discover) 1
    -- a return has kept the record and left the lead
    ∷ sees (base ▷ server 2 (records 0 200) ▷ after (return 2) ▷ server 2 leading) (message 3 2 1 (Request 0 0)) 1
    ∷ sees (base ▷ server 2 leading ▷ after (return 2)) (message 3 2 1 (Request 0 0)) 1
    -- who led already leads on, and its record is not raised again
    ∷ sees (base ▷ server 0 leading ▷ server 0 (back 100) ▷ after (notice 0 1 1)) (message 3 0 1 (Request 0 0)) 0
    ∷ []

-- Two rules broken at once: the upper one gives the number. No step breaks both 4 and 5, 7 and 8, 10 and 11, or 11 and 12.
pairs : List Row
pairs =
    -- 5 before 6, 7, 8, 9, 10, 11, 12 and 13
    row base (pass 0 99 0) 5 ∷ row base (notice 0 0 2) 5 ∷ row base (deliver 200 2) 5
    ∷ row base (request 4 (greatest_end + 1)) 5 ∷ row base (renew 4 (greatest_end + 1)) 5
    ∷ row base (notice 2 1 2) 5 ∷ row base (request 0 (greatest_end + 1)) 5 ∷ row base (renew 0 (greatest_end + 1)) 5
    ∷ row (silent ▷ at 1000000000) (pass 100001 0 0) 5 ∷ row base (pass 1 0 2001) 5 ∷ row base (pass 100001 0 0) 5
    ∷ row (base ▷ alive 1 0) (notice 0 1 2) 5 ∷ row (base ▷ next 1000001) (renew 2 (greatest_end + 1)) 5
    ∷ row (full 128) (deliver 0 2) 5 ∷ row (full 128) (request 1 (greatest_end + 1)) 5
    -- 6 before 7, 8, 9, 10, 11, 12 and 13
    ∷ row base (notice 0 0 0) 6 ∷ row base (notice 2 2 1) 6 ∷ row (base ▷ dead 3 0) (fail 3) 6 ∷ row base (return 3) 6
    ∷ row (base ▷ client 4 (Holding 0 150 1)) (discover 4) 6 ∷ row base (request 4 0) 6 ∷ row base (renew 4 0) 6
    ∷ row (base ▷ at 1000000000) (pass 1 7 0) 6 ∷ row base (pass 5 7 3) 6 ∷ row base (pass 6 7 0) 6
    ∷ row (base ▷ alive 0 0) (notice 0 0 0) 6 ∷ row (base ▷ next 1000001) (discover 4) 6
    ∷ row (full 128) (discover 4) 6 ∷ row (full 128) (deliver 128 1) 6
    -- 7 before 11, 12 and 13
    ∷ row (base ▷ alive 1 0) (notice 2 1 0) 7
    ∷ row (base ▷ next 1000001) (discover 2) 7 ∷ row (full 128) (discover 2) 7 ∷ row (full 128 ▷ next 1000001) (discover 2) 7
    ∷ row (full 128 ▷ next 1000001) (renew 0 0) 7 ∷ row (full 128) (request 0 0) 7
    -- 8 before 9 and 10, 9 before 10, 12 before 13
    ∷ row (base ▷ at 999999999) (pass 2 0 3) 8 ∷ row (base ▷ at 999999999) (pass 6 0 0) 8
    ∷ row base (pass 6 0 3) 9 ∷ row (base ▷ heard 0 1 0) (pass 1 0 (minus 2)) 9
    ∷ row (full 128 ▷ next 1000001) (discover 0) 12 ∷ row (full 128 ▷ next 1000001) (renew 2 0) 12
    ∷ []

steps : List Row
steps = kinds ++ fields ++ names ++ conditions ++ passes ++ untrue ++ spent ++ crowded ++ outcomes ++ pairs

-- the same step to a facade out of range: 2 comes before the others
spoiled : Row → Row
spoiled x = row (x.given ▷ heard 0 1 1000000001) x.asked 2

pub table : List Row
table = configs ++ counts ++ stored ++ states ++ letters ++ steps ++ map spoiled steps

-- to open this one is to open the table
unfoldable pub answer_of : Row → Answer
unfolding answered row row_outcome sound faulty ◌▷◌ at next ahead heard client server alive dead after back leading keeping reserves lends records writes mail write mixed minus greatest_end greatest_reading base awake silent loose new full granting offering configs counts stored states letters kinds fields names conditions passes untrue spent crowded sees outcomes pairs steps spoiled table
answer_of x = answered x.given x.asked

-- "A refused step returns the facade it was given."
unfoldable pub after_refusal : Row → Facade
after_refusal x = cond (eqb x.refusal 0) x.given (answer_of x).facade
