-- What a step that is not refused does: a facade, the step, and the whole facade and the outcome that document 01 gives for it.
-- One table; the claim about it, computed by `step`, is in proofs/. What is expected names each part that changes with its value; the rest
-- is as it was given.
-- Changes are written here part by part and share nothing with the rules. Unused places hold odd values, so that a rule that
-- touches them is seen.
use Rattle.std.specs.Prelude.{Bool, true, false, List, [], ◌∷◌, ◌++◌, map, ℕ, ◌+◌, get_or, set, take, replicate, ℤ, pos, negsuc, Option, None}
use Rattle.types.specs.declared.Config.{Config}
use Rattle.types.specs.declared.Reservation.{Reservation}
use Rattle.types.specs.declared.OpenWrite.{OpenWrite}
use Rattle.types.specs.declared.Server.{Server}
use Rattle.types.specs.declared.State.{State}
use Rattle.types.specs.declared.State.TheVariants.{Idle, Asking, Offered, Waiting, Holding}
use Rattle.types.specs.declared.Client.{Client}
use Rattle.types.specs.declared.Body.TheVariants.{Empty, Discover, Offer, Request, Renew, Write, WriteAck, Ack}
use Rattle.types.specs.declared.Message.{Message}
use Rattle.types.specs.declared.Facade.{Facade}
use Rattle.types.specs.declared.Step.{Step}
use Rattle.rules.specs.Answers.{Answer}
use Rattle.rules.specs.Parts.{taken, open_write, message, no_server}
use Rattle.rules.specs.Examples.{answered, pass, fail, return, notice, discover, request, renew, deliver, lose, cleanup, config_of}
use Rattle.rules.specs.Edges.{◌▷◌, minus}

-- one change after the other
abbrev through : {A : Type 0} → List (A → A) → A → A
through [] x = x
through (g ∷ gs) x = through gs (g x)

-- Changes to a server.

abbrev pub server_of : Bool → ℕ → ℕ → List Bool → List Bool → List (Option Reservation) → List ℕ → List ℕ → List OpenWrite → Server
server_of x c r b ls rs es vs ws =
    record { alive = x; changed = c; returned = r; believed = b; leads = ls; reserved = rs; lent = es; potlease = vs; writes = ws }

abbrev life : Bool → ℕ → Server → Server
life x c s = server_of x c s.returned s.believed s.leads s.reserved s.lent s.potlease s.writes

abbrev back : ℕ → Server → Server
back r s = server_of s.alive s.changed r s.believed s.leads s.reserved s.lent s.potlease s.writes

abbrev believing : List Bool → Server → Server
believing b s = server_of s.alive s.changed s.returned b s.leads s.reserved s.lent s.potlease s.writes

-- at address a
abbrev leads : ℕ → Bool → Server → Server
leads a x s = server_of s.alive s.changed s.returned s.believed (set s.leads a x) s.reserved s.lent s.potlease s.writes

abbrev reserved : ℕ → Option Reservation → Server → Server
reserved a x s = server_of s.alive s.changed s.returned s.believed s.leads (set s.reserved a x) s.lent s.potlease s.writes

abbrev lent : ℕ → ℕ → Server → Server
lent a e s = server_of s.alive s.changed s.returned s.believed s.leads s.reserved (set s.lent a e) s.potlease s.writes

abbrev records : ℕ → ℕ → Server → Server
records a v s = server_of s.alive s.changed s.returned s.believed s.leads s.reserved s.lent (set s.potlease a v) s.writes

abbrev writes : ℕ → OpenWrite → Server → Server
writes a w s = server_of s.alive s.changed s.returned s.believed s.leads s.reserved s.lent s.potlease (set s.writes a w)

-- servers 0 to 2, and the unused place 3
abbrev pub flags : Bool → Bool → Bool → Bool → List Bool
flags w x y z = w ∷ x ∷ y ∷ z ∷ []

abbrev pub pending : ℕ → ℕ → List Bool → OpenWrite
pending q v b = record { pending = open_write q v; acked = b }

abbrev pub shut : OpenWrite
shut = record { pending = None; acked = flags false false false false }

-- Changes to a facade.

abbrev facade_with : Config → ℕ → ℕ → List ℤ → List Server → List (List ℕ) → List Client → List Message → ℕ → Facade
facade_with c t n os ss ts xs ms w =
    record { config = c; time = t; next = n; offsets = os; servers = ss; notices = ts; clients = xs; messages = ms; waiting = w }

abbrev configured : Config → Facade → Facade
configured c f = facade_with c f.time f.next f.offsets f.servers f.notices f.clients f.messages f.waiting

abbrev now : ℕ → Facade → Facade
now t f = facade_with f.config t f.next f.offsets f.servers f.notices f.clients f.messages f.waiting

abbrev next : ℕ → Facade → Facade
next n f = facade_with f.config f.time n f.offsets f.servers f.notices f.clients f.messages f.waiting

-- the clock of party p is o ahead
abbrev ahead : ℕ → ℤ → Facade → Facade
ahead p o f = facade_with f.config f.time f.next (set f.offsets p o) f.servers f.notices f.clients f.messages f.waiting

abbrev server : ℕ → List (Server → Server) → Facade → Facade
server k gs f =
    facade_with f.config f.time f.next f.offsets (set f.servers k (through gs (get_or f.servers k no_server))) f.notices f.clients f.messages f.waiting

-- server k last had a notice about server j at t
abbrev heard : ℕ → ℕ → ℕ → Facade → Facade
heard k j t f = facade_with f.config f.time f.next f.offsets f.servers (set f.notices k (set (get_or f.notices k []) j t)) f.clients f.messages f.waiting

abbrev client : ℕ → State → Facade → Facade
client i x f = facade_with f.config f.time f.next f.offsets f.servers f.notices (set f.clients i (record { state = x })) f.messages f.waiting

-- n messages wait; the places begin with ms, and odd messages fill the rest
abbrev queue : ℕ → List Message → Facade → Facade
queue n ms f =
    facade_with f.config f.time f.next f.offsets f.servers f.notices f.clients (take 128 (ms ++ replicate 128 (message 77 88 99 (Ack 44 4000000000)))) n

-- an emptied place
abbrev pub none : Message
none = record { sender = 0; receiver = 0; interaction = 0; body = Empty }

-- The given facade: three servers, four clients (parties 3 to 6) and four addresses, with Δ = 2, ν = 10, μ = 50 and θ = 10, at
-- time 100; the next κ is 9.
-- The clocks of the servers read 102, 98 and 101, those of the clients 99, 102, 100 and 101.
-- Each server leads addresses 1 and 2, and has reservations and open writes. Odd are: sets from place 3 on, addresses from 4
-- on, server 3, clients from 4 on, messages from 3 on.

abbrev pub numbered : ℕ → Bool → Server
numbered n x =
    server_of true 95 (40 + n) (flags true true true x)
    (false ∷ true ∷ true ∷ false ∷ true ∷ true ∷ replicate 26 false)
    (None ∷ taken 4 85 ∷ taken 3 89 ∷ taken 4 91 ∷ taken 4 7 ∷ replicate 27 None)
    ((10 + n) ∷ (20 + n) ∷ (30 + n) ∷ (40 + n) ∷ replicate 28 3000000000)
    ((50 + n) ∷ (60 + n) ∷ (70 + n) ∷ (80 + n) ∷ replicate 28 5)
    (shut ∷ pending 4 160 (flags false true false true) ∷ pending 3 170 (flags true false true false) ∷ shut ∷ replicate 28 (pending 99 4000000000 (flags true true true true)))

-- three waiting messages
abbrev m₀ : Message
m₀ = message 0 1 2 (Write 0 33)

abbrev m₁ : Message
m₁ = message 1 0 3 (WriteAck 1 44)

abbrev m₂ : Message
m₂ = message 1 0 5 (Write 3 99)

abbrev odd : Facade
odd =
    facade_with (config_of 3 4 4 2 10 50 10) 100 9
    (pos 2 ∷ negsuc 1 ∷ pos 1 ∷ negsuc 0 ∷ pos 2 ∷ pos 0 ∷ pos 1 ∷ replicate 29 (pos 77))
    (numbered 0 true ∷ numbered 1 true ∷ numbered 2 false ∷ through (life true 999 ∷ back 3000000000 ∷ []) (numbered 9 false) ∷ [])
    ((999 ∷ 95 ∷ 96 ∷ 888 ∷ []) ∷ (97 ∷ 999 ∷ 98 ∷ 888 ∷ []) ∷ (99 ∷ 96 ∷ 999 ∷ 888 ∷ []) ∷ replicate 4 888 ∷ [])
    (map (λ x. record { state = x }) (Waiting 4 2 ∷ Offered 5 1 ∷ Holding 3 150 6 ∷ Asking 7 ∷ replicate 28 (Holding 31 7 4)))
    [] 0
    ▷ queue 3 (m₀ ∷ m₁ ∷ m₂ ∷ [])

-- two servers: party 2 and its clock are a client's then, and server 2 is an unused place
abbrev two : Facade
two = odd ▷ configured (config_of 2 4 4 2 10 50 10)

-- four servers, the clients being parties 4 to 7
abbrev four : Facade
four =
    through (map (λ j. heard 3 j 97) (0 ∷ 1 ∷ 2 ∷ []) ++ map (λ k. heard k 3 98) (0 ∷ 1 ∷ 2 ∷ []))
    (odd ▷ configured (config_of 4 4 4 2 10 50 10) ▷ server 3 (life true 95 ∷ back 43 ∷ []) ▷ ahead 7 (pos 0))

-- a facade, a step, and the outcome and the facade that it has
pub record Row : Type 0 where
  pub given : Facade
  pub asked : Step
  pub outcome : ℕ
  pub gives : Facade

abbrev row : Facade → Step → ℕ → List (Facade → Facade) → Row
row f s n gs = record { given = f; asked = s; outcome = n; gives = through gs f }

abbrev count : List Message → ℕ
count [] = 0
count (m ∷ ms) = 1 + count ms

-- behind the three that wait, what is sent
abbrev sends : List Message → Facade → Facade
sends ms f = queue (3 + count ms) (m₀ ∷ m₁ ∷ m₂ ∷ ms) f

-- the place that a removal empties, or what is sent there
abbrev or_none : List Message → List Message
or_none [] = none ∷ []
or_none (m ∷ ms) = m ∷ ms

-- m is delivered from position 1, taken out and kept; the outcome is n, gs changes, and ms is sent
abbrev handles : Facade → Message → ℕ → List (Facade → Facade) → List Message → List Row
handles f m n gs ms =
    row (f ▷ queue 4 (m₀ ∷ m ∷ m₁ ∷ m₂ ∷ [])) (deliver 1 0) n (queue (3 + count ms) (m₀ ∷ m₁ ∷ m₂ ∷ or_none ms) ∷ gs)
    ∷ row (f ▷ queue 4 (m₀ ∷ m ∷ m₁ ∷ m₂ ∷ [])) (deliver 1 1) n (queue (4 + count ms) (m₀ ∷ m ∷ m₁ ∷ m₂ ∷ ms) ∷ gs)
    ∷ []

-- 1 pass: by its own clock each client holds or is idle, and no other state changes.
abbrev holds : Facade
holds = odd ▷ client 0 (Holding 0 105 1) ▷ client 1 (Holding 1 107 2) ▷ client 2 (Holding 2 106 3)

passes : List Row
passes =
    row odd (pass 1 6 0) 0 (now 101 ∷ [])
    ∷ row holds (pass 4 0 0) 0 (now 104 ∷ [])
    -- client 1 reads 107, the others 104 and 105; the clocks of servers 1 and 2 are set forward and back
    ∷ row holds (pass 5 1 2) 0 (now 105 ∷ ahead 1 (pos 0) ∷ client 1 Idle ∷ [])
    ∷ row holds (pass 5 2 (minus 3)) 0 (now 105 ∷ ahead 2 (negsuc 1) ∷ client 1 Idle ∷ [])
    -- client 0 reads 105, client 2 reads 106, client 1 reads 103 and then stands still at 102
    ∷ row holds (pass 5 3 1) 0 (now 105 ∷ ahead 3 (pos 0) ∷ client 0 Idle ∷ client 1 Idle ∷ [])
    ∷ row holds (pass 5 5 1) 0 (now 105 ∷ ahead 5 (pos 1) ∷ client 1 Idle ∷ client 2 Idle ∷ [])
    ∷ row holds (pass 5 4 (minus 4)) 0 (now 105 ∷ ahead 4 (negsuc 1) ∷ [])
    ∷ row holds (pass 4 4 (minus 4)) 0 (now 104 ∷ ahead 4 (negsuc 1) ∷ [])
    ∷ []

-- 2 fail, 3 return: all 32 places, the whole set and the whole row; the records and what others heard stay.
lives : List Row
lives =
    row odd (fail 1) 0 (server 1 (life false 100 ∷ []) ∷ [])
    ∷ row odd (fail 2) 0 (server 2 (life false 100 ∷ []) ∷ [])
    ∷ row (odd ▷ server 2 (life false 80 ∷ believing (flags false true false false) ∷ [])) (return 2) 0
    (server 2 ((λ s. server_of true 100 101 (replicate 4 true) (replicate 32 false) (replicate 32 None) (replicate 32 0) s.potlease (replicate 32 shut)) ∷ [])
    ∷ heard 2 0 100 ∷ heard 2 1 100 ∷ heard 2 2 100 ∷ heard 2 3 100 ∷ [])
    ∷ []

-- 4 notice: server 1 is first for address 1, without server 0 for 0 and 3 too, and never for 2, which it ceases to lead.
-- Beginning at clock 98 records 152; going on does not raise.
noticed : List Row
noticed =
    row odd (notice 1 0 1) 0 (heard 1 0 100 ∷ server 1 (leads 2 false ∷ []) ∷ [])
    ∷ row odd (notice 1 2 0) 0 (heard 1 2 100 ∷ server 1 (believing (flags true true false true) ∷ leads 2 false ∷ []) ∷ [])
    ∷ row odd (notice 1 0 0) 0
    (heard 1 0 100 ∷ server 1 (believing (flags false true true true) ∷ leads 0 true ∷ leads 2 false ∷ leads 3 true ∷ records 0 152 ∷ records 3 152 ∷ []) ∷ [])
    -- a larger record, with address 4 to begin if it were one; a return too late by one
    ∷ row (odd ▷ server 1 (records 3 153 ∷ leads 4 false ∷ [])) (notice 1 0 0) 0
    (heard 1 0 100 ∷ server 1 (believing (flags false true true true) ∷ leads 0 true ∷ leads 2 false ∷ leads 3 true ∷ records 0 152 ∷ []) ∷ [])
    ∷ row (odd ▷ server 1 (back 75 ∷ [])) (notice 1 0 0) 0 (heard 1 0 100 ∷ server 1 (believing (flags false true true true) ∷ leads 2 false ∷ []) ∷ [])
    -- alive again: server 0 no longer leads address 1, and begins with 0 and 3; a server that doubts itself is never first
    ∷ row (odd ▷ server 0 (believing (flags true false false true) ∷ [])) (notice 0 1 1) 0
    (heard 0 1 100 ∷ server 0 (believing (flags true true false true) ∷ leads 0 true ∷ leads 1 false ∷ leads 3 true ∷ records 0 156 ∷ records 3 156 ∷ []) ∷ [])
    ∷ row (odd ▷ server 2 (believing (flags true true false false) ∷ [])) (notice 2 0 0) 0
    (heard 2 0 100 ∷ server 2 (believing (flags false true false false) ∷ leads 1 false ∷ leads 2 false ∷ []) ∷ [])
    -- of two servers one is left
    ∷ row two (notice 1 0 0) 0 (heard 1 0 100 ∷ server 1 (believing (flags false true true true) ∷ leads 0 true ∷ leads 3 true ∷ records 0 152 ∷ records 3 152 ∷ []) ∷ [])
    ∷ []

-- 5 discover, 6 request, 7 renew: client i is party 3 + i, of two servers 2 + i.
asks : List Row
asks =
    row odd (discover 0) 0 (client 0 (Asking 9) ∷ next 10 ∷ sends (message 3 0 9 Discover ∷ message 3 1 9 Discover ∷ message 3 2 9 Discover ∷ []) ∷ [])
    ∷ row (odd ▷ client 3 Idle) (discover 3) 0 (client 3 (Asking 9) ∷ next 10 ∷ sends (message 6 0 9 Discover ∷ message 6 1 9 Discover ∷ message 6 2 9 Discover ∷ []) ∷ [])
    ∷ row odd (request 1 77) 0 (client 1 (Waiting 5 1) ∷ sends (message 4 0 5 (Request 1 77) ∷ message 4 1 5 (Request 1 77) ∷ message 4 2 5 (Request 1 77) ∷ []) ∷ [])
    ∷ row odd (renew 2 88) 0
    (client 2 (Holding 3 150 9) ∷ next 10 ∷ sends (message 5 0 9 (Renew 3 150 88) ∷ message 5 1 9 (Renew 3 150 88) ∷ message 5 2 9 (Renew 3 150 88) ∷ []) ∷ [])
    ∷ row two (discover 1) 0 (client 1 (Asking 9) ∷ next 10 ∷ sends (message 3 0 9 Discover ∷ message 3 1 9 Discover ∷ []) ∷ [])
    ∷ []

-- 8 deliver, a discover to server 1 at clock 98: 0 is not led, 1 to 3 can be offered; the same κ again; a record of 94 and of 93.
abbrev offering : Facade
offering = odd ▷ server 1 (reserved 1 None ∷ reserved 2 None ∷ reserved 3 None ∷ leads 3 true ∷ [])

discovers : List Row
discovers =
    handles offering (message 6 1 7 Discover) 0 (server 1 (reserved 1 (taken 7 98) ∷ []) ∷ []) (message 1 6 7 (Offer 1) ∷ [])
    ++ handles (offering ▷ server 1 (reserved 1 (taken 7 97) ∷ [])) (message 6 1 7 Discover) 0 (server 1 (reserved 2 (taken 7 98) ∷ []) ∷ []) (message 1 6 7 (Offer 2) ∷ [])
    ++ handles (offering ▷ server 1 (records 1 94 ∷ [])) (message 5 1 8 Discover) 0 (server 1 (reserved 2 (taken 8 98) ∷ []) ∷ []) (message 1 5 8 (Offer 2) ∷ [])
    ++ handles (offering ▷ server 1 (records 1 93 ∷ [])) (message 5 1 8 Discover) 0 (server 1 (reserved 1 (taken 8 98) ∷ []) ∷ []) (message 1 5 8 (Offer 1) ∷ [])
    -- none; there is no address 4
    ++ handles (odd ▷ server 2 (reserved 4 None ∷ [])) (message 6 2 7 Discover) 1 [] []

-- A request to server 1: the reservations of κ 4 at addresses 1 and 3 go, that of κ 3 at the address itself stays. Lent until
-- 148; the wanted end is smaller and larger.
abbrev dropped : Facade → Facade
dropped = server 1 (reserved 1 None ∷ reserved 3 None ∷ [])

requests : List Row
requests =
    handles odd (message 3 1 4 (Request 2 140)) 0 (dropped ∷ server 1 (lent 2 148 ∷ records 2 148 ∷ writes 2 (pending 4 148 (flags false true false false)) ∷ []) ∷ [])
    (message 1 3 4 (Ack 2 148) ∷ message 1 0 4 (Write 2 148) ∷ message 1 2 4 (Write 2 148) ∷ [])
    ++ handles (odd ▷ server 1 (lent 2 900 ∷ [])) (message 6 1 4 (Request 2 400)) 0
    (dropped ∷ server 1 (lent 2 148 ∷ records 2 400 ∷ writes 2 (pending 4 400 (flags false true false false)) ∷ []) ∷ [])
    (message 1 6 4 (Ack 2 148) ∷ message 1 0 4 (Write 2 400) ∷ message 1 2 4 (Write 2 400) ∷ [])
    -- the first of two servers, and the last of four, whose clock reads 99
    ++ handles two (message 5 0 3 (Request 1 5)) 0 (server 0 (reserved 2 None ∷ lent 1 152 ∷ records 1 152 ∷ writes 1 (pending 3 152 (flags true false false false)) ∷ []) ∷ [])
    (message 0 5 3 (Ack 1 152) ∷ message 0 1 3 (Write 1 152) ∷ [])
    ++ handles four (message 5 3 3 (Request 2 5)) 0 (server 3 (reserved 2 None ∷ lent 2 149 ∷ records 2 149 ∷ writes 2 (pending 3 149 (flags false false false true)) ∷ []) ∷ [])
    (message 3 5 3 (Ack 2 149) ∷ message 3 0 3 (Write 2 149) ∷ message 3 1 3 (Write 2 149) ∷ message 3 2 3 (Write 2 149) ∷ [])
    -- not granted: a record of 94, and an address that is not led
    ++ handles (odd ▷ server 1 (records 2 94 ∷ [])) (message 3 1 4 (Request 2 140)) 1 (dropped ∷ []) []
    ++ handles odd (message 3 1 4 (Request 0 140)) 1 (dropped ∷ []) []

-- A renew to server 1: reservations stay. The old end is the clock; then the lent end is larger, and the record larger still;
-- then the wanted end.
renewals : List Row
renewals =
    handles odd (message 5 1 4 (Renew 2 98 140)) 0 (server 1 (lent 2 148 ∷ records 2 148 ∷ writes 2 (pending 4 148 (flags false true false false)) ∷ []) ∷ [])
    (message 1 5 4 (Ack 2 148) ∷ message 1 0 4 (Write 2 148) ∷ message 1 2 4 (Write 2 148) ∷ [])
    ++ handles (odd ▷ server 1 (lent 2 200 ∷ records 2 250 ∷ [])) (message 5 1 4 (Renew 2 150 140)) 0 (server 1 (writes 2 (pending 4 200 (flags false true false false)) ∷ []) ∷ [])
    (message 1 5 4 (Ack 2 200) ∷ message 1 0 4 (Write 2 200) ∷ message 1 2 4 (Write 2 200) ∷ [])
    ++ handles (odd ▷ server 1 (lent 2 200 ∷ records 2 250 ∷ [])) (message 5 1 4 (Renew 2 150 400)) 0
    (server 1 (records 2 400 ∷ writes 2 (pending 4 400 (flags false true false false)) ∷ []) ∷ [])
    (message 1 5 4 (Ack 2 200) ∷ message 1 0 4 (Write 2 400) ∷ message 1 2 4 (Write 2 400) ∷ [])
    -- not granted: an old end of 97, and an address that is not led
    ++ handles odd (message 5 1 4 (Renew 2 97 140)) 1 [] []
    ++ handles odd (message 5 1 4 (Renew 3 150 140)) 1 [] []

-- A write to server 1, leading or not, that raises the record, and one that does not.
written : List Row
written =
    handles odd (message 0 1 5 (Write 2 90)) 0 (server 1 (records 2 90 ∷ []) ∷ []) (message 1 0 5 (WriteAck 2 90) ∷ [])
    ++ handles odd (message 2 1 6 (Write 3 200)) 0 (server 1 (records 3 200 ∷ []) ∷ []) (message 1 2 6 (WriteAck 3 200) ∷ [])
    ++ handles odd (message 0 1 5 (Write 2 70)) 0 [] (message 1 0 5 (WriteAck 2 70) ∷ [])

-- A write ack to server 1, whose write of address 1 only itself has acknowledged: counted, repeated, and the last one. Place 3
-- is not counted, and cleared when the write closes.
abbrev acked : Bool → Bool → Bool → Facade → Facade
acked x y z = server 1 (writes 1 (pending 4 160 (flags x true y z)) ∷ [])

write_acks : List Row
write_acks =
    handles odd (message 2 1 4 (WriteAck 1 160)) 0 (acked false true true ∷ []) []
    ++ handles (odd ▷ acked false true true) (message 2 1 4 (WriteAck 1 160)) 0 [] []
    ++ handles (odd ▷ acked true false false) (message 2 1 4 (WriteAck 1 160)) 0 (server 1 (lent 1 160 ∷ writes 1 shut ∷ []) ∷ []) []
    ++ handles (odd ▷ acked false true true ▷ server 1 (lent 1 500 ∷ [])) (message 0 1 4 (WriteAck 1 160)) 0 (server 1 (writes 1 shut ∷ []) ∷ []) []
    ++ handles (two ▷ acked false false false) (message 0 1 4 (WriteAck 1 160)) 0 (server 1 (lent 1 160 ∷ writes 1 shut ∷ []) ∷ []) []
    -- not counted: another κ, another end, no open write, not led
    ++ handles (odd ▷ acked true false true) (message 2 1 3 (WriteAck 1 160)) 1 [] []
    ++ handles (odd ▷ acked true false true) (message 2 1 4 (WriteAck 1 161)) 1 [] []
    ++ handles (odd ▷ server 1 (leads 3 true ∷ [])) (message 2 1 4 (WriteAck 3 160)) 1 [] []
    ++ handles (odd ▷ acked true false true ▷ server 1 (leads 1 false ∷ [])) (message 2 1 4 (WriteAck 1 160)) 1 [] []

-- client 2 holds address 3 until e
abbrev held : ℕ → Facade
held e = odd ▷ client 2 (Holding 3 e 6)

-- To clients: an offer with the κ that it asks with, and with another; an ack where client 0 waits at clock 99, and a late one;
-- an ack where client 2 holds at clock 100, until 300: an earlier end, the same, a later one, one that has passed, another address;
-- one where its hold is over already; and acks where client 3 holds at clock 101.
clients : List Row
clients =
    handles odd (message 1 6 7 (Offer 2)) 0 (client 3 (Offered 7 2) ∷ []) []
    ++ handles odd (message 1 6 4 (Offer 2)) 1 [] []
    ++ handles odd (message 1 3 4 (Ack 2 100)) 0 (client 0 (Holding 2 100 4) ∷ []) []
    ++ handles odd (message 1 3 4 (Ack 2 150)) 0 (client 0 (Holding 2 150 4) ∷ []) []
    ++ handles odd (message 1 3 4 (Ack 2 99)) 1 [] []
    ++ handles (held 300) (message 0 5 6 (Ack 3 250)) 0 [] []
    ++ handles (held 300) (message 0 5 6 (Ack 3 299)) 0 [] []
    ++ handles (held 300) (message 0 5 6 (Ack 3 300)) 0 [] []
    ++ handles (held 300) (message 0 5 6 (Ack 3 301)) 0 (client 2 (Holding 3 301 6) ∷ []) []
    ++ handles (held 300) (message 0 5 6 (Ack 3 100)) 1 [] []
    ++ handles (held 300) (message 0 5 6 (Ack 2 400)) 1 [] []
    ++ handles (held 100) (message 0 5 6 (Ack 3 101)) 0 (client 2 (Holding 3 101 6) ∷ []) []
    ++ handles (held 40) (message 0 5 6 (Ack 3 250)) 0 (client 2 (Holding 3 250 6) ∷ []) []
    ++ handles (held 40) (message 0 5 6 (Ack 3 100)) 1 [] []
    ++ handles (odd ▷ client 3 (Holding 2 300 7)) (message 1 6 7 (Ack 2 102)) 0 [] []
    ++ handles (odd ▷ client 3 (Holding 2 300 7)) (message 1 6 7 (Ack 2 101)) 1 [] []
    -- an offer to a client that is idle, offered, waiting or holding, and an ack to one that is idle, asking or offered, each
    -- with its κ
    ++ handles (odd ▷ client 3 Idle) (message 1 6 7 (Offer 2)) 1 [] []
    ++ handles odd (message 1 4 5 (Offer 2)) 1 [] []
    ++ handles odd (message 1 3 4 (Offer 2)) 1 [] []
    ++ handles odd (message 1 5 6 (Offer 3)) 1 [] []
    ++ handles (odd ▷ client 3 Idle) (message 1 6 7 (Ack 2 150)) 1 [] []
    ++ handles odd (message 1 6 7 (Ack 2 150)) 1 [] []
    ++ handles odd (message 1 4 5 (Ack 1 150)) 1 [] []

-- A dead receiver, and messages at other positions: the first, a write, and the last but one, an ack of no open write.
others : List Row
others =
    handles (offering ▷ server 1 (life false 90 ∷ [])) (message 6 1 7 Discover) 2 [] []
    ++ handles (odd ▷ server 1 (life false 90 ∷ [])) (message 3 1 4 (Request 2 140)) 2 [] []
    ++ handles (odd ▷ server 1 (life false 90 ∷ [])) (message 0 1 5 (Write 2 90)) 2 [] []
    ++ handles (odd ▷ acked true false true ▷ server 1 (life false 90 ∷ [])) (message 2 1 4 (WriteAck 1 160)) 2 [] []
    ++ (row odd (deliver 0 0) 0 (queue 3 (m₁ ∷ m₂ ∷ message 1 0 2 (WriteAck 0 33) ∷ []) ∷ [])
    ∷ row odd (deliver 2 0) 0 (server 0 (records 3 99 ∷ []) ∷ queue 3 (m₀ ∷ m₁ ∷ message 0 1 5 (WriteAck 3 99) ∷ []) ∷ [])
    ∷ row odd (deliver 1 0) 1 (queue 2 (m₀ ∷ m₂ ∷ none ∷ []) ∷ [])
    -- 9 lose
    ∷ row odd (lose 0) 0 (queue 2 (m₁ ∷ m₂ ∷ none ∷ []) ∷ [])
    ∷ row (odd ▷ sends (m₀ ∷ [])) (lose 1) 0 (queue 3 (m₀ ∷ m₂ ∷ m₀ ∷ none ∷ []) ∷ [])
    ∷ row odd (lose 2) 0 (queue 2 (m₀ ∷ m₁ ∷ none ∷ []) ∷ [])
    -- 10 cleanup: at clock 98 the reservation at 85 goes, those at 89 and 91 stay; at 102 all go. That of address 4 stays.
    ∷ row odd (cleanup 1) 0 (server 1 (reserved 1 None ∷ []) ∷ [])
    ∷ row odd (cleanup 0) 0 (server 0 (reserved 1 None ∷ reserved 2 None ∷ reserved 3 None ∷ []) ∷ [])
    ∷ [])

pub table : List Row
table = passes ++ lives ++ noticed ++ asks ++ discovers ++ requests ++ renewals ++ written ++ write_acks ++ clients ++ others

-- to open this one is to open the table
unfoldable pub answer_of : Row → Answer
unfolding answered ◌▷◌ minus passes lives noticed asks discovers requests renewals written write_acks clients others table
answer_of x = answered x.given x.asked

-- How many clients hold: of 4 clients, of 5 (the fifth place holds), of all 32, and without the last.
unfoldable pub holding : List Facade
holding =
    odd
    ∷ (odd ▷ configured (config_of 3 5 4 2 10 50 10))
    ∷ (odd ▷ configured (config_of 3 32 4 2 10 50 10))
    ∷ (odd ▷ configured (config_of 3 32 4 2 10 50 10) ▷ client 31 (Waiting 1 0))
    ∷ (odd ▷ client 2 Idle)
    ∷ []

-- The answer to a configuration: all lower bounds, all upper bounds, and one past each. The facade is the fresh one in any case.

abbrev pub begun : Config → Facade
begun c =
    facade_with c 0 1 (replicate 36 (pos 0))
    (replicate 4 (server_of true 0 0 (replicate 4 true) (replicate 32 false) (replicate 32 None) (replicate 32 0) (replicate 32 0) (replicate 32 shut)))
    (replicate 4 (replicate 4 0)) (replicate 32 (record { state = Idle })) (replicate 128 none) 0

abbrev pub begins : ℕ → Config → Answer
begins n c = record { refusal = n; outcome = 0; facade = begun c }

unfoldable pub inside : List Config
inside = config_of 2 1 1 0 1 1 0 ∷ config_of 4 32 32 1000 10000 1000000 1000000 ∷ []

unfoldable pub outside : List Config
outside =
    config_of 1 1 1 0 1 1 0 ∷ config_of 2 0 1 0 1 1 0 ∷ config_of 2 1 0 0 1 1 0 ∷ config_of 2 1 1 0 0 1 0 ∷ config_of 2 1 1 0 1 0 0
    ∷ config_of 5 32 32 1000 10000 1000000 1000000 ∷ config_of 4 33 32 1000 10000 1000000 1000000 ∷ config_of 4 32 33 1000 10000 1000000 1000000
    ∷ config_of 4 32 32 1001 10000 1000000 1000000 ∷ config_of 4 32 32 1000 10001 1000000 1000000
    ∷ config_of 4 32 32 1000 10000 1000001 1000000 ∷ config_of 4 32 32 1000 10000 1000000 1000001
    ∷ []
