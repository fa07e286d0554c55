-- Leases: the ends that are promised to clients, what covers them, and two shapes of a step that keep it so.
use mathlib.Core.Path.{◌≡◌, refl, ap}
use mathlib.Core.Logic.{◌≢◌}
use mathlib.Core.Bool.{Bool, false}
use mathlib.Core.List.{List}
use Prim.Native.Nat.{ℕ, ◌+◌, ◌≤◌, ◌<◌, max, min}
use native.Mathlib.Nat.{le_refl}
use native.Mathlib.Omega.{arith}
use lib.Dec.{T}
use lib.ListN.{length, get_or, set}
use lib.IntN.{ℤ, pos}
use Rattle.std.specs.Prelude.{Option, Some, None}
use Rattle.types.specs.declared.Config.{Config}
use Rattle.types.specs.declared.Pending.{Pending}
use Rattle.types.specs.declared.OpenWrite.{OpenWrite}
use Rattle.types.specs.declared.Server.{Server}
use Rattle.types.specs.declared.State.{State}
use Rattle.types.specs.declared.State.TheVariants.{Holding}
use Rattle.types.specs.declared.Client.{Client}
use Rattle.types.specs.declared.Body.{Body}
use Rattle.types.specs.declared.Body.TheVariants.{Empty, Discover, Offer, Request, Renew, Write, WriteAck, Ack}
use Rattle.types.specs.declared.Message.{Message}
use Rattle.types.specs.declared.Facade.{Facade}
use Rattle.rules.specs.Clock.{clock_reading}
use Rattle.rules.specs.Parts.{no_server, no_client, client_party, leads_at, lent_at, potlease_at, write_at}
use Rattle.rules.proofs.Laws.{set_case}
use Rattle.rules.proofs.Cable.{Waits}

-- The parts of a facade that leases depend on; of the waiting messages only which they are.

pub record Basis : Type 1 where
  pub config : Config
  pub time : ℕ
  pub offsets : List ℤ
  pub servers : List Server
  pub clients : List Client
  pub out : Message → Type 0

abbrev pub basis : Facade → Basis
basis f = record { config = f.config; time = f.time; offsets = f.offsets; servers = f.servers; clients = f.clients; out = Waits f }

abbrev pub srv : Basis → ℕ → Server
srv w k = get_or w.servers k no_server

abbrev pub held : Basis → ℕ → State
held w i = (get_or w.clients i no_client).state

abbrev pub clk : Basis → ℕ → ℕ
clk w p = clock_reading w.time (get_or w.offsets p (pos 0))

-- The invariant.

-- end e for address a is covered: by the record of each live leader, and at each server
-- by its record or by what it would record at least on beginning to lead
pub record Cov (w : Basis) (a e : ℕ) : Type 0 where
  pub led : (j : ℕ) → j < w.config.servers → T (srv w j).alive → T (leads_at (srv w j) a) → e ≤ potlease_at (srv w j) a
  pub every : (j : ℕ) → j < w.config.servers → e ≤ max (potlease_at (srv w j) a) (w.time + w.config.skew + w.config.mclt)

-- a message that promises client i address a until e, or quotes such a promise
abbrev pub Says : Config → ℕ → ℕ → Body → ℕ → ℕ → ℕ → Type 0
Says c from to Empty i a e = ⊥
Says c from to Discover i a e = ⊥
Says c from to (Offer a') i a e = ⊥
Says c from to (Request a' t) i a e = ⊥
Says c from to (Renew a' e' t) i a e = (from ≡ client_party c i) × (a' ≡ a) × (e' ≡ e)
Says c from to (Write a' v) i a e = ⊥
Says c from to (WriteAck a' v) i a e = ⊥
Says c from to (Ack a' e') i a e = (to ≡ client_party c i) × (a' ≡ a) × (e' ≡ e)

abbrev pub Promises : Config → Message → ℕ → ℕ → ℕ → Type 0
Promises c m i a e = Says c m.sender m.receiver m.body i a e

-- a promise that is out: held, or in a message
pub data Claim (w : Basis) (i a e : ℕ) : Type 0 where
  holds : (q : ℕ) → i < w.config.clients → held w i ≡ Holding a e q → Claim w i a e
  sent : (m : Message) → w.out m → Promises w.config m i a e → Claim w i a e

-- an open write counts only servers whose record has its end
abbrev pub CountOk : Basis → ℕ → List Bool → Option Pending → Type 0
CountOk w a acked None = Unit {0}
CountOk w a acked (Some x) = (j : ℕ) → j < w.config.servers → T (get_or acked j false) → x.end ≤ potlease_at (srv w j) a

abbrev pub OpenOk : Basis → ℕ → OpenWrite → Type 0
OpenOk w a o = CountOk w a o.acked o.pending

-- a write ack comes from a server whose record has the end
abbrev pub BodyOk : Basis → ℕ → Body → Type 0
BodyOk w from Empty = Unit {0}
BodyOk w from Discover = Unit {0}
BodyOk w from (Offer a) = Unit {0}
BodyOk w from (Request a t) = Unit {0}
BodyOk w from (Renew a e t) = Unit {0}
BodyOk w from (Write a v) = Unit {0}
BodyOk w from (WriteAck a v) = v ≤ potlease_at (srv w from) a
BodyOk w from (Ack a e) = Unit {0}

pub record Leased (w : Basis) : Type 0 where
  pub rows : (k : ℕ) → k < w.config.servers → length (srv w k).potlease ≡ 32
  pub claims : (i a e : ℕ) → a < w.config.addresses → Claim w i a e → Cov w a e
  pub lents : (k a : ℕ) → k < w.config.servers → a < w.config.addresses → Cov w a (lent_at (srv w k) a)
  pub opens : (k a : ℕ) → k < w.config.servers → a < w.config.addresses → OpenOk w a (write_at (srv w k) a)
  pub acks : (m : Message) → w.out m → BodyOk w m.sender m.body
  -- of two promises of one address to different clients, one is over on every clock
  pub pair : (i a e i' e' : ℕ) → a < w.config.addresses → Claim w i a e → Claim w i' a e' → i ≢ i' → min e e' + w.config.skew < w.time
  pub above : (i a e q : ℕ) → i < w.config.clients → held w i ≡ Holding a e q → clk w (client_party w.config i) < e

-- What time and the servers may do to what is covered.

pub record Grows (w w' : Basis) : Type 0 where
  pub same : w'.config ≡ w.config
  pub later : w.time ≤ w'.time
  pub records : (j a : ℕ) → potlease_at (srv w j) a ≤ potlease_at (srv w' j) a
  pub leads : (j a e : ℕ) → j < w.config.servers → a < w.config.addresses
      → T (srv w' j).alive → T (leads_at (srv w' j) a) → Cov w a e → e ≤ potlease_at (srv w' j) a

module _ (w w' : Basis) (x : Grows w w') where
  here : (j : ℕ) → j < w'.config.servers → j < w.config.servers
  here j h = rw (← ap (λ c. c.servers) x.same) h

  pub cov_grows : (a e : ℕ) → a < w.config.addresses → Cov w a e → Cov w' a e
  cov_grows a e ha c = record {
    led = λ j h al le. x.leads j a e (here j h) ha al le c;
    every = λ j h. omega (arith, c.every j (here j h), x.records j a, x.later, ap (λ c. c.skew) x.same, ap (λ c. c.mclt) x.same);
  }

  pub count_grows : (a : ℕ) (acked : List Bool) (o : Option Pending) → CountOk w a acked o → CountOk w' a acked o
  count_grows a acked None p = tt
  count_grows a acked (Some w) p = λ j h t. omega (arith, p j (here j h) t, x.records j a)

  pub body_grows : (from : ℕ) (b : Body) → BodyOk w from b → BodyOk w' from b
  body_grows from Empty p = tt
  body_grows from Discover p = tt
  body_grows from (Offer a) p = tt
  body_grows from (Request a t) p = tt
  body_grows from (Renew a e t) p = tt
  body_grows from (Write a v) p = tt
  body_grows from (WriteAck a v) p = omega (arith, x.records from a)
  body_grows from (Ack a e) p = tt

-- A step that leaves the servers.

abbrev pub passed_by : Basis → ℕ → List ℤ → List Client → (Message → Type 0) → Basis
passed_by w t os xs out = record { config = w.config; time = t; offsets = os; servers = w.servers; clients = xs; out = out }

module _ (w : Basis) (v : Leased w) (t : ℕ) (os : List ℤ) (xs : List Client) (out : Message → Type 0) (h : w.time ≤ t) where
  plain_grows : Grows w (passed_by w t os xs out)
  plain_grows = record { same = refl; later = h; records = λ j a. le_refl _; leads = λ j a e hj ha al le c. c.led j hj al le }

  pub plain :
      ((i a e : ℕ) → Claim (passed_by w t os xs out) i a e → Claim w i a e)
      → ((m : Message) → out m → BodyOk w m.sender m.body)
      → ((i a e q : ℕ) → i < w.config.clients → (get_or xs i no_client).state ≡ Holding a e q → clock_reading t (get_or os (client_party w.config i) (pos 0)) < e)
      → Leased (passed_by w t os xs out)
  plain sub mok abv = record {
    rows = v.rows;
    claims = λ i a e ha c. cov_grows w _ plain_grows a e ha (v.claims i a e ha (sub i a e c));
    lents = λ k a hk ha. cov_grows w _ plain_grows a _ ha (v.lents k a hk ha);
    opens = λ k a hk ha. count_grows w _ plain_grows a _ (write_at (srv w k) a).pending (v.opens k a hk ha);
    acks = λ m p. body_grows w _ plain_grows m.sender m.body (mok m p);
    pair = λ i a e i' e' ha c c' ne. omega (arith, v.pair i a e i' e' ha (sub i a e c) (sub i' a e' c') ne);
    above = abv;
  }

-- A step that replaces server k by s.

abbrev pub served_by : Basis → ℕ → Server → (Message → Type 0) → Basis
served_by w k s out = record { config = w.config; time = w.time; offsets = w.offsets; servers = set w.servers k s; clients = w.clients; out = out }

-- s records no less, and a live leader's record covers what was covered
pub record Raised (w : Basis) (k : ℕ) (s : Server) : Type 0 where
  pub place : k < length w.servers
  pub row : length s.potlease ≡ 32
  pub up : (a : ℕ) → potlease_at (srv w k) a ≤ potlease_at s a
  pub lead : (a e : ℕ) → a < w.config.addresses → T s.alive → T (leads_at s a) → Cov w a e → e ≤ potlease_at s a

module _ (w : Basis) (v : Leased w) (k : ℕ) (s : Server) (out : Message → Type 0) (r : Raised w k s) where
  pub served_grows : Grows w (served_by w k s out)
  served_grows = record {
    same = refl;
    later = le_refl _;
    records = λ j a. set_case (λ x. potlease_at (srv w j) a ≤ potlease_at x a) w.servers k s no_server j r.place (λ q. rw q (r.up a)) (λ _. le_refl _);
    leads = λ j a e hj ha. set_case (λ x. T x.alive → T (leads_at x a) → Cov w a e → e ≤ potlease_at x a) w.servers k s no_server j r.place
        (λ _. r.lead a e ha) (λ _ al le c. c.led j hj al le);
  }

  -- with the claims of the new basis given
  pub served :
      ((a : ℕ) → a < w.config.addresses → Cov (served_by w k s out) a (lent_at s a))
      → ((a : ℕ) → a < w.config.addresses → OpenOk (served_by w k s out) a (write_at s a))
      → ((m : Message) → out m → BodyOk (served_by w k s out) m.sender m.body)
      → ((i a e : ℕ) → a < w.config.addresses → Claim (served_by w k s out) i a e → Cov (served_by w k s out) a e)
      → ((i a e i' e' : ℕ) → a < w.config.addresses → Claim (served_by w k s out) i a e → Claim (served_by w k s out) i' a e' → i ≢ i' → min e e' + w.config.skew < w.time)
      → Leased (served_by w k s out)
  served lnt opn mok clm pr = record {
    rows = λ j hj. set_case (λ x. length x.potlease ≡ 32) w.servers k s no_server j r.place (λ _. r.row) (λ _. v.rows j hj);
    claims = clm;
    lents = λ j a hj ha. set_case (λ x. Cov (served_by w k s out) a (lent_at x a)) w.servers k s no_server j r.place
        (λ _. lnt a ha) (λ _. cov_grows w _ served_grows a _ ha (v.lents j a hj ha));
    opens = λ j a hj ha. set_case (λ x. OpenOk (served_by w k s out) a (write_at x a)) w.servers k s no_server j r.place
        (λ _. opn a ha) (λ _. count_grows w _ served_grows a _ (write_at (srv w j) a).pending (v.opens j a hj ha));
    acks = mok;
    pair = pr;
    above = v.above;
  }

  -- no new promise
  old_claim : ((m : Message) → out m → (i a e : ℕ) → Promises w.config m i a e → Claim w i a e) → (i a e : ℕ) → Claim (served_by w k s out) i a e → Claim w i a e
  old_claim sub i a e (holds q h p) = holds q h p
  old_claim sub i a e (sent m p c) = sub m p i a e c

  pub quiet :
      ((a : ℕ) → a < w.config.addresses → Cov (served_by w k s out) a (lent_at s a))
      → ((a : ℕ) → a < w.config.addresses → OpenOk (served_by w k s out) a (write_at s a))
      → ((m : Message) → out m → BodyOk (served_by w k s out) m.sender m.body)
      → ((m : Message) → out m → (i a e : ℕ) → Promises w.config m i a e → Claim w i a e)
      → Leased (served_by w k s out)
  quiet lnt opn mok sub = served lnt opn mok
      (λ i a e ha c. cov_grows w _ served_grows a e ha (v.claims i a e ha (old_claim sub i a e c)))
      (λ i a e i' e' ha c c' ne. v.pair i a e i' e' ha (old_claim sub i a e c) (old_claim sub i' a e' c') ne)

  -- lent ends and open writes as they were, and no new message that matters
  pub still : k < w.config.servers
      → ((a : ℕ) → lent_at s a ≡ lent_at (srv w k) a) → ((a : ℕ) → write_at s a ≡ write_at (srv w k) a)
      → ((m : Message) → out m → BodyOk w m.sender m.body)
      → ((m : Message) → out m → (i a e : ℕ) → Promises w.config m i a e → Claim w i a e)
      → Leased (served_by w k s out)
  still hk le we mok sub = quiet
      (λ a ha. rw (le a) (cov_grows w _ served_grows a _ ha (v.lents k a hk ha)))
      (λ a ha. rw (we a) (count_grows w _ served_grows a _ (write_at (srv w k) a).pending (v.opens k a hk ha)))
      (λ m p. body_grows w _ served_grows m.sender m.body (mok m p))
      sub
