-- A step that is not refused leaves every number of the facade in its range, and its message array at its length.
-- So a list of steps that starts from a fresh facade never meets refusal 2.
use mathlib.Core.Path.{◌≡◌, refl, ◌∙◌}
use mathlib.Core.Logic.{◌≢◌}
use mathlib.Core.Bool.{Bool, true, false, not, cond}
use mathlib.Core.List.{List, [], ◌∷◌}
use Prim.Native.Nat.{ℕ, ◌+◌, ◌-◌, ◌≤◌, ◌<◌, max}
use native.Mathlib.Nat.{le_refl, not-suc-le-zero}
use native.Mathlib.Omega.{arith}
use lib.Dec.{T, leb, ltb, eqb, leb→le, le→leb, ltb→lt, lt→ltb, eqb→eq}
use lib.ListN.{length, get_or, set, replicate, length-replicate}
use lib.IntN.{ℤ, pos, ◌+ℤ◌}
use Rattle.std.specs.Prelude.{Option, Some, None}
use Rattle.types.specs.declared.Config.{Config}
use Rattle.types.specs.declared.Reservation.{Reservation}
use Rattle.types.specs.declared.Pending.{Pending}
use Rattle.types.specs.declared.OpenWrite.{OpenWrite}
use Rattle.types.specs.declared.Server.{Server}
use Rattle.types.specs.declared.Binding.{Binding}
use Rattle.types.specs.declared.State.{State}
use Rattle.types.specs.declared.State.TheVariants.{Idle, Asking, Offered, Waiting, Holding}
use Rattle.types.specs.declared.Client.{Client}
use Rattle.types.specs.declared.Body.{Body}
use Rattle.types.specs.declared.Body.TheVariants.{Empty, Discover, Offer, Request, Renew, Write, WriteAck, Ack}
use Rattle.types.specs.declared.Message.{Message}
use Rattle.types.specs.declared.Outbox.{Outbox}
use Rattle.types.specs.declared.Facade.{Facade}
use Rattle.types.specs.declared.Step.{Step}
use Rattle.rules.specs.Answers.{Answer}
use Rattle.types.specs.declared.Outcome.{Outcome}
use Rattle.types.specs.declared.Outcome.TheVariants.{Done, Unmet, Dead}
use Rattle.types.specs.declared.Reaction.{Reaction}
use Rattle.types.specs.Numbers.{outcome_number}
use Rattle.rules.specs.Conditions.{◌and◌, unless, all}
use Rattle.rules.specs.Parts.{no_server, no_write, no_client, no_message, reserved_at, lent_at, potlease_at, write_at, leads_at, binding_at, with_life, with_leading, with_reserved, with_binding, message, client_party, parties, server_at, state_at, message_at, offset_at, clock, notices_of, notice_in, notice_at, with_server, with_notices, with_clients, with_client, with_time, with_next}
use Rattle.rules.specs.Ranges.{config_in_range, interaction_in_range, offset_in_range, reservation_in_range, write_in_range, address_in_range, server_in_range, state_in_range, is_server, is_client, body_in_range, message_in_range, in_range, end_in_range, reading_in_range, last_time, last_interaction, most_waiting, Sound}
use Rattle.types.specs.declared.Deed.{Deed}
use Rattle.rules.specs.Messages.{answer, nothing, post, send_all, without}
use Rattle.rules.specs.Server.{at_address, closed, lead_record, leads_after, record_after, leading_with, noticed, after_return, reservations_by, freed_if_old, cleaned, offerable, offered, on_discover, address_for, address_of, handled_at, is_request, granted, freed_if_of, dropped, grantable, on_request, on_renew, on_write, matches_write, acknowledged, on_write_ack, server_handles, server_receives}
use Rattle.rules.specs.Client.{is_holding, reply, broadcast, lapsed, discovers, requests, renews, asks_with, on_offer, kept_end, takes_ack, on_ack, client_handles}
use Rattle.rules.specs.Steps.{fresh_server, fresh, Action, pass, fail, return, notice, discover, request, renew, deliver, lose, cleanup, unknown, action_of, fields_in_range, exists, of_pass, time_left, clock_allows, interaction_left, accepted, server_acts, client_acts, lapse, delivered, deed_of, takes_out, position, taken_out, enacted, server_after, notices_after, client_after, next_after, effect, broken, refusal, answer_to, step, run, malformed, holds_ended, barred, lapsed_at}
use Rattle.rules.proofs.Laws.{Or, inl, inr, and_l, and_r, and_both, cond_case, all_at, all_by, set_any, rep_ind, filled_any}
use Rattle.rules.proofs.Clocks.{plus_high, not_negative_later, not_negative_sum}
use Rattle.rules.proofs.Cable.{Waits, Posted, ToServer, length_sent, waits_sent, length_removed, waits_removed, posted_nothing, posted_one, posted_each, posted_others}
use Rattle.rules.proofs.Kept.{address_low, handled, deliver_is, Configured, configured, Ranged, ranged, none_heard, in_range_lem, Kept, kept}

-- tests as bounds, for omega
ruleset bounds = (arith, leb→le, ltb→lt, le→leb, lt→ltb)

-- What is stored stays in range when the next interaction goes up from n to n'.

module _ (n n' : ℕ) (h : n ≤ n') where
  used_later : (q : ℕ) → T (interaction_in_range n q) → T (interaction_in_range n' q)
  unfolding interaction_in_range
  used_later q x = and_both (leb 1 q) (ltb q n') (and_l _ _ x) (lt→ltb q n' (omega (arith, ltb→lt q n (and_r _ _ x))))

  reserved_later : (x : Option Reservation) → T (reservation_in_range n x) → T (reservation_in_range n' x)
  unfolding reservation_in_range
  reserved_later None x = x
  reserved_later (Some w) x = and_both _ _ (used_later w.interaction (and_l _ _ x)) (and_r _ _ x)

  write_later : (x : Option Pending) → T (write_in_range n x) → T (write_in_range n' x)
  unfolding write_in_range
  write_later None x = x
  write_later (Some w) x = and_both _ _ (used_later w.interaction (and_l _ _ x)) (and_r _ _ x)

  state_later : (c : Config) (x : State) → T (state_in_range c n x) → T (state_in_range c n' x)
  unfolding state_in_range
  state_later c Idle x = x
  state_later c (Asking q) x = used_later q x
  state_later c (Offered q a) x = and_both _ _ (used_later q (and_l _ _ x)) (and_r _ _ x)
  state_later c (Waiting q a) x = and_both _ _ (used_later q (and_l _ _ x)) (and_r _ _ x)
  state_later c (Holding a e q) x = and_both _ _ (and_l _ _ x) (and_both _ _ (and_l _ _ (and_r _ _ x)) (used_later q (and_r _ _ (and_r _ _ x))))

  message_later : (c : Config) (m : Message) → T (message_in_range c n m) → T (message_in_range c n' m)
  unfolding message_in_range
  message_later c m x = and_both _ _ (used_later m.interaction (and_l _ _ x)) (and_r _ _ x)

-- A server in range: the same as the test, part by part. In each, address a is below A.

abbrev Reservations : Config → ℕ → List (Option Reservation) → Type 0
Reservations c n rs = (a : ℕ) → a < c.addresses → T (reservation_in_range n (get_or rs a None))

abbrev Ends : Config → List ℕ → Type 0
Ends c es = (a : ℕ) → a < c.addresses → T (end_in_range (get_or es a 0))

abbrev Writes : Config → ℕ → List OpenWrite → Type 0
Writes c n ws = (a : ℕ) → a < c.addresses → T (write_in_range n (get_or ws a no_write).pending)

record Stored (c : Config) (t n : ℕ) (s : Server) : Type 0 where
  changed : T (leb s.changed t)
  returned : T (reading_in_range s.returned)
  reserved : Reservations c n s.reserved
  lent : Ends c s.lent
  records : Ends c s.potlease
  writes : Writes c n s.writes

stored : (c : Config) (t n : ℕ) (s : Server) → T (server_in_range c t n s) → Stored c t n s
unfolding server_in_range address_in_range
stored c t n s x =
    let y = all_at (address_in_range n s) c.addresses (and_r _ _ (and_r _ _ x)) in
    record {
      changed = and_l _ _ x;
      returned = and_l _ _ (and_r _ _ x);
      reserved = λ a h. and_l _ _ (y a h);
      lent = λ a h. and_l _ _ (and_r _ _ (y a h));
      records = λ a h. and_l _ _ (and_r _ _ (and_r _ _ (y a h)));
      writes = λ a h. and_r _ _ (and_r _ _ (and_r _ _ (y a h)));
    }

server_in_range_lem : (c : Config) (t n : ℕ) (s : Server) → Stored c t n s → T (server_in_range c t n s)
unfolding server_in_range address_in_range
server_in_range_lem c t n s v =
    and_both _ _ v.changed (and_both _ _ v.returned (all_by (address_in_range n s) c.addresses (λ a h.
    and_both _ _ (v.reserved a h) (and_both _ _ (v.lent a h) (and_both _ _ (v.records a h) (v.writes a h))))))

server_later : (c : Config) (t t' n n' : ℕ) (s : Server) → t ≤ t' → n ≤ n' → T (server_in_range c t n s) → T (server_in_range c t' n' s)
server_later c t t' n n' s h h' x =
    let v = stored c t n s x in
    server_in_range_lem c t' n' s
    (record {
      changed = omega (bounds, v.changed);
      returned = v.returned;
      reserved = λ a b. reserved_later n n' h' (reserved_at s a) (v.reserved a b);
      lent = v.lent;
      records = v.records;
      writes = λ a b. write_later n n' h' (write_at s a).pending (v.writes a b);
    })

-- What a server does.

-- every message of an outbox is in range
abbrev Sends : Config → ℕ → Outbox → Type 0
Sends c n o = (m : Message) → Posted o m → T (message_in_range c n m)

-- what is kept for an address in range
record Bound (n : ℕ) (b : Binding) : Type 0 where
  reserved : T (reservation_in_range n b.reserved)
  lent : T (end_in_range b.lent)
  potlease : T (end_in_range b.potlease)
  write : T (write_in_range n b.write.pending)

record BindingFits (c : Config) (n : ℕ) (x : Reaction Binding) : Type 0 where
  binding : Bound n x.after
  sends : Sends c n x.outbox

record ServerFits (c : Config) (t n : ℕ) (x : Reaction Server) : Type 0 where
  server : Stored c t n x.after
  sends : Sends c n x.outbox

in_message : (c : Config) (n p k q : ℕ) (b : Body) → T (interaction_in_range n q) → T (body_in_range c p k b) → T (message_in_range c n (message p k q b))
unfolding message_in_range
in_message c n p k q b u x = and_both _ _ u x

-- c is the configuration, t true time, n the next interaction
module _ (c : Config) (t n : ℕ) where
  set_end : (es : List ℕ) (a e : ℕ) → Ends c es → T (end_in_range e) → Ends c (set es a e)
  set_end es a e old new a' h = set_any (λ y. T (end_in_range y)) es a e 0 a' (λ _. new) (old a' h)

  -- nothing reserved, lent or open: a server that is fresh or has returned, and with w = 0 one that does not exist
  cleared : (w x r : ℕ) (al : Bool) (b l : List Bool) (ps : List ℕ) → T (leb x t) → T (reading_in_range r) → Ends c ps
      → Stored c t n (record { alive = al; changed = x; returned = r; believed = b; leads = l; reserved = replicate w None; lent = replicate w 0; potlease = ps; writes = replicate w closed })
  unfolding reservation_in_range write_in_range
  cleared w x r al b l ps h h' hp = record {
    changed = h;
    returned = h';
    reserved = λ a _. rep_ind (λ y. T (reservation_in_range n y)) w None None a tt tt;
    lent = λ a _. rep_ind (λ y. T (end_in_range y)) w 0 0 a tt tt;
    records = hp;
    writes = λ a _. rep_ind (λ y. T (write_in_range n y.pending)) w closed no_write a tt tt;
  }

  -- a part of a server replaced
  module _ (s : Server) (v : Stored c t n s) where
    with_reserved_lem : (rs : List (Option Reservation)) → Reservations c n rs → Stored c t n (with_reserved s rs)
    with_reserved_lem rs h = record { changed = v.changed; returned = v.returned; reserved = h; lent = v.lent; records = v.records; writes = v.writes }

    with_records : (b ls : List Bool) (ps : List ℕ) → Ends c ps → Stored c t n (with_leading s b ls ps)
    with_records b ls ps h = record { changed = v.changed; returned = v.returned; reserved = v.reserved; lent = v.lent; records = h; writes = v.writes }

    with_binding_lem : (a : ℕ) (b : Binding) → Bound n b → Stored c t n (with_binding s a b)
    with_binding_lem a b h = record {
      changed = v.changed;
      returned = v.returned;
      reserved = λ a' h'. set_any (λ y. T (reservation_in_range n y)) s.reserved a _ None a' (λ _. h.reserved) (v.reserved a' h');
      lent = set_end s.lent a b.lent v.lent h.lent;
      records = set_end s.potlease a b.potlease v.records h.potlease;
      writes = λ a' h'. set_any (λ y. T (write_in_range n y.pending)) s.writes a _ no_write a' (λ _. h.write) (v.writes a' h');
    }

    binding_at_lem : (a : ℕ) → a < c.addresses → Bound n (binding_at s a)
    binding_at_lem a h = record { reserved = v.reserved a h; lent = v.lent a h; potlease = v.records a h; write = v.writes a h }

    at_address_lem : (a : ℕ) (x : Reaction Binding) → BindingFits c n x → ServerFits c t n (at_address s a x)
    at_address_lem a x h = record { server = with_binding_lem a x.after h.binding; sends = h.sends }

    -- some reservations dropped: g keeps or drops one as b says
    fewer : (g : Option Reservation → Option Reservation) (b : Reservation → Bool) → g None ≡ None → ((w : Reservation) → g (Some w) ≡ cond (b w) None (Some w))
        → Stored c t n (with_reserved s (reservations_by g c.addresses s.reserved))
    unfolding reservation_in_range
    fewer g b at-free at-taken = with_reserved_lem _ (λ a h. filled_any (λ x. T (reservation_in_range n x)) _ c.addresses s.reserved None a
        (λ _. go (reserved_at s a) (v.reserved a h)) (v.reserved a h))
      where
        go : (x : Option Reservation) → T (reservation_in_range n x) → T (reservation_in_range n (g x))
        go None h = rw at-free h
        go (Some w) h = rw (at-taken w) (cond_case (λ x. T (reservation_in_range n x)) (b w) None (Some w) (λ _. tt) (λ _. h))

    silent : (x : Outcome) → ServerFits c t n (answer s x nothing)
    silent x = record { server = v; sends = λ m y. posted_nothing m y }

  silent_at : (b : Binding) → Bound n b → (x : Outcome) → BindingFits c n (answer b x nothing)
  silent_at b h x = record { binding = h; sends = λ m y. posted_nothing m y }

  -- server k has the clock reading r
  module _ (g : Configured c) (k r : ℕ) (hk : T (is_server c k)) (hr : T (reading_in_range r)) where
    noticed_fits : (s : Server) → Stored c t n s → (j says : ℕ) → ServerFits c t n (noticed c k r s j says)
    unfolding noticed leading_with record_after
    noticed_fits s v j says =
        let b : List Bool = set s.believed j (eqb says 1) in
        silent _ (with_records s v _ _ _ (λ a h. let old = v.records a h in
        filled_any (λ x. T (end_in_range x)) _ c.addresses s.potlease 0 a
        (λ _. cond_case (λ x. T (end_in_range x)) (leads_after c k r s b a and not (leads_at s a)) (max (potlease_at s a) (lead_record c r)) (potlease_at s a) (λ _. omega bounds) (λ _. old)) old)) Done

    cleaned_fits : (s : Server) → Stored c t n s → ServerFits c t n (cleaned c r s)
    unfolding cleaned freed_if_old
    cleaned_fits s v = silent _ (fewer s v (freed_if_old c r) (λ w. ltb (w.reading + c.retention) r) refl (λ w. refl)) Done

    -- a message in interaction q
    module _ (q : ℕ) (u : T (interaction_in_range n q)) where
      sends_one : (p : ℕ) (b : Body) → T (body_in_range c k p b) → Sends c n (post nothing (message k p q b))
      sends_one p b h m x = rw (← posted_one (message k p q b) m x) (in_message c n k p q b u h)

      granted_fits : (b : Binding) → Bound n b → (p : ℕ) → T (is_client c p) → (a w l : ℕ) → T (ltb a c.addresses) → T (end_in_range w) → T (end_in_range l)
          → BindingFits c n (granted c k b p q a w l)
      unfolding granted write_in_range body_in_range
      granted_fits b v p hp a w l ha hw hl = record {
        binding = record { reserved = v.reserved; lent = hl; potlease = omega (bounds, v.potlease); write = and_both _ _ u high };
        sends = λ m x. go m (posted_others k _ _ c.servers g.servers_high (omega bounds) m x);
      }
        where
          high : T (end_in_range (max w l))
          high = omega bounds

          go : (m : Message) → Or (message k p q (Ack a l) ≡ m) (ToServer (λ j. message k j q (Write a (max w l))) c.servers m) → T (message_in_range c n m)
          go m (inl e) = rw (← e) (in_message c n k p q (Ack a l) u (and_both _ _ hk (and_both _ _ hp (and_both _ _ ha hl))))
          go m (inr x) = rw (← x.is) (in_message c n k x.to q (Write a (max w l)) u
              (and_both _ _ hk (and_both _ _ (lt→ltb x.to c.servers x.below) (and_both _ _ ha high))))

      handles_fit : (s : Server) → Stored c t n s → (p : ℕ) (b : Body) → T (body_in_range c p k b) → ServerFits c t n (server_handles c k r s p q b)
      unfolding server_handles handled_at is_request address_for on_discover offered on_request dropped freed_if_of on_renew on_write on_write_ack acknowledged reservation_in_range write_in_range body_in_range
      handles_fit s v p Discover x =
          let ha : address_of c r s Discover < c.addresses = address_low c g p k r _ _ _ Discover x in let b = binding_at_lem s v _ ha in
          at_address_lem s v _ _ (cond_case (BindingFits c n) (offerable c r (binding_at s (address_of c r s Discover))) _ _
          (λ _. record {
            binding = record { reserved = and_both _ _ u hr; lent = b.lent; potlease = b.potlease; write = b.write };
            sends = sends_one p (Offer _) (and_both _ _ hk (and_both _ _ (and_l _ _ x) (lt→ltb _ _ ha)));
          })
          (λ _. silent_at _ b Unmet))
      handles_fit s v p (Request a w) x =
          let y = and_r _ _ (and_r _ _ x) in
          let v' : Stored c t n (dropped c q s) = fewer s v (freed_if_of q) (λ w. eqb w.interaction q) refl (λ w. refl) in
          let b = binding_at_lem (dropped c q s) v' a (ltb→lt _ _ (and_l _ _ y)) in
          at_address_lem (dropped c q s) v' a _ (cond_case (BindingFits c n) (grantable c r (binding_at (dropped c q s) a)) _ _
          (λ _. granted_fits _ b p (and_l _ _ x) a w (r + c.mclt) (and_l _ _ y) (and_r _ _ y) (omega bounds)) (λ _. silent_at _ b Unmet))
      handles_fit s v p (Renew a e w) x =
          let y = and_r _ _ (and_r _ _ x) in let b = binding_at_lem s v a (ltb→lt _ _ (and_l _ _ y)) in
          at_address_lem s v a _ (cond_case (BindingFits c n) (leads_at s a and leb r e) _ _
          (λ _. granted_fits _ b p (and_l _ _ x) a w (max (r + c.mclt) (lent_at s a)) (and_l _ _ y) (and_r _ _ (and_r _ _ y)) (omega bounds)) (λ _. silent_at _ b Unmet))
      handles_fit s v p (Write a e) x =
          let y = and_r _ _ (and_r _ _ x) in let b = binding_at_lem s v a (ltb→lt _ _ (and_l _ _ y)) in let he : T (end_in_range e) = and_r _ _ y in
          at_address_lem s v a _ (record {
            binding = record { reserved = b.reserved; lent = b.lent; potlease = omega bounds; write = b.write };
            sends = sends_one p (WriteAck a e) (and_both _ _ hk (and_both _ _ (and_l _ _ x) y));
          })
      handles_fit s v p (WriteAck a e) x =
          let y = and_r _ _ (and_r _ _ x) in let b = binding_at_lem s v a (ltb→lt _ _ (and_l _ _ y)) in let he : T (end_in_range e) = and_r _ _ y in
          at_address_lem s v a _ (cond_case (BindingFits c n) (leads_at s a and matches_write q e (write_at s a).pending) _ _
          (λ _. silent_at _ (cond_case (Bound n) (all (λ j. get_or (set (write_at s a).acked p true) j false) c.servers) _ _
          (λ _. record { reserved = b.reserved; lent = omega bounds; potlease = b.potlease; write = tt })
          (λ _. record { reserved = b.reserved; lent = b.lent; potlease = b.potlease; write = and_both _ _ u he })) Done)
          (λ _. silent_at _ b Unmet))
      handles_fit s v p Empty x = absurd x
      handles_fit s v p (Offer a) x = at_address_lem s v a _ (silent_at _ (binding_at_lem s v a (ltb→lt a _ (and_r _ _ (and_r _ _ x)))) Unmet)
      handles_fit s v p (Ack a e) x = at_address_lem s v a _ (silent_at _ (binding_at_lem s v a (ltb→lt a _ (and_l _ _ (and_r _ _ (and_r _ _ x))))) Unmet)

-- What a client does: client i, in state x.

record ClientFits (c : Config) (n i : ℕ) (x : Reaction Client) : Type 0 where
  state : i < c.clients → T (state_in_range c n x.after.state)
  sends : Sends c n x.outbox

module _ (c : Config) (n i : ℕ) where
  lapsed_in_range : (r : ℕ) (x : State) → T (state_in_range c n x) → T (state_in_range c n (lapsed r x))
  unfolding lapsed state_in_range
  lapsed_in_range r Idle h = h
  lapsed_in_range r (Asking q) h = h
  lapsed_in_range r (Offered q a) h = h
  lapsed_in_range r (Waiting q a) h = h
  lapsed_in_range r (Holding a e q) h = cond_case (λ x. T (state_in_range c n x)) (ltb r e) (Holding a e q) Idle (λ _. h) (λ _. tt)

  replies : (x : State) (o : Outcome) → (i < c.clients → T (state_in_range c n x)) → ClientFits c n i (reply x o nothing)
  replies x o h = record { state = h; sends = λ m y. posted_nothing m y }

  kept_in_range : (x : State) (e : ℕ) → T (state_in_range c n x) → T (end_in_range e) → T (end_in_range (kept_end x e))
  unfolding state_in_range kept_end
  kept_in_range Idle e h he = he
  kept_in_range (Asking q) e h he = he
  kept_in_range (Offered q a) e h he = he
  kept_in_range (Waiting q a) e h he = he
  kept_in_range (Holding a e' q) e h he = let old = and_l _ _ (and_r _ _ h) in omega bounds

  client_fits_lem : (r : ℕ) (x : State) → (i < c.clients → T (state_in_range c n x)) → (p k q : ℕ) → T (interaction_in_range n q) → (b : Body) → T (body_in_range c p k b)
      → ClientFits c n i (client_handles r x q b)
  unfolding client_handles body_in_range on_offer on_ack state_in_range
  client_fits_lem r x old p k q u Empty h = replies x Unmet old
  client_fits_lem r x old p k q u Discover h = replies x Unmet old
  client_fits_lem r x old p k q u (Offer a) h =
      cond_case (ClientFits c n i) (asks_with x q) _ _ (λ _. replies (Offered q a) Done (λ _. and_both _ _ u (and_r _ _ (and_r _ _ h)))) (λ _. replies x Unmet old)
  client_fits_lem r x old p k q u (Request a t) h = replies x Unmet old
  client_fits_lem r x old p k q u (Renew a e t) h = replies x Unmet old
  client_fits_lem r x old p k q u (Write a v) h = replies x Unmet old
  client_fits_lem r x old p k q u (WriteAck a v) h = replies x Unmet old
  client_fits_lem r x old p k q u (Ack a e) h = let y = and_r _ _ (and_r _ _ h) in
      cond_case (ClientFits c n i) (takes_ack r x q a e) _ _
      (λ _. replies (Holding a (kept_end x e) q) Done (λ z. and_both _ _ (and_l _ _ y) (and_both _ _ (kept_in_range x e (old z) (and_r _ _ y)) u)))
      (λ _. replies x Unmet old)

  -- its own steps
  module _ (g : Configured c) (hi : T (ltb i c.clients)) where
    is_client_lem : T (is_client c (client_party c i))
    unfolding is_client
    is_client_lem = and_both (leb c.servers (client_party c i)) _ (omega bounds) (lt→ltb (client_party c i) (parties c) (omega bounds))

    broadcasts : (x : State) (q : ℕ) (b : Body) → T (state_in_range c n x) → T (interaction_in_range n q)
        → ((j : ℕ) → T (is_server c j) → T (body_in_range c (client_party c i) j b)) → ClientFits c n i (reply x Done (broadcast c i q b))
    broadcasts x q b h u body = record { state = λ _. h; sends = λ m y. go m (posted_each _ c.servers g.servers_high m y) }
      where
        go : (m : Message) → ToServer (λ j. message (client_party c i) j q b) c.servers m → T (message_in_range c n m)
        go m y = rw (← y.is) (in_message c n (client_party c i) y.to q b u (body y.to (lt→ltb y.to c.servers y.below)))

    discovers_fit : (x : State) (q : ℕ) → T (state_in_range c n x) → T (interaction_in_range n q) → ClientFits c n i (discovers c i x q)
    unfolding discovers state_in_range body_in_range
    discovers_fit x q h u = cond_case (ClientFits c n i) (is_holding x) _ _
        (λ _. replies x Unmet (λ _. h)) (λ _. broadcasts (Asking q) q Discover u u (λ j b. and_both _ _ is_client_lem b))

    requests_fit : (x : State) (t : ℕ) → T (state_in_range c n x) → T (end_in_range t) → ClientFits c n i (requests c i x t)
    unfolding requests state_in_range body_in_range
    requests_fit Idle t h ht = replies Idle Unmet (λ _. h)
    requests_fit (Asking q) t h ht = replies (Asking q) Unmet (λ _. h)
    requests_fit (Offered q a) t h ht =
        broadcasts (Waiting q a) q (Request a t) h (and_l _ _ h) (λ j b. and_both _ _ is_client_lem (and_both _ _ b (and_both _ _ (and_r _ _ h) ht)))
    requests_fit (Waiting q a) t h ht = replies (Waiting q a) Unmet (λ _. h)
    requests_fit (Holding a e q) t h ht = replies (Holding a e q) Unmet (λ _. h)

    renews_fit : (x : State) (t q : ℕ) → T (state_in_range c n x) → T (end_in_range t) → T (interaction_in_range n q) → ClientFits c n i (renews c i x t q)
    unfolding renews state_in_range body_in_range
    renews_fit Idle t q h ht u = replies Idle Unmet (λ _. h)
    renews_fit (Asking q') t q h ht u = replies (Asking q') Unmet (λ _. h)
    renews_fit (Offered q' a) t q h ht u = replies (Offered q' a) Unmet (λ _. h)
    renews_fit (Waiting q' a) t q h ht u = replies (Waiting q' a) Unmet (λ _. h)
    renews_fit (Holding a e q') t q h ht u =
        let he = and_l _ _ (and_r _ _ h) in
        broadcasts (Holding a e q) q (Renew a e t) (and_both _ _ (and_l _ _ h) (and_both _ _ he u)) u
        (λ j b. and_both _ _ is_client_lem (and_both _ _ b (and_both _ _ (and_l _ _ h) (and_both _ _ he ht))))

-- The facade.

-- a step that was taken, with all in range
record Good (y : Answer) : Type 0 where
  accepted : y.refusal ≡ 0
  range : Ranged y.facade
  full : length y.facade.messages ≡ 128

still : (g : Facade) → Ranged g → length g.messages ≡ 128 → Good (accepted g 0)
still g v l = record { accepted = refl; range = v; full = l }

-- the facade with other servers, notice times, clients and messages
abbrev replaced : Facade → List Server → List (List ℕ) → List Client → List Message → ℕ → Facade
replaced f ss ts xs ms w =
    record { config = f.config; time = f.time; next = f.next; offsets = f.offsets; servers = ss; notices = ts; clients = xs; messages = ms; waiting = w }

-- notice times are not above true time
abbrev Heard : Facade → List (List ℕ) → Type 0
Heard f ts = (k j : ℕ) → k < f.config.servers → j < f.config.servers → j ≢ k → notice_in ts k j ≤ f.time

module _ (f : Facade) (v : Ranged f) where
  sized : Configured f.config
  sized = configured f.config v.config

  reads : (k : ℕ) → T (is_server f.config k) → T (reading_in_range (clock f k))
  unfolding offset_in_range
  reads k h =
      omega (bounds, sized, plus_high f.time f.config.skew (offset_at f k) (leb→le _ _ (and_l _ _ (v.offset k (omega bounds)))), v.time)

  stored_at : (k : ℕ) → T (is_server f.config k) → Stored f.config f.time f.next (server_at f k)
  stored_at k h = stored f.config f.time f.next (server_at f k) (v.server k (omega bounds))

  -- true time, the clocks and the next interaction go on
  later : (t n : ℕ) (os : List ℤ) → f.time ≤ t → t ≤ last_time → f.next ≤ n → n ≤ last_interaction + 1
      → ((p : ℕ) → p < parties f.config → T (offset_in_range f.config t (get_or os p (pos 0)))) → Ranged (with_next (with_time f t os) n)
  later t n os ht t-high hn n-high clocks = record {
    config = v.config;
    time = t-high;
    next_low = omega (arith, v.next_low);
    next_high = n-high;
    waiting = v.waiting;
    offset = clocks;
    server = λ k h. server_later f.config f.time t f.next n (server_at f k) ht hn (v.server k h);
    notice = λ k j h h' ne. omega (arith, v.notice k j h h' ne);
    client = λ i h. state_later f.next n hn f.config (state_at f i) (v.client i h);
    message = λ m x. message_later f.next n hn f.config m (v.message m (record { at = x.at; below = x.below; is = x.is }));
  }

  parts : (ss : List Server) (ts : List (List ℕ)) (xs : List Client) (ms : List Message) (w : ℕ)
      → ((k : ℕ) → k < f.config.servers → T (server_in_range f.config f.time f.next (get_or ss k no_server)))
      → Heard f ts
      → ((i : ℕ) → i < f.config.clients → T (state_in_range f.config f.next (get_or xs i no_client).state))
      → w ≤ most_waiting → ((m : Message) → Waits (replaced f ss ts xs ms w) m → T (message_in_range f.config f.next m)) → Ranged (replaced f ss ts xs ms w)
  parts ss ts xs ms w ok heard states room sent =
      record { config = v.config; time = v.time; next_low = v.next_low; next_high = v.next_high; waiting = room; offset = v.offset; server = ok; notice = heard; client = states; message = sent }

  with_server_lem : (k : ℕ) (s : Server) (ts : List (List ℕ)) → Stored f.config f.time f.next s → Heard f ts → Ranged (with_server (with_notices f ts) k s)
  with_server_lem k s ts x heard = parts _ ts f.clients f.messages f.waiting
      (λ j h. set_any (λ y. T (server_in_range f.config f.time f.next y)) f.servers k s no_server j (λ _. server_in_range_lem f.config f.time f.next s x) (v.server j h))
      heard v.client v.waiting (λ m y. v.message m (record { at = y.at; below = y.below; is = y.is }))

  with_clients_lem : (xs : List Client) → ((i : ℕ) → i < f.config.clients → T (state_in_range f.config f.next (get_or xs i no_client).state)) → Ranged (with_clients f xs)
  with_clients_lem xs clients = parts f.servers f.notices xs f.messages f.waiting v.server v.notice
      clients v.waiting (λ m y. v.message m (record { at = y.at; below = y.below; is = y.is }))

  good_sent : length f.messages ≡ 128 → (o : Outbox) (x : ℕ) → f.waiting + o.count ≤ most_waiting → Sends f.config f.next o → Good (accepted (send_all f o) x)
  good_sent l o x h new = record {
    accepted = refl;
    range = parts f.servers f.notices f.clients _ _ v.server v.notice v.client h (λ m y. go m (waits_sent f o (omega arith) m y));
    full = length_sent f.messages f.waiting o o.count ∙ l;
  }
    where
      go : (m : Message) → Or (Waits f m) (Posted o m) → T (message_in_range f.config f.next m)
      go m (inl y) = v.message m y
      go m (inr y) = new m y

-- the parties act
module _ (f : Facade) (v : Ranged f) (l : length f.messages ≡ 128) where
  server_acts_lem : (k : ℕ) (x : Reaction Server) (ts : List (List ℕ)) → ServerFits f.config f.time f.next x → Heard f ts
      → f.waiting + x.outbox.count ≤ most_waiting → Good (server_acts (with_notices f ts) k x)
  server_acts_lem k x ts fits heard room =
      good_sent (with_server (with_notices f ts) k x.after) (with_server_lem f v k x.after ts fits.server heard) l x.outbox (outcome_number x.outcome) room fits.sends

  client_acts_lem : (i : ℕ) (x : Reaction Client) → ClientFits f.config f.next i x → f.waiting + x.outbox.count ≤ most_waiting → Good (client_acts f i x)
  client_acts_lem i x fits room = good_sent (with_client f i x.after)
      (with_clients_lem f v _ (λ j h. set_any (λ y. T (state_in_range f.config f.next y.state)) f.clients i x.after no_client j (λ e. fits.state (omega arith)) (v.client j h)))
      l x.outbox (outcome_number x.outcome) room fits.sends

  good_handled : (m : Message) → T (message_in_range f.config f.next m) → (handled f m).facade.waiting ≤ most_waiting → Good (handled f m)
  unfolding delivered enacted server_after notices_after client_after next_after server_receives message_in_range
  good_handled m x =
      let k : ℕ = m.receiver in
      let i : ℕ = k - f.config.servers in
      cond_case (λ (d : Deed). (enacted f d).facade.waiting ≤ most_waiting → Good (enacted f d)) (is_server f.config k) _ _
      (λ h. server_acts_lem k _ f.notices
      (cond_case (ServerFits f.config f.time f.next) (server_at f k).alive _ _
      (λ _. handles_fit f.config f.time f.next (sized f v) k (clock f k) h (reads f v k h) m.interaction (and_l _ _ x) (server_at f k) (stored_at f v k h) m.sender m.body (and_r _ _ x))
      (λ _. silent f.config f.time f.next (server_at f k) (stored_at f v k h) Dead))
      v.notice)
      (λ _. client_acts_lem i _ (client_fits_lem f.config f.next i (clock f (client_party f.config i)) (state_at f i) (v.client i) m.sender k m.interaction (and_l _ _ x) m.body (and_r _ _ x)))

-- The ten steps.

module _ (f : Facade) (l : length f.messages ≡ 128) (v : Ranged f) where
  -- a row of notice times in place of server k's
  row_heard : (k : ℕ) (row : List ℕ) → ((j : ℕ) → notice_at f k j ≤ f.time → get_or row j 0 ≤ f.time) → Heard f (set f.notices k row)
  row_heard k row h i j hi hj ne =
      set_any (λ x. get_or x j 0 ≤ f.time) f.notices k row [] i (λ e. h j (rw e at (v.notice i j hi hj ne))) (v.notice i j hi hj ne)

  good_pass : (d p : ℕ) (e : ℤ) → Kept f (pass d p e) → Good (effect f (pass d p e))
  unfolding effect deed_of takes_out taken_out enacted lapse lapsed_at holds_ended of_pass time_left clock_allows offset_in_range
  good_pass d p e x =
      let g = later f v (f.time + d) f.next (set f.offsets p (offset_at f p +ℤ e)) (omega arith) (leb→le (f.time + d) last_time x.time) (le_refl _) v.next_high
      (λ p' h. let o = v.offset p' h in
      set_any (λ o. T (offset_in_range f.config (f.time + d) o)) f.offsets p (offset_at f p +ℤ e) (pos 0) p'
      (λ same. and_both _ _ (and_r _ _ x.clocks) (not_negative_sum f.time d (offset_at f p) e (rw same at (and_r _ _ o)) (and_l _ _ x.clocks)))
      (and_both _ _ (and_l _ _ o) (not_negative_later f.time d (offset_at f p') (and_r _ _ o)))) in
      still _ (with_clients_lem (with_time f (f.time + d) (set f.offsets p (offset_at f p +ℤ e))) g _ (λ i h. filled_any (λ y. T (state_in_range f.config f.next y.state)) _ f.config.clients f.clients no_client i
      (λ _. lapsed_in_range f.config f.next i _ (state_at f i) (v.client i h)) (v.client i h))) l

  -- a new interaction
  begun : T (leb f.next last_interaction) → Ranged (with_next f (f.next + 1)) × T (interaction_in_range (f.next + 1) f.next)
  unfolding interaction_in_range
  begun h = (
    later f v f.time (f.next + 1) f.offsets (le_refl _) v.time (omega arith) (omega bounds) v.offset,
    and_both (leb 1 f.next) _ (le→leb 1 f.next v.next_low) (lt→ltb f.next (f.next + 1) (omega arith)),
  )

  good_without : (p : ℕ) → T (ltb p f.waiting) → Good (accepted (without f p) 0)
  good_without p t =
      let h : p < f.waiting = ltb→lt p f.waiting t in
      let b : f.waiting ≤ length f.messages = omega (arith, v.waiting) in
      still _
      (parts f v f.servers f.notices f.clients _ _ v.server v.notice v.client (omega (arith, v.waiting)) (λ m y. v.message m (waits_removed f p h b m y)))
      (length_removed f.messages p f.waiting h b ∙ l)

  good_effect : (x : Action) → Kept f x → Good (effect f x)
  unfolding effect fields_in_range exists interaction_left after_return deed_of takes_out position taken_out enacted server_after notices_after client_after next_after
  good_effect (pass d p e) x = good_pass d p e x
  good_effect (fail k) x =
      let s = stored_at f v k x.names in
      let s' : Stored f.config f.time f.next (with_life (server_at f k) false f.time) =
      record { changed = le→leb _ _ (le_refl f.time); returned = s.returned; reserved = s.reserved; lent = s.lent; records = s.records; writes = s.writes } in
      server_acts_lem f v l k _ f.notices (silent f.config f.time f.next _ s' Done) v.notice x.room
  good_effect (return k) x =
      server_acts_lem f v l k _ _ (silent f.config f.time f.next _
      (cleared f.config f.time f.next 32 f.time (clock f k) true _ _ _ (le→leb _ _ (le_refl f.time)) (reads f v k x.names) (stored_at f v k x.names).records) Done)
      (row_heard k _ (λ j _. rep_ind (λ x. x ≤ f.time) 4 f.time 0 j (le_refl f.time) (omega arith))) x.room
  good_effect (notice k j says) x =
      let h = and_l _ _ x.names in
      server_acts_lem f v l k _ _
      (noticed_fits f.config f.time f.next (sized f v) k (clock f k) h (reads f v k h) (server_at f k) (stored_at f v k h) j says)
      (row_heard k _ (λ j' old. set_any (λ x. x ≤ f.time) (notices_of f.notices k) j f.time 0 j' (λ _. le_refl f.time) old)) x.room
  good_effect (discover i) x =
      let b = begun x.fresh_interaction in
      client_acts_lem (with_next f (f.next + 1)) b.0 l i _ (discovers_fit f.config (f.next + 1) i (sized f v) x.names (state_at f i) f.next (b.0.client i (ltb→lt _ _ x.names)) b.1) x.room
  good_effect (request i t) x =
      client_acts_lem f v l i _
      (requests_fit f.config f.next i (sized f v) x.names (state_at f i) t (v.client i (ltb→lt _ _ x.names)) x.fields) x.room
  good_effect (renew i t) x =
      let b = begun x.fresh_interaction in
      client_acts_lem (with_next f (f.next + 1)) b.0 l i _
      (renews_fit f.config (f.next + 1) i (sized f v) x.names (state_at f i) t f.next (b.0.client i (ltb→lt _ _ x.names)) x.fields b.1) x.room
  good_effect (deliver p keep) x =
      let y = good_without p x.names in
      let m : Message = message_at f p in
      let ok = v.message m (record { at = p; below = ltb→lt p f.waiting x.names; is = refl }) in
      rw (deliver_is f p keep)
      (cond_case (λ g. (handled g m).facade.waiting ≤ most_waiting → Good (handled g m)) (eqb keep 0) (without f p) f
      (λ _. good_handled (without f p) y.range y.full m ok) (λ _. good_handled f v l m ok) (rw (deliver_is f p keep) at x.room))
  good_effect (lose p) x = good_without p x.names
  good_effect (cleanup k) x =
      let h = x.names in
      server_acts_lem f v l k _ f.notices
      (cleaned_fits f.config f.time f.next (sized f v) k (clock f k) h (reads f v k h) (server_at f k) (stored_at f v k h)) v.notice x.room
  good_effect unknown x = still f v l

good : (f : Facade) (x : Action) → length f.messages ≡ 128 → refusal f x ≡ 0 → Good (effect f x)
good f x l e = let y = kept f x e in good_effect f l (ranged f y.range) x y

-- A step that is not refused, of a facade whose message array has its 128 places, leaves the facade in range.
pub in_range_kept : (f : Facade) (x : Action) → length f.messages ≡ 128 → refusal f x ≡ 0 → T (in_range (effect f x).facade)
in_range_kept f x l e = in_range_lem _ (good f x l e).range

-- It leaves the message array at its 128 places.
pub messages_kept : (f : Facade) (x : Action) → length f.messages ≡ 128 → refusal f x ≡ 0 → length (effect f x).facade.messages ≡ 128
messages_kept f x l e = (good f x l e).full

-- A fresh facade is in range.
pub fresh_in_range : (c : Config) → T (config_in_range c) → T (in_range (fresh c))
unfolding fresh offset_in_range state_in_range
fresh_in_range c h = in_range_lem (fresh c) (record {
  config = h;
  time = omega arith;
  next_low = omega arith;
  next_high = omega arith;
  waiting = omega arith;
  offset = λ p _. rep_ind (λ o. T (offset_in_range c 0 o)) 36 (pos 0) (pos 0) p exact exact;
  server = λ k _. rep_ind (λ s. T (server_in_range c 0 1 s)) 4 fresh_server no_server k
      (server_in_range_lem c 0 1 _ (cleared c 0 1 32 0 0 true _ _ _ tt tt (none 32))) (server_in_range_lem c 0 1 _ (cleared c 0 1 0 0 0 false _ _ _ tt tt (none 0)));
  notice = λ k j _ _ _. omega (arith, none_heard k j);
  client = λ i _. rep_ind (λ x. T (state_in_range c 1 x.state)) 32 no_client no_client i tt tt;
  message = λ m x. absurd (not-suc-le-zero x.below);
})
  where
    exact : T (offset_in_range c 0 (pos 0))
    exact = and_both (leb 0 c.skew) _ (omega bounds) tt

    none : (w a : ℕ) → a < c.addresses → T (end_in_range (get_or (replicate w 0) a 0))
    none w a _ = rep_ind (λ x. T (end_in_range x)) w 0 0 a tt tt

pub step_sound : (f : Facade) (s : Step) → Sound f → Sound (step f s).facade
unfolding step answer_to
step_sound f s v = let x : Action = action_of s in
    cond_case (λ (y : Answer). Sound y.facade) (eqb (refusal f x) 0) _ _
    (λ e. let y = good f x v.1 (eqb→eq (refusal f x) 0 e) in (in_range_lem _ y.range, y.full))
    (λ _. v)

-- A step, refused or not, leaves a facade in range: a refused one gives back what it was given.
pub step_in_range : (f : Facade) (s : Step) → length f.messages ≡ 128 → T (in_range f) → T (in_range (step f s).facade)
step_in_range f s l h = (step_sound f s (h, l)).0

run_sound : (f : Facade) (ss : List Step) → Sound f → Sound (run f ss)
unfolding run
run_sound f [] v = v
run_sound f (s ∷ ss) v = run_sound (step f s).facade ss (step_sound f s v)

pub fresh_sound : (c : Config) → T (config_in_range c) → Sound (fresh c)
unfolding fresh
fresh_sound c h = (fresh_in_range c h, length-replicate 128 no_message)

-- A list of steps that starts from a fresh facade comes to a facade in range.
pub run_in_range : (c : Config) (ss : List Step) → T (config_in_range c) → T (in_range (run (fresh c) ss))
run_in_range c ss h = (run_sound (fresh c) ss (fresh_sound c h)).0

unless_kept : (b : Bool) (n below : ℕ) → T b → below ≢ 2 → unless b n below ≢ 2
unfolding unless
unless_kept true n below t h = h
unless_kept false n below t h = absurd t

unless_other : (b : Bool) (n below : ℕ) → n ≢ 2 → below ≢ 2 → unless b n below ≢ 2
unfolding unless
unless_other true n below h h' = h'
unless_other false n below h h' = h

other : (f : Facade) (x : Action) → T (in_range f) → refusal f x ≢ 2
unfolding refusal broken malformed barred
other f x h =
    unless_kept (in_range f) 2 _ h (unless_other _ 4 _ (omega arith) (unless_other _ 5 _ (omega arith) (unless_other _ 6 _ (omega arith) (unless_other _ 7 _ (omega arith)
    (unless_other _ 8 _ (omega arith) (unless_other _ 9 _ (omega arith) (unless_other _ 10 _ (omega arith) (unless_other _ 11 _ (omega arith)
    (unless_other _ 12 _ (omega arith) (unless_other _ 13 0 (omega arith) (omega arith)))))))))))

-- And no step after such a list has refusal 2.
pub never_two : (c : Config) (ss : List Step) (s : Step) → T (config_in_range c) → (step (run (fresh c) ss) s).refusal ≢ 2
unfolding step answer_to
never_two c ss s h =
    let f : Facade = run (fresh c) ss in
    let x : Action = action_of s in
    let v = run_sound (fresh c) ss (fresh_sound c h) in
    cond_case (λ (y : Answer). y.refusal ≢ 2) (eqb (refusal f x) 0) _ _
    (λ e. omega (arith, (good f x v.1 (eqb→eq (refusal f x) 0 e)).accepted))
    (λ _. other f x v.0)
