-- What is put behind what is put.
use mathlib.Core.Path.{◌≡◌, sym, ap, ◌∙◌}
use mathlib.Core.List.{List, [], ◌∷◌, ◌++◌, append_assoc, append-nil}
use Prim.Native.Nat.{ℕ, ◌+◌, ◌<◌, ◌≤◌}
use native.Mathlib.Nat.{add_assoc}
use native.Mathlib.Omega.{arith}
use lib.ListN.{length, get_or, take, drop, length-append}
use Rattle.std.proofs.lemmas.Grind.{flat_map-append}
use Rattle.std.proofs.lemmas.List.{drop-drop, take_more}
use Rattle.std.specs.List.{concat, flat_map}
use Rattle.types.specs.declared.Facade.{Facade}
use Rattle.types.specs.declared.Message.{Message}
use Rattle.types.specs.declared.OpenWrite.{OpenWrite}
use Rattle.types.specs.declared.Outbox.{Outbox}
use Rattle.types.specs.declared.Server.{Server}
use Rattle.wire.specs.Numbers.{over}
use Rattle.wire.proofs.Over.{over_none, over_length, over_over}
use Rattle.flat.specs.Flat.{message_parts, message_numbers, write_parts, write_numbers, outbox_parts, outbox_numbers, server_parts, server_numbers, facade_parts, facade_numbers}
use Rattle.flat.specs.Pages.{put}
use Rattle.flat.specs.declared.Page.{Page}
use Rattle.flat.specs.Shape.{WriteShaped, OutboxShaped, ServerShaped, FacadeShaped}
use Rattle.flat.proofs.Back.{message_flat, write_flat, outbox_flat, server_flat, facade_flat}

-- at the front of what is behind the place i
pub over_behind : (l : List ℕ) (i : ℕ) (v : List ℕ) → take i l ++ over (drop i l) 0 v ≡ over l i v
over_behind l i v =
    let at : drop (0 + length v) (drop i l) ≡ drop (i + length v) l = drop-drop (0 + length v) i l ∙ ap (λ (k : ℕ). drop k l) (omega arith) in
    rw at (sym (append_assoc (take i l) v (drop (i + length v) l)))

pub put_then : (p : Page) (v w : List ℕ) → p.end + length v ≤ length p.out.now → put (put p v) w ≡ put p (v ++ w)
put_then p v w fits = rw (over_over p.out.now p.end v fits w, length-append v w, add_assoc p.end (length v) (length w))

-- one element more
pub put_more : {A : Type 0} (f : A → List ℕ) (xs : List A) (i : ℕ) (d : A) (p : Page) {q r : Page} → i < length xs
    → q ≡ put p (flat_map f (take i xs)) → q.end ≤ length p.out.now → r ≡ put q (f (get_or xs i d)) → r ≡ put p (flat_map f (take (i + 1) xs))
put_more f xs i d p h e fits n =
    let v = flat_map f (take i xs) in
    let more : flat_map f (take (i + 1) xs) ≡ v ++ f (get_or xs i d) =
    rw (take_more xs i d h, flat_map-append f (take i xs) (get_or xs i d ∷ []), append-nil (f (get_or xs i d))) in
    let room : p.end + length v ≤ length p.out.now = rw e at fits in
    n ∙ rw e (put_then p v (f (get_or xs i d)) room) ∙ ap (put p) (sym more)

-- the lists put one behind the other, from place i on
abbrev pub overs : List ℕ → ℕ → List (List ℕ) → List ℕ
overs l i [] = l
overs l i (v ∷ vs) = overs (over l i v) (i + length v) vs

overs_all : (l : List ℕ) (i : ℕ) (vs : List (List ℕ)) → i + length (concat vs) ≤ length l → over l i (concat vs) ≡ overs l i vs
overs_all l i [] fits = over_none l i
overs_all l i (v ∷ vs) fits =
    let both = length-append v (concat vs) in
    let long = over_length l i v (omega arith) in
    sym (over_over l i v (omega arith) (concat vs)) ∙ overs_all (over l i v) (i + length v) vs (omega arith)

module _ (l : List ℕ) where
  pub message_over : (m : Message) → 7 ≤ length l → over l 0 (message_numbers m) ≡ overs l 0 (message_parts m)
  unfolding message_numbers
  message_over m fits = overs_all l 0 (message_parts m) (omega (arith, (message_flat m).wide))

  pub write_over : (w : OpenWrite) → WriteShaped w → 7 ≤ length l → over l 0 (write_numbers w) ≡ overs l 0 (write_parts w)
  unfolding write_numbers
  write_over w h fits = overs_all l 0 (write_parts w) (omega (arith, (write_flat w h).wide))

  pub server_over : (s : Server) → ServerShaped s → 423 ≤ length l → over l 0 (server_numbers s) ≡ overs l 0 (server_parts s)
  unfolding server_numbers
  server_over s h fits = overs_all l 0 (server_parts s) (omega (arith, (server_flat s h).wide))

  pub facade_over : (f : Facade) → FacadeShaped f → 2778 ≤ length l → over l 0 (facade_numbers f) ≡ overs l 0 (facade_parts f)
  unfolding facade_numbers
  facade_over f h fits = overs_all l 0 (facade_parts f) (omega (arith, (facade_flat f h).wide))

  pub outbox_over : (o : Outbox) → OutboxShaped o → 29 ≤ length l → over l 0 (outbox_numbers o) ≡ overs l 0 (outbox_parts o)
  unfolding outbox_numbers
  outbox_over o h fits = overs_all l 0 (outbox_parts o) (omega (arith, (outbox_flat o h).wide))
