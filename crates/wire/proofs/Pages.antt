-- What is put on a page, one piece behind the other.
use mathlib.Core.Path.{◌≡◌, sym, ap, ◌∙◌}
use mathlib.Core.List.{List, [], ◌∷◌, ◌++◌, append-nil}
use Prim.Native.Nat.{ℕ, ◌+◌, ◌<◌}
use native.Mathlib.Nat.{add-zero, add_assoc}
use native.Mathlib.Omega.{arith}
use lib.ListN.{length, get_or, take, drop, length-append, take-append-drop}
use Rattle.std.specs.List.{flat_map}
use Rattle.std.proofs.lemmas.Grind.{flat_map-append}
use Rattle.std.proofs.lemmas.List.{take_more}
use Rattle.wire.specs.Pages.{put, HasRoom}
use Rattle.wire.specs.declared.Page.{Page}
use Rattle.wire.proofs.Over.{over_none, over_length, over_over}

pub put_none : (p : Page) → put p [] ≡ p
put_none p = rw (over_none p.out.now p.end, add-zero)

module _ {p : Page} (v w : List ℕ) (h : HasRoom p (v ++ w)) where
  -- where two have room, the first has
  pub room_first : HasRoom p v
  room_first = record { fits = omega (arith, length-append v w, h.fits) }

  -- and the second behind it
  pub room_then : HasRoom (put p v) w
  room_then = record { fits = omega (arith, length-append v w, h.fits, over_length p.out.now p.end v room_first.fits) }

  -- so both are put
  pub put_then : put (put p v) w ≡ put p (v ++ w)
  put_then = rw (over_over p.out.now p.end v room_first.fits w, length-append v w, add_assoc p.end (length v) (length w))

pub ruleset pieces = (room_first, room_then, put_then)

-- The pieces of numbers, one number more at a time.
module _ (f : ℕ → List ℕ) (p : Page) (ns : List ℕ) (room : HasRoom p (flat_map f ns)) where
  some_fit : (j : ℕ) → HasRoom p (flat_map f (take j ns))
  some_fit j =
      let all : flat_map f ns ≡ flat_map f (take j ns) ++ flat_map f (drop j ns) = rw (take-append-drop j ns) at (flat_map-append f (take j ns) (drop j ns)) in
      room_first _ _ (rw all at room)

  module _ (i : ℕ) (h : i < length ns) where
    one_more : flat_map f (take (i + 1) ns) ≡ flat_map f (take i ns) ++ f (get_or ns i 0)
    one_more = rw (take_more ns i 0 h, flat_map-append f (take i ns) (get_or ns i 0 ∷ []), append-nil (f (get_or ns i 0)))

    both_fit : HasRoom p (flat_map f (take i ns) ++ f (get_or ns i 0))
    both_fit = rw one_more at (some_fit (i + 1))

    pub next_fits : HasRoom (put p (flat_map f (take i ns))) (f (get_or ns i 0))
    next_fits = room_then _ _ both_fit

    pub next_put : put (put p (flat_map f (take i ns))) (f (get_or ns i 0)) ≡ put p (flat_map f (take (i + 1) ns))
    next_put = put_then _ _ both_fit ∙ ap (put p) (sym one_more)
