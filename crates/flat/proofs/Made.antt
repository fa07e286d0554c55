-- An array made by a call at each index has what the calls give.
use mathlib.Core.Path.{◌≡◌, refl, ◌∙◌, subst}
use mathlib.Core.List.{List, map}
use Prim.Native.Nat.{ℕ, zero, suc, ◌+◌, ◌<◌}
use native.Mathlib.Omega.{arith}
use lib.ListN.{get_or}
use denote.Param.Members.{Mut, Called}
use Rattle.std.specs.Array.{IsFromFnResult, IsFromFnResultFrom}
use Rattle.std.specs.Iterator.{ActsAs}
use Rattle.std.specs.List.{range_with_len}
use Rattle.std.proofs.lemmas.List.FromFn.{fill_by_all}

module _ {F A : Type 0} (g : Mut F (ℕ × Unit {0}) A) (f : F) (gives : ℕ → A) (acts : ActsAs g f gives) where
  -- element k of the n that the calls from index i on made
  made_at : (xs : List A) (n i j k : ℕ) (d : A) (p : F) → p ≡ f → IsFromFnResultFrom g p xs i n → k < n → j ≡ i + k → get_or xs j d ≡ gives j
  made_at xs zero i j k d p e m h s = absurd (omega arith)
  made_at xs (suc n) i j zero d p e m h s =
      let one = acts i m.1 m.0 (subst (λ q. Called g q (i, tt) m.1 m.0) e m.3) in
      let here : j ≡ i = omega arith in
      rw here (m.2.1 d ∙ one.1)
  made_at xs (suc n) i j (suc k) d p e m h s =
      let one = acts i m.1 m.0 (subst (λ q. Called g q (i, tt) m.1 m.0) e m.3) in
      made_at xs n (i + 1) j k d m.0 one.0 m.4 (omega arith) (omega arith)

  pub made_all : (xs : List A) (n : ℕ) → IsFromFnResult g f xs n → xs ≡ map gives (range_with_len 0 n)
  made_all xs n m = fill_by_all gives xs n (gives 0) m.long (λ k h. made_at xs n 0 k k (gives 0) f refl m.each h (omega arith))
