-- What a step says, by its kind.
use mathlib.Core.Path.{◌≡◌, refl}
use Prim.Native.Nat.{ℕ, zero, suc, ◌<◌}
use native.Mathlib.Omega.{arith}
use borrow.Author.Tests.{ne_eqb, le-leb, lt-leb}
use Rattle.types.specs.declared.Step.{Step}
use Rattle.rules.specs.Conditions.{◌and◌, is_within}
use Rattle.rules.specs.Steps.{unknown, action_of, is_known}

pub action_unknown : (s : Step)
    → (s.kind ≡ 1 → ⊥) → (s.kind ≡ 2 → ⊥) → (s.kind ≡ 3 → ⊥) → (s.kind ≡ 4 → ⊥) → (s.kind ≡ 5 → ⊥)
    → (s.kind ≡ 6 → ⊥) → (s.kind ≡ 7 → ⊥) → (s.kind ≡ 8 → ⊥) → (s.kind ≡ 9 → ⊥) → (s.kind ≡ 10 → ⊥)
    → action_of s ≡ unknown
unfolding action_of
action_unknown s n₁ n₂ n₃ n₄ n₅ n₆ n₇ n₈ n₉ n₁₀ =
    simp (
      ne_eqb s.kind 1 n₁,
      ne_eqb s.kind 2 n₂,
      ne_eqb s.kind 3 n₃,
      ne_eqb s.kind 4 n₄,
      ne_eqb s.kind 5 n₅,
      ne_eqb s.kind 6 n₆,
      ne_eqb s.kind 7 n₇,
      ne_eqb s.kind 8 n₈,
      ne_eqb s.kind 9 n₉,
      ne_eqb s.kind 10 n₁₀,
    )

known_beyond : (s : Step) → 10 < s.kind → is_within 1 10 s.kind ≡ is_known (action_of s)
unfolding is_within ◌and◌ is_known
known_beyond s h =
    rw (
      le-leb 1 s.kind (omega arith),
      lt-leb s.kind 10 h,
      action_unknown s (λ e. omega arith) (λ e. omega arith) (λ e. omega arith) (λ e. omega arith) (λ e. omega arith)
          (λ e. omega arith) (λ e. omega arith) (λ e. omega arith) (λ e. omega arith) (λ e. omega arith),
    )

known_at : (k x y z : ℕ) → is_within 1 10 k ≡ is_known (action_of (record { kind = k; first = x; second = y; third = z }))
unfolding is_within ◌and◌ action_of is_known
known_at zero x y z = refl
known_at (suc zero) x y z = refl
known_at (suc (suc zero)) x y z = refl
known_at (suc (suc (suc zero))) x y z = refl
known_at (suc (suc (suc (suc zero)))) x y z = refl
known_at (suc (suc (suc (suc (suc zero))))) x y z = refl
known_at (suc (suc (suc (suc (suc (suc zero)))))) x y z = refl
known_at (suc (suc (suc (suc (suc (suc (suc zero))))))) x y z = refl
known_at (suc (suc (suc (suc (suc (suc (suc (suc zero)))))))) x y z = refl
known_at (suc (suc (suc (suc (suc (suc (suc (suc (suc zero))))))))) x y z = refl
known_at (suc (suc (suc (suc (suc (suc (suc (suc (suc (suc zero)))))))))) x y z = refl
known_at (suc (suc (suc (suc (suc (suc (suc (suc (suc (suc (suc k))))))))))) x y z = known_beyond (record { kind = suc (suc (suc (suc (suc (suc (suc (suc (suc (suc (suc k)))))))))); first = x; second = y; third = z }) (omega arith)

-- the kinds from 1 to 10 are known, and no other
pub known_kind : (s : Step) → is_within 1 10 s.kind ≡ is_known (action_of s)
known_kind s = known_at s.kind s.first s.second s.third
