-- The work of a recovery, by how far it came.
use Rattle.std.proofs.Common.{◌≡◌, inl, inr, ℕ, ◌+◌, ◌*◌, ◌<◌, ◌≤◌, ◌⊎◌, Bool, IsTrue, refl, arith}
use Rattle.math_theory.specs.Recovery.{count_true}
use Rattle.math_transforms.specs.CountedWork.{WorkOf, AddsAtMost, AddsWithin}
use Rattle.math_transforms.specs.MissingPoints.{count_false}
use Rattle.math_ntt.specs.Evaluations.{EvaluationsOf}
use Rattle.math_ntt.specs.RecoveredRows.{AddsRecovery, IsExactWork, IsRefusal, IsRefusedWork}

neither : (a b : ℕ) → 0 < a → 0 < b → (a ≡ 0) ⊎ (b ≡ 0) → ⊥
neither a b i j (inl z) = omega (arith, i, z)
neither a b i j (inr z) = omega (arith, j, z)

module _ {A : Type 0} where
  -- what is refused before any of its work
  pub refused-none : (lg : ℕ) (e : EvaluationsOf A) (v : WorkOf) → IsRefusedWork lg e v v
  refused-none lg e v = grind arith

  pub refusal-none : (never : Bool) (lg : ℕ) (e : EvaluationsOf A) (v : WorkOf) → IsRefusal never lg e v v
  refusal-none never lg e v = record { refused = refused-none lg e v; unbegun = λ n o. refl; late = λ n i j l. inl refl }

  -- one transform, with no row or all rows filled
  pub exact-transform : (lg : ℕ) (e : EvaluationsOf A) (v w : WorkOf) → (0 < count_true e.filled → 0 < count_false e.filled → ⊥)
      → 2 * w.butterflies ≡ 2 * v.butterflies + e.matrix.cols * e.matrix.rows * lg → w.root_products ≡ v.root_products → IsExactWork lg e v w
  exact-transform lg e v w whole counted kept = grind arith

  pub refusal-transform : (never : Bool) (lg : ℕ) (e : EvaluationsOf A) (v w : WorkOf) → (0 < count_true e.filled → 0 < count_false e.filled → ⊥)
      → AddsAtMost (e.matrix.cols * e.matrix.rows * lg) v w → (IsTrue never → w ≡ v) → IsRefusal never lg e v w
  refusal-transform never lg e v w whole bounded unbegun = grind arith

  -- some rows filled, and some missing
  pub exact-some : (lg : ℕ) (e : EvaluationsOf A) (v w : WorkOf) → 0 < count_true e.filled → 0 < count_false e.filled
      → (lg ≤ 8
      → (2 * w.butterflies ≡ 2 * v.butterflies + e.matrix.rows * lg * (3 * e.matrix.cols + 3)) × (2 * w.root_products ≡ 2 * v.root_products + count_false e.filled * (count_false e.filled + 1)))
      → 2 * v.butterflies + e.matrix.rows * lg * (3 * e.matrix.cols + 3) ≤ 2 * w.butterflies → IsExactWork lg e v w
  exact-some lg e v w i j exact least = grind arith

  -- a recovery, and more after it
  pub recovery-then : (lg : ℕ) (e : EvaluationsOf A) (b p : ℕ) (u v w : WorkOf) → AddsRecovery lg e u v → AddsWithin b p v w → AddsRecovery lg e u w
  recovery-then lg e b p u v w h k = grind arith
