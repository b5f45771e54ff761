-- From what is recovered and counted at a given lg to what is at the lg of any number of rows, and that nothing else fits.
use Rattle.std.proofs.Common.{◌≡◌, ◌∙◌, ℕ, ◌^◌, List, Bool, length, sym, subst}
use Rattle.math_theory.specs.Domains.{HasExactOrder, IsNoPower}
use Rattle.math_theory.specs.Laws.{IsEquality, IsGroup, IsProduct, IsRing, IsField}
use Rattle.math_theory.proofs.domains.CarriedDomains.{HasCoset-of_order-same}
use Rattle.math_theory.proofs.recovery.CarriedRecovery.{fits_once-same}
use Rattle.math_base.specs.Members.{RingOf}
use Rattle.math_transforms.specs.DomainValues.{matrix_of}
use Rattle.math_ntt.specs.Evaluations.{EvaluationsOf}
use Rattle.math_transforms.specs.Matrices.{column_of}
use Rattle.math_ntt.specs.RecoveredRows.{AreRecovered, AreOnlyRecovered}
use Rattle.math_transforms.proofs.DomainSteps.{column-cell}
use Rattle.math_transforms.proofs.MatrixRows.{length-column}
use Rattle.math_transforms.proofs.PowersOfTwo.{power_of_two-same}

module _ {A : Type 0} where
  abbrev pub evaluations : ℕ → ℕ → List A → List Bool → EvaluationsOf A
  evaluations rows cols cells filled = record { matrix = matrix_of rows cols cells; filled = filled }

  pub at_any : (P : ℕ → EvaluationsOf A → Type 0) (rows cols lg : ℕ) (cells : List A) (filled : List Bool) → rows ≡ 2 ^ lg → P lg (evaluations (2 ^ lg) cols cells filled)
      → (m : ℕ) → rows ≡ 2 ^ m → P m (evaluations rows cols cells filled)
  at_any P rows cols lg cells filled e h m f =
      subst (λ k. P k (evaluations rows cols cells filled)) (power_of_two-same lg m (sym e ∙ f)) (subst (λ n. P lg (evaluations n cols cells filled)) (sym e) h)

  module _ (R : RingOf A) {inverse : A → A} (E : IsEquality R.same) (G : IsGroup R.same R.zero R.sum R.negative) (P : IsProduct R.same R.product) (L : IsRing R.same R.sum R.product R.one)
      (F : IsField R.same R.zero R.product R.one inverse) (root : ℕ → A) (s : A) (rows cols lg : ℕ) (e : rows ≡ 2 ^ lg) (order : HasExactOrder R.same R.one R.product (root lg) (2 ^ lg))
      (nonzero : ¬ (R.same s R.zero)) (outside : IsNoPower R.same R.one R.product (root lg) s) (cells new : List A) (filled : List Bool) (long : length filled ≡ 2 ^ lg)
      (fits : AreRecovered R root (evaluations (2 ^ lg) cols cells filled) (matrix_of (2 ^ lg) cols new)) where
    at_power : AreOnlyRecovered R root (evaluations (2 ^ lg) cols cells filled) (matrix_of (2 ^ lg) cols new)
    at_power m k f b q l h i j =
        let old = column_of R.zero (matrix_of (2 ^ lg) cols cells) k in
        let count : length old ≡ 2 ^ lg = length-column R.zero (matrix_of (2 ^ lg) cols cells) k in
        let same_lg : m ≡ lg = sym (power_of_two-same lg m f) in
        let coset = HasCoset-of_order-same E G P L (root lg) s (length old) (rw count order) nonzero outside in
        rw (← column-cell R.zero (2 ^ lg) cols k i new j b)
        (fits_once-same E G P L F (root lg) old filled (long ∙ sym count) coset.distinct q (column_of R.zero (matrix_of (2 ^ lg) cols new) k) (rw same_lg at h) (rw same_lg at (fits m k f b)) i)

    pub only-recovered : AreOnlyRecovered R root (evaluations rows cols cells filled) (matrix_of rows cols new)
    only-recovered = subst (λ n. AreOnlyRecovered R root (evaluations n cols cells filled) (matrix_of n cols new)) (sym e) at_power
