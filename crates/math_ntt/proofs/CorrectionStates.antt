-- Between two recoveries of a correction: the rows that are left, and what is recovered from them.
use Rattle.std.proofs.Common.{◌≡◌, ◌∙◌, inl, inr, ℕ, ◌+◌, ◌-◌, ◌*◌, ◌/◌, ◌^◌, ◌<◌, ◌≤◌, List, Bool, false, not, length, get_or, sym, refl, arith}
use Rattle.std.proofs.lemmas.Bool.{cases_lt}
use Rattle.std.proofs.lemmas.List.{get_or_past}
use Rattle.std.specs.List.{filter}
use Rattle.math_theory.specs.Domains.{HasExactOrder}
use Rattle.math_theory.specs.Interpolation.{AreApart}
use Rattle.math_theory.specs.Laws.{IsEquality, IsGroup, IsProduct, IsRing, IsField}
use Rattle.math_theory.specs.Powers.{powers}
use Rattle.math_theory.specs.Recovery.{count_true, filled_places}
use Rattle.math_theory.proofs.domains.CarriedDomains.{powers_apart-same}
use Rattle.math_base.specs.Members.{RingOf}
use Rattle.math_transforms.specs.CountedWork.{WorkOf}
use Rattle.math_transforms.specs.Matrices.{MatrixOf, IsOfSize, column_of, cell_of}
use Rattle.math_transforms.proofs.MatrixRows.{length-column, cell-of_column}
use Rattle.math_ntt.specs.AddedWork.{AddsRecoveries}
use Rattle.math_ntt.specs.Evaluations.{EvaluationsOf}
use Rattle.math_ntt.specs.CorrectedRows.{AreWithinRadius, IsCorrected}
use Rattle.math_ntt.specs.NarrowedRows.{IsNear, IsNarrowed}
use Rattle.math_ntt.specs.RecoveredRows.{IsRecoveredFrom}
use Rattle.math_ntt.proofs.MarkedRows.{count-among, count-dropped}
use Rattle.math_ntt.proofs.CopiedRecoveries.{adds-few}
use Rattle.math_ntt.proofs.CorrectionSteps.{AreDropped, with_rows, dropped-begun, none-near, none-few, dropped-narrowed, fewer-left, corrected}

-- the laws of a field hold, and e has 2^lg full rows, at the powers of root lg
pub record IsOnDomain {A : Type 0} (R : RingOf A) (inverse : A → A) (root : ℕ → A) (lg : ℕ) (e : EvaluationsOf A) : Type 0 where
  pub equality : IsEquality R.same
  pub group : IsGroup R.same R.zero R.sum R.negative
  pub product : IsProduct R.same R.product
  pub ring : IsRing R.same R.sum R.product R.one
  pub field : IsField R.same R.zero R.product R.one inverse
  pub order : HasExactOrder R.same R.one R.product (root lg) (2 ^ lg)
  pub full : length e.matrix.cells ≡ e.matrix.rows * e.matrix.cols
  pub many : e.matrix.rows ≡ 2 ^ lg
  pub long : length e.filled ≡ 2 ^ lg

-- the rows that are not left are wrong for every answer, not too many, and v is what is recovered from those that are
pub record IsState {A : Type 0} (R : RingOf A) (root : ℕ → A) (lg : ℕ) (e : EvaluationsOf A) (count : ℕ) (left : List Bool) (v : MatrixOf A) : Type 0 where
  pub dropped : AreDropped R (root lg) e count left
  pub few : count_true e.filled + count ≤ count_true left + count_true left
  pub recovered : IsRecoveredFrom R root (with_rows e left) v

-- column k of v has a coefficient other than zero from count on
abbrev pub IsLong : {A : Type 0} → RingOf A → ℕ → MatrixOf A → ℕ → Type 0
IsLong R count v k = (k < v.cols) × (i : ℕ) × (count ≤ i) × (i < v.rows) × ¬ (R.same (cell_of R.zero v i k) R.zero)

whole : {A : Type 0} (v : MatrixOf A) (r c : ℕ) → IsOfSize v r c → length v.cells ≡ v.rows * v.cols
whole v r c size = size.2 ∙ sym (rw (size.0, size.1) refl)

module _ {A : Type 0} {R : RingOf A} {inverse : A → A} {root : ℕ → A} {lg : ℕ} {e : EvaluationsOf A} where
  full-rows : IsOnDomain R inverse root lg e → length e.matrix.cells ≡ 2 ^ lg * e.matrix.cols
  full-rows d = rw (← d.many) d.full

  apart : IsOnDomain R inverse root lg e → AreApart R.same (powers R.one R.product (root lg) (2 ^ lg))
  apart d = powers_apart-same d.equality d.group d.product d.ring (root lg) (2 ^ lg) d.order

module _ {A : Type 0} {R : RingOf A} {root : ℕ → A} {lg : ℕ} {e : EvaluationsOf A} {count : ℕ} where
  pub state-begun : (v : MatrixOf A) → count ≤ count_true e.filled → IsRecoveredFrom R root (with_rows e e.filled) v → IsState R root lg e count e.filled v
  state-begun v l recovered = record { dropped = dropped-begun R (root lg) e count; few = omega (arith, l); recovered = recovered }

  pub state-within : {left : List Bool} {v : MatrixOf A} → IsState R root lg e count left v → count_true left ≤ count_true e.filled
  state-within s = count-among _ _ s.dropped.among

  enough : {left : List Bool} {v : MatrixOf A} → IsState R root lg e count left v → count ≤ count_true left
  enough s = omega (arith, s.few, state-within s)

  -- so much is added where no more than these rows are dropped
  pub state-most : {left : List Bool} {v : MatrixOf A} (c : ℕ) {u w : WorkOf} → IsState R root lg e count left v
      → AddsRecoveries (1 + (count_true e.filled - count_true left)) lg c u w → AddsRecoveries ((count_true e.filled - count) / 2 + 1) lg c u w
  state-most c s h = adds-few _ _ _ _ _ _ _ (state-within s) s.few h

  -- nothing is within the radius where nothing is near in a column, or too few rows are left
  pub state-none_near : {left : List Bool} {v : MatrixOf A} (k : ℕ) → IsState R root lg e count left v → k < v.cols → ((p : List A) → ¬ (IsNear R (root lg) (with_rows e left) k count p))
      → (a : ℕ → List A) → ¬ (AreWithinRadius R (root lg) e count a)
  state-none_near k s l none = none-near R (root lg) e count _ k s.dropped (omega (arith, l, s.recovered.size.1)) none

  -- where no more than the wrong rows are dropped, their number and the number of those that are left are all
  pub state-unchanged : {left : List Bool} {v : MatrixOf A} (wrong : List ℕ) → IsState R root lg e count left v
      → wrong ≡ filter (λ i. not (get_or left i false)) (filled_places e.filled) → length wrong ≡ 0 → count_true left ≡ count_true e.filled
  state-unchanged {left = left} wrong s is z =
      let n : length (filter (λ i. not (get_or left i false)) (filled_places e.filled)) ≡ 0 = rw is at z in
      omega (arith, n, count-dropped left e.filled s.dropped.marks s.dropped.among)

  pub state-fewer : {inverse : A → A} {left less : List Bool} {v : MatrixOf A} (k : ℕ) → IsOnDomain R inverse root lg e → IsState R root lg e count left v → IsLong R count v k
      → IsNarrowed R (root lg) (with_rows e left) k count less → count_true less < count_true left
  state-fewer {v = v} k d s (l, i, b, m, nonzero) n =
      fewer-left R (root lg) e count d.equality d.group d.product d.ring d.field (2 ^ lg) (full-rows d) d.many d.long (apart d) _ _ v k i s.dropped (omega (arith, l, s.recovered.size.1)) (enough s)
      (λ j o. s.recovered.fits lg j d.many o) b (λ z. nonzero (rw (cell-of_column R.zero v k i l (whole v _ _ s.recovered.size)) at z)) n

  dropped-next : {inverse : A → A} {left less : List Bool} {v : MatrixOf A} (k : ℕ) → IsOnDomain R inverse root lg e → IsState R root lg e count left v → k < v.cols
      → IsNarrowed R (root lg) (with_rows e left) k count less → AreDropped R (root lg) e count less
  dropped-next k d s l n = dropped-narrowed R (root lg) e count d.equality d.group d.product d.ring _ _ k s.dropped (omega (arith, l, s.recovered.size.1)) n

  pub state-none_few : {inverse : A → A} {left less : List Bool} {v : MatrixOf A} (k : ℕ) → IsOnDomain R inverse root lg e → IsState R root lg e count left v → k < v.cols
      → IsNarrowed R (root lg) (with_rows e left) k count less → count_true less + count_true less < count_true e.filled + count
      → (a : ℕ → List A) → ¬ (AreWithinRadius R (root lg) e count a)
  state-none_few k d s l n few = none-few R (root lg) e count _ (dropped-next k d s l n) few

  pub state-next : {inverse : A → A} {left less : List Bool} {v u : MatrixOf A} (k : ℕ) → IsOnDomain R inverse root lg e → IsState R root lg e count left v → k < v.cols
      → IsNarrowed R (root lg) (with_rows e left) k count less → count_true e.filled + count ≤ count_true less + count_true less
      → IsRecoveredFrom R root (with_rows e less) u → IsState R root lg e count less u
  state-next k d s l n few recovered = record { dropped = dropped-next k d s l n; few = few; recovered = recovered }

  pub state-corrected : {inverse : A → A} {left : List Bool} {v : MatrixOf A} (wrong : List ℕ) → IsOnDomain R inverse root lg e → IsState R root lg e count left v
      → ((i k : ℕ) → count ≤ i → i < v.rows → k < v.cols → R.same (cell_of R.zero v i k) R.zero)
      → wrong ≡ filter (λ i. not (get_or left i false)) (filled_places e.filled) → IsCorrected R (root lg) e count v wrong
  state-corrected {left = left} {v = v} wrong d s zeros is =
      rw is
      (corrected R (root lg) e count d.equality d.group d.product d.ring d.field (2 ^ lg) (full-rows d) d.many d.long (apart d) left v s.dropped s.recovered.size
      (λ j o. s.recovered.fits lg j d.many o)
      (λ k i l b. elim (cases_lt i v.rows) [
        | inl m ↦ (let c : k < v.cols = omega (arith, l, s.recovered.size.1) in rw (cell-of_column R.zero v k i c (whole v _ _ s.recovered.size)) (zeros i k b m c))
        | inr m ↦ rw (get_or_past (column_of R.zero v k) i R.zero (omega (arith, m, length-column R.zero v k))) (d.equality.reflexive R.zero)
      ]) s.few)
