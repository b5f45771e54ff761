-- What is recovered from the values of polynomials are these polynomials.
use Rattle.std.proofs.Common.{◌≡◌, ◌∙◌, ℕ, ◌<◌, ◌^◌, length, sym, ap, arith}
use Rattle.std.proofs.lemmas.List.{get_or_past}
use Rattle.math_theory.specs.Laws.{IsEquality, IsGroup, IsProduct, IsRing, IsField}
use Rattle.math_theory.specs.Recovery.{count_true}
use Rattle.math_theory.specs.RootLaws.{HasRootsOfUnity}
use Rattle.math_theory.proofs.domains.CarriedDomains.{HasCoset-of_order-same}
use Rattle.math_theory.proofs.recovery.CarriedRecovery.{fits_once-same}
use Rattle.math_base.specs.Members.{RingOf}
use Rattle.math_transforms.specs.Matrices.{column_of}
use Rattle.math_ntt.specs.RecoveredValues.{RecoversFromSome, RecoversFromAll}
use Rattle.math_transforms.proofs.DomainSteps.{column-cell}
use Rattle.math_transforms.proofs.MatrixRows.{length-column}
use Rattle.math_transforms.proofs.MissingPlaces.{count_true-all}

module _ {A : Type 0} (R : RingOf A) {inverse half : A → A} (E : IsEquality R.same) (G : IsGroup R.same R.zero R.sum R.negative) (P : IsProduct R.same R.product)
    (L : IsRing R.same R.sum R.product R.one)
    (F : IsField R.same R.zero R.product R.one inverse) (root : ℕ → A) (shift : A) (greatest : ℕ) (roots : HasRootsOfUnity R.same R.zero R.sum R.product R.one greatest root shift half) where
  pub recovers-from_some : RecoversFromSome R root greatest
  recovers-from_some lg h m v e values zeros recovered k b =
      let old = column_of R.zero e.matrix k in
      let inside : k < e.matrix.cols = omega (arith, b, values.cols) in
      let count : length old ≡ 2 ^ lg = length-column R.zero e.matrix k ∙ values.as_many in
      let coset = HasCoset-of_order-same E G P L (root lg) shift (length old) (rw count (roots.order lg h)) roots.shift_is_not_zero (roots.shift_is_no_power lg h) in
      fits_once-same E G P L F (root lg) old e.filled (values.filled ∙ sym count) coset.distinct (column_of R.zero v k) (column_of R.zero m k) (recovered lg k values.as_many inside)
      (record {
        agrees = λ j l t.
            rw (column-cell R.zero e.matrix.rows e.matrix.cols k j e.matrix.cells (omega (arith, l, count, values.as_many)) inside) (values.values j k (omega (arith, l, count)) b t);
        zero_from = λ i l. zeros k i b l;
      })

  pub recovers-from_all : RecoversFromAll R root greatest
  recovers-from_all lg h m v e values all recovered =
      recovers-from_some lg h m v e values
      (λ k i b l. let n : count_true e.filled ≡ 2 ^ lg = ap count_true all ∙ count_true-all (2 ^ lg) in
      rw (get_or_past (column_of R.zero m k) i R.zero (omega (arith, l, n, length-column R.zero m k, values.rows))) (E.reflexive R.zero))
      recovered
