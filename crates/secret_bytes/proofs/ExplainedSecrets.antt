-- Every list of elements explains the values of t - 1 shares, element by element.
use Rattle.std.proofs.Common.{◌≡◌, ℕ, zero, suc, ◌+◌, ◌<◌, List, [], ◌∷◌, length, get_or, refl, ap, subst, arith}
use Rattle.std.proofs.lemmas.List.{length-map}
use Rattle.math_fields.specs.declared.goldilocks.F.{F}
use Rattle.math_fields.specs.ElementLaws.{commutes, equality, group, ring}
use Rattle.math_fields.specs.ElementRootLaws.{field}
use Rattle.math_fields.specs.Elements.{residue, goldilocks}
use Rattle.secret_bytes.specs.declared.share.SecretShare.{SecretShare}
use Rattle.shared_secret.specs.Explanations.{ExplainsAlone}
use Rattle.shared_secret.specs.Shares.{AreAtDistinctPoints}
use Rattle.shared_secret.proofs.ExplainedShares.{once}
use Rattle.secret_bytes.specs.Columns.{column, share_of}
use Rattle.secret_bytes.specs.Explanations.{EachSecretExplains}
use Rattle.secret_bytes.proofs.RecoveredShares.{distinct-points-of}

module _ (shares : List SecretShare) (at-points : (j : ℕ) → AreAtDistinctPoints goldilocks (column j shares)) where
  t : ℕ
  t = length shares + 1

  alone : (j : ℕ) (a : F) → (p : List F) × ExplainsAlone goldilocks (length shares + 1) a (column j shares) p
  alone j a =
      let n : length (column j shares) + 1 ≡ length shares + 1 = omega (arith, length-map shares (share_of j)) in
      subst (λ (m : ℕ). (p : List F) × ExplainsAlone goldilocks m a (column j shares) p) n (once goldilocks equality group commutes ring field (column j shares) a (at-points j))

  -- the polynomials of the elements from element k on
  polynomials_from : (k : ℕ) (all : List F) → List (List F)
  polynomials_from k [] = []
  polynomials_from k (a ∷ all) = (alone k a).0 ∷ polynomials_from (suc k) all

  count-from : (k : ℕ) (all : List F) → length (polynomials_from k all) ≡ length all
  unfolding polynomials_from
  count-from k [] = refl
  count-from k (a ∷ all) = ap suc (count-from (suc k) all)

  each-from : (k : ℕ) (all : List F) (j : ℕ) → j < length all → ExplainsAlone goldilocks (length shares + 1) (get_or all j (residue 0)) (column (k + j) shares) (get_or (polynomials_from k all) j [])
  unfolding polynomials_from
  each-from k [] j l = absurd (omega (arith, l))
  each-from k (a ∷ all) zero l =
      let e : k ≡ k + 0 = omega arith in
      subst (λ (m : ℕ). ExplainsAlone goldilocks (length shares + 1) a (column m shares) (alone k a).0) e (alone k a).1
  each-from k (a ∷ all) (suc j) l =
      let e : suc k + j ≡ k + suc j = omega arith in
      subst (λ (m : ℕ). ExplainsAlone goldilocks (length shares + 1) (get_or all j (residue 0)) (column m shares) (get_or (polynomials_from (suc k) all) j [])) e (each-from (suc k) all j (omega (arith, l)))

  each : (all : List F) (j : ℕ) → j < length all → ExplainsAlone goldilocks (length shares + 1) (get_or all j (residue 0)) (column j shares) (get_or (polynomials_from 0 all) j [])
  each all j l =
      let e : 0 + j ≡ j = omega arith in
      subst (λ (m : ℕ). ExplainsAlone goldilocks (length shares + 1) (get_or all j (residue 0)) (column m shares) (get_or (polynomials_from 0 all) j [])) e (each-from 0 all j l)

pub each-explains : EachSecretExplains
each-explains shares all distinct width =
    let at-points : (j : ℕ) → AreAtDistinctPoints goldilocks (column j shares) = λ j. distinct-points-of j shares distinct.apart distinct.some distinct.small in (
      polynomials_from shares at-points 0 all,
      record { width = width; count = count-from shares at-points 0 all; each = λ j l. (each shares at-points all j l).0 },
      λ others h j l. (each shares at-points all j l).1 (get_or others j []) (h.each j l),
    )
