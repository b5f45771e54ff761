-- Rows of values, moved from a domain to its coset by trees of square roots.
use Rattle.std.proofs.Common.{◌≡◌, ◌∙◌, ℕ, ◌+◌, ◌*◌, ◌^◌, ◌<◌, List, [], ◌∷◌, length, map, refl, sym, ap, ap₂}
use Rattle.std.proofs.lemmas.List.{length-map, get_or-map}
use Rattle.math_theory.specs.Domains.{HasExactOrder}
use Rattle.math_theory.specs.Laws.{IsEquality, IsGroup, IsProduct, IsRing, IsField}
use Rattle.math_theory.specs.OverRing as OverRing
use Rattle.math_theory.specs.Powers.{power}
use Rattle.math_theory.specs.Rings.{CommutativeRing}
use Rattle.math_theory.proofs.classes.Classes.{Class, class, class_same, same_class, ring_of_classes}
use Rattle.math_theory.proofs.classes.ClassesOfLists.{power-class}
use Rattle.math_theory.proofs.classes.RingUpToSame.{combine_same}
use Rattle.math_theory.proofs.polynomials.BuiltPolynomials.{value-at}
use Rattle.math_theory.proofs.rings.Normal.{◌⊗◌, 𝟙, v0, v1, v2}
use Rattle.math_theory.proofs.rings.PowerLaws.{power-of_one, power-product}
use Rattle.math_base.specs.Members.{RingOf}
use Rattle.math_transforms.specs.CosetValues.{AreMovedValues}
use Rattle.math_transforms.specs.DomainValues.{matrix_of}
use Rattle.math_transforms.specs.Matrices.{column_of}
use Rattle.math_transforms.specs.RootTrees.{IsTreeOf, AreValuesBelow, AreMultiplesBelow, column_value, entry}
use Rattle.math_transforms.proofs.ScaledColumns.{value-scaled}
use Rattle.math_transforms.proofs.TreeValues.{tree_point, multiples-points, values-points}

module _ {A : Type 0} (R : RingOf A) (E : IsEquality R.same) (G : IsGroup R.same R.zero R.sum R.negative) (P : IsProduct R.same R.product) (L : IsRing R.same R.sum R.product R.one)
    {inverse : A → A} (K : IsField R.same R.zero R.product R.one inverse) where
  abbrev C : CommutativeRing (Class E)
  C = ring_of_classes E G P L

  abbrev two : ℕ → A
  two lg = power R.one R.product (R.sum R.one R.one) lg

  -- powers of the half of one divide by powers of two
  halves : (h : A) (lg : ℕ) → R.same (R.product h (R.sum R.one R.one)) R.one → R.same (R.product (power R.one R.product h lg) (two lg)) R.one
  halves h lg e =
      same_class E (R.product (power R.one R.product h lg) (two lg)) R.one
      (ap₂ C.product (sym (power-class E G P L h lg)) (sym (power-class E G P L (R.sum R.one R.one) lg)) ∙ sym (power-product C (class E h) (class E (R.sum R.one R.one)) lg)
      ∙ ap (λ x. OverRing.power C x lg) (class_same E _ _ e) ∙ power-of_one C lg)

  -- back from the domain, and forth to the coset
  pub values-moved : (root back : ℕ → A) (s h : A) (lg c : ℕ) (interpolation coset cells mid new : List A) → HasExactOrder R.same R.one R.product (root lg) (2 ^ lg) → 0 < lg
      → R.same (R.product (root lg) (back lg)) R.one → R.same (R.product h (R.sum R.one R.one)) R.one → IsTreeOf R back R.one lg interpolation → IsTreeOf R root s lg coset
      → length mid ≡ 2 ^ lg * c → AreMultiplesBelow R interpolation lg 1 c cells mid → AreValuesBelow R coset lg 1 c mid new → AreMovedValues R (root lg) s lg c cells new
  values-moved root back s h lg c interpolation coset cells mid new order some unit half I T size back_values values =
      let w = root lg in
      let f = power R.one R.product h lg in
      let p = map (λ x. R.product x f) mid in
      let count : length p ≡ 2 ^ lg * c = length-map mid (λ x. R.product x f) ∙ size in
      let whole : R.same (R.product f (two lg)) R.one = halves h lg half in
      let scaled = λ (x : A) (k : ℕ) (m : k < c).
      value-scaled R E G P L (2 ^ lg) c f x mid p size count (λ q l. rw (get_or-map (λ y. R.product y f) mid q R.zero R.zero l) (E.reflexive _)) k m in
      record {
        polynomials = p;
        count = count;
        values = λ t k b m.
            let x = tree_point R E G P L K w R.one lg t in
            let cell = entry R cells (t * c + k) in
            E.symmetric _ _
            (E.transitive _ _ _ (value-at E G P L _ _ (column_of R.zero (matrix_of (2 ^ lg) c p) k) (E.symmetric _ _ (L.identity _)))
            (E.transitive _ _ _ (scaled x k m)
            (E.transitive _ _ _
            (P.respects _ _ _ _ (multiples-points R E G P L K root back R.one R.one lg c interpolation cells mid order some unit (L.identity R.one) I back_values t k b m) (E.reflexive f))
            (combine_same E G P L (cell ∷ two lg ∷ f ∷ []) ((v0 ⊗ v1) ⊗ v2) v0 v0 (v2 ⊗ v1) 𝟙 whole refl))));
        multiples = λ t k b m.
            let x = tree_point R E G P L K w s lg t in
            let value = column_value R lg c mid k x in
            E.transitive _ _ _ (values-points R E G P L K root s lg c coset mid new order T values t k b m)
            (E.symmetric _ _
            (E.transitive _ _ _ (P.respects _ _ _ _ (scaled x k m) (E.reflexive (two lg)))
            (combine_same E G P L (value ∷ f ∷ two lg ∷ []) ((v0 ⊗ v1) ⊗ v2) v0 v0 (v1 ⊗ v2) 𝟙 whole refl)));
      }
