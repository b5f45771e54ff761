-- Coefficient lists, equal where they have the same coefficients, are a module.
use Rattle.std.proofs.Common.{ℕ, zero, suc, List, [], ◌∷◌, map}
use mathlib.Core.HLevel.{Π_prop}
use Rattle.math_theory.specs.Laws.{IsEquality, IsGroup, IsModule}
use Rattle.math_theory.specs.Coefficients.{coefficient, HaveSameCoefficients, polynomial_sum, polynomial_negative, polynomial_multiple}
use Rattle.math_theory.proofs.polynomials.Horner.{scaling_zero}

pub coefficients_equality : {A : Type 0} {same : A → A → Type 0} (zero_of : A) → IsEquality same → IsEquality (HaveSameCoefficients same zero_of)
coefficients_equality zero_of E = record {
  prop = λ a b. Π_prop (λ i. E.prop _ _);
  reflexive = λ a i. E.reflexive _;
  symmetric = λ a b h i. E.symmetric _ _ (h i);
  transitive = λ a b c h k i. E.transitive _ _ _ (h i) (k i);
}

-- a coefficient of a list under a function that keeps zero
pub coefficient_of_map : {A : Type 0} {same : A → A → Type 0} {zero_of : A} → IsEquality same → (f : A → A) → same (f zero_of) zero_of
    → (a : List A) (i : ℕ) → same (coefficient zero_of (map f a) i) (f (coefficient zero_of a i))
coefficient_of_map E f z [] i = E.symmetric _ _ z
coefficient_of_map E f z (c ∷ a) zero = E.reflexive _
coefficient_of_map E f z (c ∷ a) (suc i) = coefficient_of_map E f z a i

module _ {A : Type 0} {same : A → A → Type 0} {zero_of : A} {sum : A → A → A} {negative : A → A} (E : IsEquality same) (G : IsGroup same zero_of sum negative) where
  pub sum_with_zero : (a : A) → same (sum a zero_of) a
  sum_with_zero a = E.transitive _ _ _ (G.commutative a zero_of) (G.identity a)

  negative_of_zero : same (negative zero_of) zero_of
  negative_of_zero = E.transitive _ _ _ (E.symmetric _ _ (G.identity (negative zero_of))) (G.inverse zero_of)

  -- a coefficient of a sum is the sum of the coefficients
  pub coefficient_of_sum : (a b : List A) (i : ℕ) → same (coefficient zero_of (polynomial_sum sum a b) i) (sum (coefficient zero_of a i) (coefficient zero_of b i))
  coefficient_of_sum [] b i = E.symmetric _ _ (G.identity _)
  coefficient_of_sum (c ∷ a) [] i = E.symmetric _ _ (sum_with_zero _)
  coefficient_of_sum (c ∷ a) (d ∷ b) zero = E.reflexive _
  coefficient_of_sum (c ∷ a) (d ∷ b) (suc i) = coefficient_of_sum a b i

  pub coefficient_of_negative : (a : List A) (i : ℕ) → same (coefficient zero_of (polynomial_negative negative a) i) (negative (coefficient zero_of a i))
  coefficient_of_negative a i = coefficient_of_map E negative negative_of_zero a i

  -- every coefficient of the list of one zero is zero
  pub coefficient_of_zero : (i : ℕ) → same (coefficient zero_of (zero_of ∷ []) i) zero_of
  coefficient_of_zero zero = E.reflexive _
  coefficient_of_zero (suc i) = E.reflexive _

  pub polynomials_group : IsGroup (HaveSameCoefficients same zero_of) (zero_of ∷ []) (polynomial_sum sum) (polynomial_negative negative)
  polynomials_group =
      let s = E.symmetric in
      let at = coefficient_of_sum in
      record {
        respects_sum = λ a b c d h k i. grw (E.transitive, E.reflexive, G.respects_sum, at a c i, h i, k i) (s _ _ (at b d i));
        respects_negative = λ a b h i. E.transitive _ _ _ (coefficient_of_negative a i) (E.transitive _ _ _ (G.respects_negative _ _ (h i)) (s _ _ (coefficient_of_negative b i)));
        commutative = λ a b i. E.transitive _ _ _ (at a b i) (E.transitive _ _ _ (G.commutative _ _) (s _ _ (at b a i)));
        associative = λ a b c i. E.transitive _ _ _ (at (polynomial_sum sum a b) c i) (E.transitive _ _ _ (G.respects_sum _ _ _ _ (at a b i) (E.reflexive _))
            (E.transitive _ _ _ (G.associative _ _ _) (s _ _ (E.transitive _ _ _ (at a (polynomial_sum sum b c) i) (G.respects_sum _ _ _ _ (E.reflexive _) (at b c i))))));
        identity = λ a i. E.transitive _ _ _ (at (zero_of ∷ []) a i) (E.transitive _ _ _ (G.respects_sum _ _ _ _ (coefficient_of_zero i) (E.reflexive _)) (G.identity _));
        inverse = λ a i. E.transitive _ _ _ (at a (polynomial_negative negative a) i) (E.transitive _ _ _ (G.respects_sum _ _ _ _ (E.reflexive _) (coefficient_of_negative a i))
            (E.transitive _ _ _ (G.inverse _) (s _ _ (coefficient_of_zero i))));
      }

module _ {A B : Type 0} {same : A → A → Type 0} {zero_of : A} {sum : A → A → A} {negative : A → A} {scaling : A → B → A} {same_scalar : B → B → Type 0}
    {zero_scalar : B} {sum_scalar : B → B → B} {product : B → B → B} {one : B}
    (E : IsEquality same) (G : IsGroup same zero_of sum negative) (M : IsModule same zero_of sum scaling same_scalar zero_scalar sum_scalar product one) where
  -- a coefficient of a multiple is the multiple of the coefficient
  pub coefficient_of_multiple : (a : List A) (x : B) (i : ℕ) → same (coefficient zero_of (polynomial_multiple scaling a x) i) (scaling (coefficient zero_of a i) x)
  coefficient_of_multiple a x i = coefficient_of_map E (λ c. scaling c x) (scaling_zero E G M x) a i

  pub polynomials_module : IsModule (HaveSameCoefficients same zero_of) (zero_of ∷ []) (polynomial_sum sum) (polynomial_multiple scaling) same_scalar zero_scalar sum_scalar product one
  polynomials_module =
      let s = E.symmetric in
      let t = E.transitive in
      let at = coefficient_of_multiple in
      let at_sum = coefficient_of_sum E G in
      record {
        respects_points = λ a b x h i. t _ _ _ (at a x i) (t _ _ _ (M.respects_points _ _ x (h i)) (s _ _ (at b x i)));
        respects_scalars = λ a x y h i. t _ _ _ (at a x i) (t _ _ _ (M.respects_scalars _ x y h) (s _ _ (at a y i)));
        sum_of_points = λ a b x i. t _ _ _ (at (polynomial_sum sum a b) x i) (t _ _ _ (M.respects_points _ _ x (at_sum a b i)) (t _ _ _ (M.sum_of_points _ _ x)
            (s _ _ (t _ _ _ (at_sum (polynomial_multiple scaling a x) (polynomial_multiple scaling b x) i) (G.respects_sum _ _ _ _ (at a x i) (at b x i))))));
        sum_of_scalars = λ a x y i. t _ _ _ (at a (sum_scalar x y) i) (t _ _ _ (M.sum_of_scalars _ x y)
            (s _ _ (t _ _ _ (at_sum (polynomial_multiple scaling a x) (polynomial_multiple scaling a y) i) (G.respects_sum _ _ _ _ (at a x i) (at a y i)))));
        product_of_scalars = λ a x y i. t _ _ _ (at (polynomial_multiple scaling a x) y i) (t _ _ _ (M.respects_points _ _ y (at a x i))
            (t _ _ _ (M.product_of_scalars _ x y) (s _ _ (at a (product x y) i))));
        identity = λ a i. t _ _ _ (at a one i) (M.identity _);
        annihilation = λ a i. t _ _ _ (at a zero_scalar i) (t _ _ _ (M.annihilation _) (s _ _ (coefficient_of_zero E G i)));
      }
