-- Steps of loops at the points of a domain: powers of two as elements, repeated squares, differences, Horner's rule.
use Rattle.std.proofs.Common.{◌≡◌, ℕ, suc, ◌+◌, ◌^◌, ◌<◌, List, [], ◌∷◌, ◌++◌, length, get_or, refl, ◌∙◌, ap, add-one, arith}
use Rattle.std.proofs.lemmas.List.{length-append, get_or_default}
use Rattle.math_theory.specs.Laws.{IsEquality, IsGroup, IsMonoid, IsProduct, IsRing}
use Rattle.math_theory.specs.Powers.{power, power-zero, power-suc}
use Rattle.math_base.proofs.SquareAndMultiply.{power-add}
use Rattle.math_theory.proofs.rings.Normal.{◌⊕◌, ◌⊗◌, 𝟙, v0}
use Rattle.math_base.proofs.PlaceByPlace.{each_place_next}
use Rattle.math_theory.proofs.classes.RingUpToSame.{ring_same}
use Rattle.math_theory.proofs.domains.RootOrders.{power_of_two-suc}

-- one more item, of which what holds of each place holds
pub record ItemsSoFar {A : Type 0} (d : A) (P : ℕ → A → Type 0) (xs : List A) (n : ℕ) : Type 0 where
  pub count : length xs ≡ n
  pub each : (k : ℕ) → k < n → P k (get_or xs k d)

pub items-push : {A : Type 0} (d : A) (P : ℕ → A → Type 0) (xs ys : List A) (n : ℕ) (x : A) → ItemsSoFar d P xs n → P n x → ys ≡ xs ++ (x ∷ []) → ItemsSoFar d P ys (n + 1)
items-push d P xs ys n x h p e = rw e (record {
  count = omega (arith, h.count, length-append xs (x ∷ []));
  each = each_place_next d P xs n x h.count h.each p;
})

module _ {A : Type 0} {same : A → A → Type 0} {zero_of : A} {sum : A → A → A} {negative : A → A} {product : A → A → A} {one : A}
    (E : IsEquality same) (G : IsGroup same zero_of sum negative) (P : IsProduct same product) (R : IsRing same sum product one) where
  products : IsMonoid same one product
  products = record { respects = P.respects; commutative = P.commutative; associative = P.associative; identity = R.identity }

  -- the power of 1 + 1, doubled
  pub doubled-next : (old new : A) (n : ℕ) → same old (power one product (sum one one) n) → same new (sum old old) → same new (power one product (sum one one) (n + 1))
  doubled-next old new n h k =
      rw (add-one, power-suc one product (sum one one) n)
      (E.transitive _ _ _ k
      (E.transitive _ _ _ (G.respects_sum _ _ _ _ h h) (ring_same E G P R (power one product (sum one one) n ∷ []) (v0 ⊕ v0) (v0 ⊗ (𝟙 ⊕ 𝟙)) refl)))

  -- the power by 2 ^ n, squared
  pub squared-next : (x old new : A) (n : ℕ) → same old (power one product x (2 ^ n)) → same new (product old old) → same new (power one product x (2 ^ (n + 1)))
  squared-next x old new n h k =
      let two : 2 ^ (n + 1) ≡ 2 ^ n + 2 ^ n = ap (λ m. 2 ^ m) (let e : n + 1 ≡ suc n = omega arith in e) ∙ power_of_two-suc n in
      rw two
      (E.transitive _ _ _ k
      (E.transitive _ _ _ (P.respects _ _ _ _ h h) (E.symmetric _ _ (power-add E products x (2 ^ n) (2 ^ n)))))

  -- the first power is the element
  pub squared-none : (x out : A) → same out x → same out (power one product x (2 ^ 0))
  squared-none x out h =
      rw (power-suc one product x 0, power-zero one product x) (E.transitive _ _ _ h (E.symmetric _ _ (R.identity x)))

  -- x - p, times the factor
  pub factored-difference : (x factor copy difference item new : A) (points : List A) (i : ℕ) (p : A) → i < length points → p ≡ get_or points i p
      → same copy x → same difference (sum copy (negative p)) → same item factor → same new (product item difference) → same new (product factor (sum x (negative (get_or points i zero_of))))
  factored-difference x factor copy difference item new points i p l e hc hd hi hn =
      let here : p ≡ get_or points i zero_of = e ∙ get_or_default points i p zero_of l in
      rw (← here)
      (E.transitive _ _ _ hn (P.respects _ _ _ _ hi (E.transitive _ _ _ hd (G.respects_sum _ _ _ _ hc (E.reflexive (negative p))))))
