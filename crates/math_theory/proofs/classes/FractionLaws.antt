-- Fractions over a commutative ring up to its own equality: where b x is a, the fraction of a by b represents x.
use Rattle.std.proofs.Common.{[], ◌∷◌, refl}
use Rattle.math_theory.specs.Laws.{IsEquality, IsGroup, IsProduct, IsRing}
use Rattle.math_theory.proofs.rings.Normal.{◌⊕◌, ◌⊗◌, minus, 𝟙, v0, v1, v2, v3, v4, v5}
use Rattle.math_theory.proofs.classes.RingUpToSame.{combine_same, combine2_same, combine3_same}

module _ {A : Type 0} {same : A → A → Type 0} {zero : A} {sum : A → A → A} {negative : A → A} {product : A → A → A} {one : A}
    (E : IsEquality same) (G : IsGroup same zero sum negative) (P : IsProduct same product) (R : IsRing same sum product one) where
  -- where b has the inverse i, the fraction represents a i
  pub fraction-value : (a b i : A) → same (product b i) one → same (product b (product a i)) a
  fraction-value a b i h =
      combine_same E G P R (a ∷ b ∷ i ∷ [])
      (v1 ⊗ (v0 ⊗ v2)) v0
      v0 (v1 ⊗ v2) 𝟙 h refl

  pub fraction-negative : (a b x : A) → same (product b x) a → same (product b (negative x)) (negative a)
  fraction-negative a b x h =
      combine_same E G P R (a ∷ b ∷ x ∷ [])
      (v1 ⊗ minus v2) (minus v0)
      (minus 𝟙) (v1 ⊗ v2) v0 h refl

  module _ (a b c d x y : A) (h : same (product b x) a) (k : same (product d y) c) where
    pub fraction-sum : same (product (product b d) (sum x y)) (sum (product a d) (product c b))
    fraction-sum =
        combine2_same E G P R (a ∷ b ∷ c ∷ d ∷ x ∷ y ∷ [])
        (v1 ⊗ v3 ⊗ (v4 ⊕ v5)) (v0 ⊗ v3 ⊕ v2 ⊗ v1)
        v3 (v1 ⊗ v4) v0
        v1 (v3 ⊗ v5) v2 h k refl

    pub fraction-product : same (product (product b d) (product x y)) (product a c)
    fraction-product =
        combine2_same E G P R (a ∷ b ∷ c ∷ d ∷ x ∷ y ∷ [])
        (v1 ⊗ v3 ⊗ (v4 ⊗ v5)) (v0 ⊗ v2)
        (v3 ⊗ v5) (v1 ⊗ v4) v0
        v0 (v3 ⊗ v5) v2 h k refl

    -- where x and y are the same, so are the cross products
    pub cross_products : same x y → same (product a d) (product c b)
    cross_products s =
        combine3_same E G P R (a ∷ b ∷ c ∷ d ∷ x ∷ y ∷ [])
        (v0 ⊗ v3) (v2 ⊗ v1)
        (minus v3) (v1 ⊗ v4) v0
        v1 (v3 ⊗ v5) v2
        (v1 ⊗ v3) v4 v5 h k s refl

    -- where the cross products are the same, so are the products of x and of y with both denominators
    pub over_cross_products : same (product a d) (product c b) → same (product (product b d) x) (product (product b d) y)
    over_cross_products s =
        combine3_same E G P R (a ∷ b ∷ c ∷ d ∷ x ∷ y ∷ [])
        (v1 ⊗ v3 ⊗ v4) (v1 ⊗ v3 ⊗ v5)
        v3 (v1 ⊗ v4) v0
        (minus v1) (v3 ⊗ v5) v2
        𝟙 (v0 ⊗ v3) (v2 ⊗ v1) h k s refl

  -- where x has the inverse i, the fraction of b by a represents it
  pub fraction-inverse : (a b x i : A) → same (product b x) a → same (product x i) one → same (product a i) b
  fraction-inverse a b x i h k =
      combine2_same E G P R (a ∷ b ∷ x ∷ i ∷ [])
      (v0 ⊗ v3) v1
      (minus v3) (v1 ⊗ v2) v0
      v1 (v2 ⊗ v3) 𝟙 h k refl
