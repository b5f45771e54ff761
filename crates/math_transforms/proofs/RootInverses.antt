-- The inverses of roots of unity.
use Rattle.std.proofs.Common.{◌≡◌, ◌≢◌, ◌∙◌, ℕ, suc, ◌+◌, ◌<◌, ◌≤◌, Bool, true, false, if◌then◌else◌, [], ◌∷◌, refl, sym, ap, add-one, arith}
use Rattle.math_theory.specs.Domains.{HasExactOrder}
use Rattle.math_theory.specs.Laws.{IsEquality, IsGroup, IsProduct, IsRing, IsField}
use Rattle.math_theory.specs.RootLaws.{HasRootsOfUnity}
use Rattle.math_theory.specs.Rings.{Field}
use Rattle.math_theory.proofs.classes.Classes.{class, class_same, same_class, field_of_classes}
use Rattle.math_theory.proofs.domains.MergedPieces.{root-nonzero}
use Rattle.math_theory.proofs.rings.Normal.{combine, ◌⊗◌, ◌⊕◌, 𝟙, v0, v1}
use Rattle.math_theory.proofs.rings.RingLaws.{product-one_right}

module _ {A : Type 0} (F : Field A) where
  inverse-square : (r s : A) → r ≢ F.zero → s ≢ F.zero → F.product r r ≡ s → F.product (F.inverse r) (F.inverse r) ≡ F.inverse s
  inverse-square r s h k e =
      let x = F.product (F.inverse r) (F.inverse r) in
      let turn : F.product x s ≡ F.one =
      ap (F.product x) (sym e)
      ∙ combine F.ring (r ∷ F.inverse r ∷ []) ((v1 ⊗ v1) ⊗ (v0 ⊗ v0)) 𝟙 ((v0 ⊗ v1) ⊕ 𝟙) (v0 ⊗ v1) 𝟙 (F.product_inverse r h) refl in
      sym (product-one_right F.ring x) ∙ ap (F.product x) (sym (F.product_inverse s k)) ∙ sym (F.product_assoc x s (F.inverse s))
      ∙ ap (λ y. F.product y (F.inverse s)) turn ∙ F.product_one (F.inverse s)

module _ {A : Type 0} {same : A → A → Type 0} {zero_of : A} {sum : A → A → A} {negative : A → A} {product : A → A → A} {one : A} {inverse : A → A}
    (E : IsEquality same) (G : IsGroup same zero_of sum negative) (P : IsProduct same product) (R : IsRing same sum product one) (K : IsField same zero_of product one inverse) where
  -- the inverse of a root squared is that of its square
  pub inverse_square-same : (r s : A) (m n : ℕ) → HasExactOrder same one product r m → HasExactOrder same one product s n → same (product r r) s → same (product (inverse r) (inverse r)) (inverse s)
  inverse_square-same r s m n o p e =
      same_class E _ _ (inverse-square (field_of_classes E G P R K) (class E r) (class E s) (apart r m o) (apart s n p) (class_same E _ _ e))
    where
      apart : (r : A) (n : ℕ) → HasExactOrder same one product r n → class E r ≢ class E zero_of
      apart r n o h = root-nonzero E G P R K r n o (same_class E _ _ h)

  -- the roots of all levels, or their inverses: each is the square of the next
  pub level_root-square : {root : ℕ → A} {shift : A} {half : A → A} {greatest : ℕ} → HasRootsOfUnity same zero_of sum product one greatest root shift half → (forward : Bool) (l : ℕ) → l + 1 ≤ greatest
      → same (product (if forward then root (l + 1) else inverse (root (l + 1))) (if forward then root (l + 1) else inverse (root (l + 1)))) (if forward then root l else inverse (root l))
  level_root-square roots true l h = rw (add-one l) (roots.square l (omega arith))
  level_root-square roots false l h =
      rw (add-one l) (inverse_square-same _ _ _ _ (roots.order (suc l) (omega arith)) (roots.order l (omega arith)) (roots.square l (omega arith)))

  -- the inverse of each root below the greatest is the square of the next
  pub inverse-tree_squares : {root : ℕ → A} {shift : A} {half : A → A} {greatest : ℕ} → HasRootsOfUnity same zero_of sum product one greatest root shift half → (lg : ℕ) → lg ≤ greatest
      → (l : ℕ) → l < lg → same (product (inverse (root (suc l))) (inverse (root (suc l)))) (inverse (root l))
  inverse-tree_squares roots lg within l h =
      inverse_square-same _ _ _ _ (roots.order (suc l) (omega arith)) (roots.order l (omega arith)) (roots.square l (omega arith))
