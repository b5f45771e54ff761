-- The loop that multiplies differences from four items of a list at a time, up to a type's own equality.
use Rattle.std.proofs.Common.{◌≡◌, ◌≤◌, List, [], ◌∷◌, length, drop, get_or, refl, arith}
use Rattle.math_theory.specs.Laws.{IsEquality, IsGroup, IsProduct, IsRing}
use Rattle.math_theory.specs.RootProducts.{root_product}
use Rattle.math_theory.proofs.rings.Normal.{◌⊗◌, v0, v1, v2, v3, v4, v5}
use Rattle.math_theory.proofs.classes.RingUpToSame.{ring_same}

-- the first four items, and then the others
first-four : {A : Type 0} (xs : List A) (a b c d : A) → 4 ≤ length xs → a ≡ get_or xs 0 a → b ≡ get_or xs 1 b → c ≡ get_or xs 2 c → d ≡ get_or xs 3 d → xs ≡ a ∷ b ∷ c ∷ d ∷ drop 4 xs
first-four (x ∷ y ∷ z ∷ w ∷ xs) a b c d l h i j k = cc
first-four [] a b c d l h i j k = absurd (omega (arith, l))
first-four (x ∷ []) a b c d l h i j k = absurd (omega (arith, l))
first-four (x ∷ y ∷ []) a b c d l h i j k = absurd (omega (arith, l))
first-four (x ∷ y ∷ z ∷ []) a b c d l h i j k = absurd (omega (arith, l))

module _ {A : Type 0} {same : A → A → Type 0} {zero_of : A} {sum : A → A → A} {negative : A → A} {product : A → A → A} {one : A}
    (E : IsEquality same) (G : IsGroup same zero_of sum negative) (P : IsProduct same product) (R : IsRing same sum product one) where
  abbrev differences : A → List A → A
  differences r roots = root_product sum negative product one r roots

  -- four roots more are taken
  pub differences-four : (r a b c d out low high four new whole : A) (left : List A) → 4 ≤ length left
      → a ≡ get_or left 0 a → b ≡ get_or left 1 b → c ≡ get_or left 2 c → d ≡ get_or left 3 d
      → same low (product (sum r (negative a)) (sum r (negative b))) → same high (product (sum r (negative c)) (sum r (negative d)))
      → same four (product low high) → same new (product out four)
      → same (product out (differences r left)) whole → same (product new (differences r (drop 4 left))) whole
  differences-four r a b c d out low high four new whole left l ia ib ic id hl hh hf hn h =
      let rest = differences r (drop 4 left) in
      let ra = sum r (negative a) in
      let rb = sum r (negative b) in
      let rc = sum r (negative c) in
      let rd = sum r (negative d) in
      let split : left ≡ a ∷ b ∷ c ∷ d ∷ drop 4 left = first-four left a b c d l ia ib ic id in
      let h' : same (product out (product ra (product rb (product rc (product rd rest))))) whole = rw split at h in
      let made : same new (product out (product (product ra rb) (product rc rd))) =
      E.transitive _ _ _ hn (P.respects _ _ _ _ (E.reflexive out) (E.transitive _ _ _ hf (P.respects _ _ _ _ hl hh))) in
      E.transitive _ _ _ (P.respects _ _ _ _ made (E.reflexive rest))
      (E.transitive _ _ _
      (ring_same E G P R (out ∷ ra ∷ rb ∷ rc ∷ rd ∷ rest ∷ []) ((v0 ⊗ ((v1 ⊗ v2) ⊗ (v3 ⊗ v4))) ⊗ v5) (v0 ⊗ (v1 ⊗ (v2 ⊗ (v3 ⊗ (v4 ⊗ v5))))) refl) h')
