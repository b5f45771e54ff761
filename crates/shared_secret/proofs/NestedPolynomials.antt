-- The polynomial through values at points that are apart, up to a type's own equality: for the first point x and its value v it is v plus X - x times
-- the polynomial through (w - v) / (y - x) at each other point y with its value w.
use Rattle.std.proofs.Common.{◌≡◌, ℕ, zero, suc, ◌<◌, List, [], ◌∷◌, length, get_or, refl, ap, arith, subst}
use Rattle.math_theory.specs.Interpolation.{AreApart}
use Rattle.math_theory.specs.Laws.{IsEquality, IsGroup, IsProduct, IsRing, IsField}
use Rattle.math_theory.specs.Values.{value}
use Rattle.math_theory.proofs.classes.CarriedRingLaws.{difference_zero-same}
use Rattle.math_theory.proofs.classes.RingUpToSame.{ring_same, combine_same}
use Rattle.math_theory.proofs.lists.Apart.{AreApart-tail}
use Rattle.math_theory.proofs.polynomials.CarriedValues.{value-cons}
use Rattle.math_theory.proofs.rings.Normal.{◌⊕◌, ◌⊗◌, ◌⊖◌, 𝟘, 𝟙, v0, v1, v2, v3, v4}

module _ {A : Type 0} {same : A → A → Type 0} {zero_of : A} {sum : A → A → A} {negative : A → A} {product : A → A → A} {one : A} {inverse : A → A}
    (E : IsEquality same) (G : IsGroup same zero_of sum negative) (P : IsProduct same product) (L : IsRing same sum product one) (F : IsField same zero_of product one inverse) where
  abbrev at : A → List A → A
  at r p = value zero_of sum product one r p

  abbrev less : A → A → A
  less a b = sum a (negative b)

  -- v plus X - x times g
  abbrev nested : A → A → List A → List A
  nested v x [] = v ∷ []
  nested v x (c ∷ g) = less v (product x c) ∷ nested c x g

  length-nested : (v x : A) (g : List A) → length (nested v x g) ≡ suc (length g)
  length-nested v x [] = refl
  length-nested v x (c ∷ g) = ap suc (length-nested c x g)

  value-nested : (r v x : A) (g : List A) → same (at r (nested v x g)) (sum v (product (less r x) (at r g)))
  value-nested r v x [] =
      E.transitive _ _ _ (value-cons E G P L r v []) (ring_same E G P L (v ∷ r ∷ x ∷ []) (v0 ⊕ (𝟘 ⊗ v1)) (v0 ⊕ ((v1 ⊖ v2) ⊗ 𝟘)) refl)
  value-nested r v x (c ∷ g) =
      E.transitive _ _ _ (value-cons E G P L r (less v (product x c)) (nested c x g))
      (E.transitive _ _ _ (G.respects_sum _ _ _ _ (E.reflexive _) (P.respects _ _ _ _ (value-nested r c x g) (E.reflexive r)))
      (E.transitive _ _ _
      (ring_same E G P L (v ∷ x ∷ c ∷ r ∷ at r g ∷ []) ((v0 ⊖ (v1 ⊗ v2)) ⊕ ((v2 ⊕ ((v3 ⊖ v1) ⊗ v4)) ⊗ v3)) (v0 ⊕ ((v3 ⊖ v1) ⊗ (v2 ⊕ (v4 ⊗ v3)))) refl)
      (G.respects_sum _ _ _ _ (E.reflexive v) (P.respects _ _ _ _ (E.reflexive _) (E.symmetric _ _ (value-cons E G P L r c g))))))

  -- (w - v) / (y - x) for each other point y with its value w
  abbrev quotients : A → A → List A → List A → List A
  quotients x v [] ws = []
  quotients x v (y ∷ ys) [] = []
  quotients x v (y ∷ ys) (w ∷ ws) = product (less w v) (inverse (less y x)) ∷ quotients x v ys ws

  length-quotients : (x v : A) (ys ws : List A) → length ys ≡ length ws → length (quotients x v ys ws) ≡ length ws
  length-quotients x v [] [] e = refl
  length-quotients x v [] (w ∷ ws) e = absurd (omega arith)
  length-quotients x v (y ∷ ys) [] e = refl
  length-quotients x v (y ∷ ys) (w ∷ ws) e = ap suc (length-quotients x v ys ws (omega arith))

  quotient-at : (x v : A) (ys ws : List A) (k : ℕ) → k < length ys → length ys ≡ length ws
      → get_or (quotients x v ys ws) k zero_of ≡ product (less (get_or ws k zero_of) v) (inverse (less (get_or ys k zero_of) x))
  quotient-at x v [] ws k l e = absurd (omega arith)
  quotient-at x v (y ∷ ys) [] k l e = absurd (omega arith)
  quotient-at x v (y ∷ ys) (w ∷ ws) zero l e = refl
  quotient-at x v (y ∷ ys) (w ∷ ws) (suc k) l e = quotient-at x v ys ws k (omega arith) (omega arith)

  -- the polynomial through the values at the points
  abbrev pub through : List A → List A → List A
  through [] vs = []
  through (x ∷ xs) [] = []
  through (x ∷ xs) (v ∷ vs) = nested v x (through xs (quotients x v xs vs))

  pub length-through : (xs vs : List A) → length xs ≡ length vs → length (through xs vs) ≡ length xs
  length-through [] vs e = refl
  length-through (x ∷ xs) [] e = absurd (omega arith)
  length-through (x ∷ xs) (v ∷ vs) e =
      let q = quotients x v xs vs in
      let n : length q ≡ length vs = length-quotients x v xs vs (omega arith) in
      omega (arith, e, length-nested v x (through xs q), length-through xs q (omega (arith, e, n)))

  apart-head : (x : A) (xs : List A) → AreApart same (x ∷ xs) → (k : ℕ) → k < length xs → ¬ (same (get_or xs k zero_of) x)
  apart-head x xs h k l s = h 0 (suc k) zero_of (omega arith) (omega arith) (E.symmetric _ _ s)

  at_next : (x v y w : A) → ¬ (same y x) → same (sum v (product (less y x) (product (less w v) (inverse (less y x))))) w
  at_next x v y w h =
      let d = less y x in
      combine_same E G P L (v ∷ w ∷ d ∷ inverse d ∷ []) (v0 ⊕ (v2 ⊗ ((v1 ⊖ v0) ⊗ v3))) v1 (v1 ⊖ v0) (v2 ⊗ v3) 𝟙 (F.inverts d (λ z. h (difference_zero-same E G P L y x z))) refl

  pub value-through : (xs vs : List A) → AreApart same xs → length xs ≡ length vs → (k : ℕ) → k < length xs → same (at (get_or xs k zero_of) (through xs vs)) (get_or vs k zero_of)
  value-through [] vs h e k l = absurd (omega arith)
  value-through (x ∷ xs) [] h e k l = absurd (omega arith)
  value-through (x ∷ xs) (v ∷ vs) h e zero l =
      E.transitive _ _ _ (value-nested x v x (through xs (quotients x v xs vs)))
      (ring_same E G P L (v ∷ x ∷ at x (through xs (quotients x v xs vs)) ∷ []) (v0 ⊕ ((v1 ⊖ v1) ⊗ v2)) v0 refl)
  value-through (x ∷ xs) (v ∷ vs) h e (suc k) l =
      let q = quotients x v xs vs in
      let n : length q ≡ length vs = length-quotients x v xs vs (omega arith) in
      let y = get_or xs k zero_of in
      let below : k < length xs = omega arith in
      let next : same (at y (through xs q)) (product (less (get_or vs k zero_of) v) (inverse (less y x))) =
      subst (λ c. same (at y (through xs q)) c) (quotient-at x v xs vs k below (omega arith)) (value-through xs q (AreApart-tail same x xs h) (omega (arith, e, n)) k below) in
      E.transitive _ _ _ (value-nested y v x (through xs q))
      (E.transitive _ _ _ (G.respects_sum _ _ _ _ (E.reflexive v) (P.respects _ _ _ _ (E.reflexive (less y x)) next)) (at_next x v y (get_or vs k zero_of) (apart-head x xs h k below)))
