-- A change of elements, key and check that does not depend on the key passes for few keys.
use Rattle.std.proofs.Common.{◌≡◌, ◌∙◌, ℕ, zero, suc, ◌+◌, ◌<◌, ◌≤◌, List, [], ◌∷◌, length, get_or, take, drop, refl, sym, ap, subst, arith}
use Rattle.std.specs.List.{All}
use Rattle.std.proofs.lemmas.List.{get_or-drop, get_or-take, length-drop, length-take-le, take-append-drop}
use Rattle.std.proofs.lemmas.List.Elements.{All-from_get_or}
use Rattle.math_theory.specs.Laws.{IsEquality, IsGroup, IsProduct, IsRing, IsField}
use Rattle.math_theory.specs.Powers.{multiple, power-zero, power-suc}
use Rattle.math_theory.specs.Values.{value}
use Rattle.math_theory.specs.Interpolation.{AreApart}
use Rattle.math_theory.proofs.classes.CarriedRingLaws.{difference_zero-same}
use Rattle.math_theory.proofs.classes.RingUpToSame.{ring_same, combine_same, combine2_same}
use Rattle.math_theory.proofs.polynomials.BuiltPolynomials.{value-zeros_after}
use Rattle.math_theory.proofs.polynomials.CarriedRoots.{few_roots-same}
use Rattle.math_theory.proofs.polynomials.CarriedValues.{value-cons}
use Rattle.math_theory.proofs.rings.Normal.{◌⊕◌, ◌⊗◌, ◌⊖◌, minus, 𝟘, 𝟙, v0, v1, v2, v3, v4}
use Rattle.secret_bytes.specs.KeyChecks.{within, check_of, added}

module _ {A : Type 0} {same : A → A → Type 0} {zero_of : A} {sum : A → A → A} {negative : A → A} {product : A → A → A} {one : A} {inverse : A → A}
    (E : IsEquality same) (G : IsGroup same zero_of sum negative) (P : IsProduct same product) (L : IsRing same sum product one) (F : IsField same zero_of product one inverse) where
  abbrev at : A → List A → A
  at r p = value zero_of sum product one r p

  abbrev less : A → A → A
  less a b = sum a (negative b)

  -- e times the polynomial, and the polynomial moved up, and c: c + (X + e) p
  abbrev raised : A → A → List A → List A
  raised e c [] = c ∷ []
  raised e c (a ∷ p) = sum c (product e a) ∷ raised e a p

  length-raised : (e c : A) (p : List A) → length (raised e c p) ≡ suc (length p)
  length-raised e c [] = refl
  length-raised e c (a ∷ p) = ap suc (length-raised e a p)

  value-raised : (r e c : A) (p : List A) → same (at r (raised e c p)) (sum c (product (sum r e) (at r p)))
  value-raised r e c [] = E.transitive _ _ _ (value-cons E G P L r c []) (ring_same E G P L (c ∷ r ∷ e ∷ []) (v0 ⊕ (𝟘 ⊗ v1)) (v0 ⊕ ((v1 ⊕ v2) ⊗ 𝟘)) refl)
  value-raised r e c (a ∷ p) =
      E.transitive _ _ _ (value-cons E G P L r (sum c (product e a)) (raised e a p))
      (E.transitive _ _ _ (G.respects_sum _ _ _ _ (E.reflexive _) (P.respects _ _ _ _ (value-raised r e a p) (E.reflexive r)))
      (E.transitive _ _ _
      (ring_same E G P L (c ∷ e ∷ a ∷ r ∷ at r p ∷ []) ((v0 ⊕ (v1 ⊗ v2)) ⊕ ((v2 ⊕ ((v3 ⊕ v1) ⊗ v4)) ⊗ v3)) (v0 ⊕ ((v3 ⊕ v1) ⊗ (v2 ⊕ (v4 ⊗ v3)))) refl)
      (G.respects_sum _ _ _ _ (E.reflexive c) (P.respects _ _ _ _ (E.reflexive _) (E.symmetric _ _ (value-cons E G P L r a p))))))

  -- the coefficients, and zero past the end
  abbrev coeff : List A → ℕ → A
  coeff p i = get_or p i zero_of

  -- what `within` is at x + e, less what it is at x, as a polynomial of x: of n elements, n + 1 coefficients
  -- for no element it is e; for s and others: d + (X + e) (within' - within) + e within, where within = s_2 + X (..)
  -- its coefficients, with the elements below it
  abbrev plain : List A → List A
  plain [] = zero_of ∷ one ∷ []
  plain (s ∷ elements) = s ∷ plain elements

  value-plain : (elements : List A) (r : A) → same (at r (plain elements)) (within sum product elements r)
  value-plain [] r =
      E.transitive _ _ _ (value-cons E G P L r zero_of (one ∷ []))
      (E.transitive _ _ _ (G.respects_sum _ _ _ _ (E.reflexive zero_of) (P.respects _ _ _ _ (value-cons E G P L r one []) (E.reflexive r)))
      (ring_same E G P L (r ∷ []) (𝟘 ⊕ ((𝟙 ⊕ (𝟘 ⊗ v0)) ⊗ v0)) v0 refl))
  value-plain (s ∷ elements) r =
      E.transitive _ _ _ (value-cons E G P L r s (plain elements))
      (G.respects_sum _ _ _ _ (E.reflexive s) (E.transitive _ _ _ (P.commutative _ _) (P.respects _ _ _ _ (E.reflexive r) (value-plain elements r))))

  -- and at r + e
  abbrev moved : A → List A → List A
  moved e [] = e ∷ one ∷ []
  moved e (s ∷ elements) = raised e s (moved e elements)

  length-plain : (elements : List A) → length (plain elements) ≡ length elements + 2
  length-plain [] = refl
  length-plain (s ∷ elements) = omega (arith, length-plain elements)

  length-moved : (e : A) (elements : List A) → length (moved e elements) ≡ length elements + 2
  length-moved e [] = refl
  length-moved e (s ∷ elements) = omega (arith, length-moved e elements, length-raised e s (moved e elements))

  value-moved : (e : A) (elements : List A) (r : A) → same (at r (moved e elements)) (within sum product elements (sum r e))
  value-moved e [] r =
      E.transitive _ _ _ (value-cons E G P L r e (one ∷ []))
      (E.transitive _ _ _ (G.respects_sum _ _ _ _ (E.reflexive e) (P.respects _ _ _ _ (value-cons E G P L r one []) (E.reflexive r)))
      (ring_same E G P L (r ∷ e ∷ []) (v1 ⊕ ((𝟙 ⊕ (𝟘 ⊗ v0)) ⊗ v0)) (v0 ⊕ v1) refl))
  value-moved e (s ∷ elements) r =
      E.transitive _ _ _ (value-raised r e s (moved e elements))
      (G.respects_sum _ _ _ _ (E.reflexive s) (P.respects _ _ _ _ (E.reflexive _) (value-moved e elements r)))

  -- the last coefficient is one, and the one before it is e, n + 1 times
  raised-at : (e c : A) (p : List A) (i : ℕ) → suc i < length p → coeff (raised e c p) (suc i) ≡ sum (coeff p i) (product e (coeff p (suc i)))
  raised-at e c [] i l = absurd (omega arith)
  raised-at e c (a ∷ []) i l = absurd (omega arith)
  raised-at e c (a ∷ b ∷ p) zero l = refl
  raised-at e c (a ∷ b ∷ p) (suc i) l = raised-at e a (b ∷ p) i (omega arith)

  raised-last : (e c : A) (p : List A) (i : ℕ) → suc i ≡ length p → coeff (raised e c p) (suc i) ≡ coeff p i
  raised-last e c [] i l = absurd (omega (arith, l))
  raised-last e c (a ∷ []) zero l = refl
  raised-last e c (a ∷ []) (suc i) l = absurd (omega (arith, l))
  raised-last e c (a ∷ b ∷ p) zero l = absurd (omega (arith, l))
  raised-last e c (a ∷ b ∷ p) (suc i) l = raised-last e a (b ∷ p) i (omega (arith, l))

  moved-last : (e : A) (elements : List A) → coeff (moved e elements) (length elements + 1) ≡ one
  moved-last e [] = refl
  moved-last e (s ∷ elements) =
      let n : suc (length elements) + 1 ≡ suc (length elements + 1) = omega arith in
      ap (coeff (raised e s (moved e elements))) n ∙ raised-last e s (moved e elements) (length elements + 1) (omega (arith, length-moved e elements)) ∙ moved-last e elements

  moved-second : (e : A) (elements : List A) → same (coeff (moved e elements) (length elements)) (multiple zero_of sum e (length elements + 1))
  moved-second e [] =
      rw (power-suc zero_of sum e 0, power-zero zero_of sum e) (ring_same E G P L (e ∷ []) v0 (𝟘 ⊕ v0) refl)
  moved-second e (s ∷ elements) =
      let m = length elements in
      let last = moved-last e elements in
      let n : m + 1 ≡ suc m = omega arith in
      let at_m : coeff (raised e s (moved e elements)) (suc m) ≡ sum (coeff (moved e elements) m) (product e one) =
      raised-at e s (moved e elements) m (omega (arith, length-moved e elements)) ∙ ap (λ c. sum (coeff (moved e elements) m) (product e c)) (sym (ap (coeff (moved e elements)) n) ∙ last) in
      let k : suc m + 1 ≡ suc (m + 1) = omega arith in
      subst (λ c. same c (multiple zero_of sum e (suc m + 1))) (sym at_m)
      (subst (λ j. same (sum (coeff (moved e elements) m) (product e one)) (multiple zero_of sum e j)) (sym k)
      (rw (power-suc zero_of sum e (m + 1))
      (G.respects_sum _ _ _ _ (moved-second e elements) (E.transitive _ _ _ (P.commutative e one) (L.identity e)))))

  -- where e is zero, what is raised is only moved up
  raised-zero : (e c : A) (p : List A) → same e zero_of → (i : ℕ) → same (coeff (raised e c p) i) (coeff (c ∷ p) i)
  raised-zero e c [] h i = E.reflexive _
  raised-zero e c (a ∷ p) h zero = combine_same E G P L (c ∷ e ∷ a ∷ []) (v0 ⊕ (v1 ⊗ v2)) v0 v2 v1 𝟘 h refl
  raised-zero e c (a ∷ p) h (suc i) = raised-zero e a p h i

  moved-zero : (e : A) (elements : List A) → same e zero_of → (i : ℕ) → same (coeff (moved e elements) i) (coeff (plain elements) i)
  moved-zero e [] h zero = h
  moved-zero e [] h (suc i) = E.reflexive _
  moved-zero e (s ∷ elements) h zero = raised-zero e s (moved e elements) h zero
  moved-zero e (s ∷ elements) h (suc i) = E.transitive _ _ _ (raised-zero e s (moved e elements) h (suc i)) (moved-zero e elements h i)

  plain-at : (elements : List A) (k : ℕ) → k < length elements → coeff (plain elements) k ≡ coeff elements k
  plain-at [] k l = absurd (omega arith)
  plain-at (s ∷ elements) zero l = refl
  plain-at (s ∷ elements) (suc k) l = plain-at elements k (omega arith)

  plain-second : (elements : List A) (k : ℕ) → k ≡ length elements → coeff (plain elements) k ≡ zero_of
  plain-second [] zero e = refl
  plain-second [] (suc k) e = absurd (omega (arith, e))
  plain-second (s ∷ elements) zero e = absurd (omega (arith, e))
  plain-second (s ∷ elements) (suc k) e = plain-second elements k (omega (arith, e))

  plain-last : (elements : List A) (k : ℕ) → k ≡ length elements + 1 → coeff (plain elements) k ≡ one
  plain-last [] zero e = absurd (omega (arith, e))
  plain-last [] (suc zero) e = refl
  plain-last [] (suc (suc k)) e = absurd (omega (arith, e))
  plain-last (s ∷ elements) zero e = absurd (omega (arith, e))
  plain-last (s ∷ elements) (suc k) e = plain-last elements k (omega (arith, e))

  length-added : (elements ds : List A) → length (added sum elements ds) ≡ length elements
  length-added [] ds = refl
  length-added (s ∷ elements) [] = refl
  length-added (s ∷ elements) (d ∷ ds) = ap suc (length-added elements ds)

  added-at : (elements ds : List A) (k : ℕ) → k < length elements → length ds ≡ length elements → coeff (added sum elements ds) k ≡ sum (coeff elements k) (coeff ds k)
  added-at [] ds k l e = absurd (omega arith)
  added-at (s ∷ elements) [] k l e = absurd (omega (arith, e))
  added-at (s ∷ elements) (d ∷ ds) zero l e = refl
  added-at (s ∷ elements) (d ∷ ds) (suc k) l e = added-at elements ds k (omega arith) (omega (arith, e))

  -- the difference, coefficient by coefficient
  abbrev apart : List A → List A → List A
  apart [] q = []
  apart (a ∷ p) [] = []
  apart (a ∷ p) (b ∷ q) = less a b ∷ apart p q

  length-apart : (p q : List A) → length p ≡ length q → length (apart p q) ≡ length p
  length-apart [] q e = refl
  length-apart (a ∷ p) [] e = absurd (omega (arith, e))
  length-apart (a ∷ p) (b ∷ q) e = ap suc (length-apart p q (omega (arith, e)))

  apart-at : (p q : List A) (i : ℕ) → length p ≡ length q → i < length p → coeff (apart p q) i ≡ less (coeff p i) (coeff q i)
  apart-at [] q i e l = absurd (omega arith)
  apart-at (a ∷ p) [] i e l = absurd (omega (arith, e))
  apart-at (a ∷ p) (b ∷ q) zero e l = refl
  apart-at (a ∷ p) (b ∷ q) (suc i) e l = apart-at p q i (omega (arith, e)) (omega arith)

  value-apart : (r : A) (p q : List A) → length p ≡ length q → same (at r (apart p q)) (less (at r p) (at r q))
  value-apart r [] [] e = ring_same E G P L [] 𝟘 (𝟘 ⊖ 𝟘) refl
  value-apart r [] (b ∷ q) e = absurd (omega (arith, e))
  value-apart r (a ∷ p) [] e = absurd (omega (arith, e))
  value-apart r (a ∷ p) (b ∷ q) e =
      E.transitive _ _ _ (value-cons E G P L r (less a b) (apart p q))
      (E.transitive _ _ _ (G.respects_sum _ _ _ _ (E.reflexive _) (P.respects _ _ _ _ (value-apart r p q (omega (arith, e))) (E.reflexive r)))
      (E.transitive _ _ _
      (ring_same E G P L (a ∷ b ∷ at r p ∷ at r q ∷ r ∷ []) ((v0 ⊖ v1) ⊕ ((v2 ⊖ v3) ⊗ v4)) ((v0 ⊕ (v2 ⊗ v4)) ⊖ (v1 ⊕ (v3 ⊗ v4))) refl)
      (G.respects_sum _ _ _ _ (E.symmetric _ _ (value-cons E G P L r a p)) (G.respects_negative _ _ (E.symmetric _ _ (value-cons E G P L r b q))))))

  -- the difference of the checks, as a polynomial of the key
  abbrev change : List A → List A → A → A → List A
  change elements ds e f = apart (moved e (zero_of ∷ added sum elements ds)) (f ∷ plain elements)

  change-lengths : (elements ds : List A) (e f : A) → length (moved e (zero_of ∷ added sum elements ds)) ≡ length (f ∷ plain elements)
  change-lengths elements ds e f =
      omega (arith, length-moved e (zero_of ∷ added sum elements ds), length-added elements ds, length-plain elements)

  length-change : (elements ds : List A) (e f : A) → length (change elements ds e f) ≡ length elements + 3
  length-change elements ds e f =
      omega (arith, length-apart (moved e (zero_of ∷ added sum elements ds)) (f ∷ plain elements) (change-lengths elements ds e f), length-moved e (zero_of ∷ added sum elements ds), length-added elements ds)

  change-at : (elements ds : List A) (e f : A) (i : ℕ) → i < length elements + 3
      → coeff (change elements ds e f) i ≡ less (coeff (moved e (zero_of ∷ added sum elements ds)) i) (coeff (f ∷ plain elements) i)
  change-at elements ds e f i l =
      apart-at (moved e (zero_of ∷ added sum elements ds)) (f ∷ plain elements) i (change-lengths elements ds e f)
      (omega (arith, l, length-moved e (zero_of ∷ added sum elements ds), length-added elements ds))

  passing : (elements ds : List A) (e f x : A) → same (sum (check_of sum product elements x) f) (check_of sum product (added sum elements ds) (sum x e))
      → same (at x (change elements ds e f)) zero_of
  passing elements ds e f x h =
      let W = within sum product elements x in
      let u = product (sum x e) (within sum product (added sum elements ds) (sum x e)) in
      E.transitive _ _ _ (value-apart x (moved e (zero_of ∷ added sum elements ds)) (f ∷ plain elements) (change-lengths elements ds e f))
      (E.transitive _ _ _
      (G.respects_sum _ _ _ _ (value-moved e (zero_of ∷ added sum elements ds) x)
      (G.respects_negative _ _ (E.transitive _ _ _ (value-cons E G P L x f (plain elements))
      (G.respects_sum _ _ _ _ (E.reflexive f) (P.respects _ _ _ _ (value-plain elements x) (E.reflexive x))))))
      (combine_same E G P L (u ∷ W ∷ x ∷ f ∷ []) ((𝟘 ⊕ v0) ⊖ (v3 ⊕ (v1 ⊗ v2))) 𝟘 (minus 𝟙) ((v2 ⊗ v1) ⊕ v3) v0 h refl))

  top-zero : (elements ds : List A) (e f : A) → same (coeff (change elements ds e f) (length elements + 2)) zero_of
  top-zero elements ds e f =
      let n = length elements in
      let count : length (zero_of ∷ added sum elements ds) + 1 ≡ n + 2 = omega (arith, length-added elements ds) in
      let k : n + 2 ≡ suc (n + 1) = omega arith in
      let left : coeff (moved e (zero_of ∷ added sum elements ds)) (n + 2) ≡ one =
      ap (coeff (moved e (zero_of ∷ added sum elements ds))) (sym count) ∙ moved-last e (zero_of ∷ added sum elements ds) in
      let right : coeff (f ∷ plain elements) (n + 2) ≡ one = ap (coeff (f ∷ plain elements)) k ∙ plain-last elements (n + 1) refl in
      subst (λ c. same c zero_of) (sym (change-at elements ds e f (n + 2) (omega arith) ∙ ap (λ c. less c (coeff (f ∷ plain elements) (n + 2))) left ∙ ap (less one) right)) (G.inverse one)

  -- the key is not changed, where the coefficient before is zero
  key-same : (elements ds : List A) (e f : A) → ((a : A) → same (multiple zero_of sum a (length elements + 2)) zero_of → same a zero_of)
      → same (coeff (change elements ds e f) (length elements + 1)) zero_of → same e zero_of
  key-same elements ds e f few h =
      let n = length elements in
      let els = zero_of ∷ added sum elements ds in
      let size : length els ≡ n + 1 = omega (arith, length-added elements ds) in
      let k : n + 1 ≡ suc n = omega arith in
      let right : coeff (f ∷ plain elements) (n + 1) ≡ zero_of = ap (coeff (f ∷ plain elements)) k ∙ plain-second elements n refl in
      let left : same (coeff (moved e els) (n + 1)) (multiple zero_of sum e (n + 2)) =
      let m : length els + 1 ≡ n + 2 = omega (arith, size) in
      subst (λ j. same (coeff (moved e els) (n + 1)) (multiple zero_of sum e j)) m
      (subst (λ j. same (coeff (moved e els) j) (multiple zero_of sum e (length els + 1))) size (moved-second e els)) in
      let none : same (less (coeff (moved e els) (n + 1)) zero_of) zero_of =
      subst (λ c. same c zero_of) (change-at elements ds e f (n + 1) (omega arith) ∙ ap (less (coeff (moved e els) (n + 1))) right) h in
      few e (E.transitive _ _ _ (E.symmetric _ _ left) (difference_zero-same E G P L (coeff (moved e els) (n + 1)) zero_of none))

  -- and then no element is
  element-same : (elements ds : List A) (e f : A) (k : ℕ) → same e zero_of → length ds ≡ length elements → k < length ds
      → same (coeff (change elements ds e f) (suc k)) zero_of → same (coeff ds k) zero_of
  element-same elements ds e f k z size l h =
      let els = zero_of ∷ added sum elements ds in
      let below : k < length elements = omega (arith, l, size) in
      let s = coeff elements k in
      let d = coeff ds k in
      let left : same (coeff (moved e els) (suc k)) (sum s d) =
      subst (λ c. same (coeff (moved e els) (suc k)) c) (plain-at (added sum elements ds) k (omega (arith, below, length-added elements ds)) ∙ added-at elements ds k below size)
      (moved-zero e els z (suc k)) in
      let none : same (less (coeff (moved e els) (suc k)) s) zero_of =
      subst (λ c. same c zero_of) (change-at elements ds e f (suc k) (omega (arith, below)) ∙ ap (less (coeff (moved e els) (suc k))) (plain-at elements k below)) h in
      combine2_same E G P L (d ∷ s ∷ coeff (moved e els) (suc k) ∷ []) v0 𝟘 𝟙 (v2 ⊖ v1) 𝟘 (minus 𝟙) v2 (v1 ⊕ v0) none left refl

  pub few_keys : (elements ds keys : List A) (e f : A) (k : ℕ) → length ds ≡ length elements → k < length ds → ¬ (same (get_or ds k zero_of) zero_of)
      → ((a : A) → same (multiple zero_of sum a (length elements + 2)) zero_of → same a zero_of)
      → AreApart same keys → All (λ x. same (sum (check_of sum product elements x) f) (check_of sum product (added sum elements ds) (sum x e))) keys → length keys ≤ length elements + 1
  few_keys elements ds keys e f k size l changed few differ h =
      let n = length elements in
      let m = n + 2 in
      let D = change elements ds e f in
      let count : length D ≡ n + 3 = length-change elements ds e f in
      let low = take m D in
      let sized : length low ≡ m = length-take-le m D (omega (arith, count)) in
      let zeros : All (λ c. same c zero_of) (drop m D) =
      All-from_get_or (λ c. same c zero_of) (drop m D) zero_of
      (λ i b. let first : m + i ≡ m = omega (arith, b, count, length-drop m D) in
      subst (λ c. same c zero_of) (sym (get_or-drop m D i zero_of ∙ ap (coeff D) first)) (top-zero elements ds e f)) in
      let at_key : (x : A) → same (at x D) zero_of → same (at x low) zero_of = λ x z.
      E.transitive _ _ _ (E.symmetric _ _ (subst (λ p. same (at x p) (at x low)) (take-append-drop m D) (value-zeros_after E G P L x low (drop m D) zeros))) z in
      let nonzero : ¬ (All (λ c. same c zero_of) low) = λ z.
      let at_index : (i : ℕ) → i < m → same (coeff D i) zero_of = λ i b.
      subst (λ c. same c zero_of) (get_or-take m D i zero_of b) (z i zero_of (omega (arith, b, sized))) in
      let key = key-same elements ds e f few (at_index (n + 1) (omega arith)) in
      changed (element-same elements ds e f k key size l (at_index (suc k) (omega (arith, l, size)))) in
      omega (arith, sized, few_roots-same E G P L F low keys nonzero differ (λ i d b. at_key (get_or keys i d) (passing elements ds e f (get_or keys i d) (h i d b))))
