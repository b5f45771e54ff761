-- Lists of numbers that differ and have the same members: sums over them are the same, and so are weights at their points.
use Rattle.std.proofs.Common.{◌≡◌, ◌≢◌, inl, inr, ℕ, suc, ◌<◌, List, [], ◌∷◌, Bool, true, false, cond, eqb, length, map, get_or, refl, sym, ◌∙◌, ap, subst, arith, true≢false}
use Rattle.std.proofs.lemmas.Bool.{cases_eq, eqb-true, eqb-false, false_from_ne_true, true_from_ne_false}
use Rattle.std.proofs.lemmas.List.{length-map}
use Rattle.math_theory.specs.Interpolation.{AreWeightsAt, values_at}
use Rattle.math_theory.specs.Laws.{IsEquality, IsGroup, IsProduct}
use Rattle.math_theory.specs.Sums.{total, weighted_sum}
use Rattle.math_theory.specs.Values.{value}

-- whether i is an item
abbrev pub has : ℕ → List ℕ → Bool
has i [] = false
has i (x ∷ xs) = cond (eqb i x) true (has i xs)

-- the items but i
abbrev without : ℕ → List ℕ → List ℕ
without i [] = []
without i (x ∷ xs) = cond (eqb i x) (without i xs) (x ∷ without i xs)

-- no item is one of those after it
abbrev pub Differ : List ℕ → Type 0
Differ [] = Unit {0}
Differ (x ∷ xs) = (has x xs ≡ false) × Differ xs

eqb-same : (i x : ℕ) → i ≡ x → eqb i x ≡ true
eqb-same i x e = subst (λ k. eqb i k ≡ true) e (true_from_ne_false (eqb i i) (λ f. eqb-false i i f refl))

eqb-other : (i x : ℕ) → i ≢ x → eqb i x ≡ false
eqb-other i x o = false_from_ne_true (eqb i x) (λ t. o (eqb-true i x t))

pub has-head : (i x : ℕ) (xs : List ℕ) → i ≡ x → has i (x ∷ xs) ≡ true
has-head i x xs e = ap (λ b. cond b true (has i xs)) (eqb-same i x e)

pub has-tail : (i x : ℕ) (xs : List ℕ) → i ≢ x → has i (x ∷ xs) ≡ has i xs
has-tail i x xs o = ap (λ b. cond b true (has i xs)) (eqb-other i x o)

without-head : (i x : ℕ) (xs : List ℕ) → i ≡ x → without i (x ∷ xs) ≡ without i xs
without-head i x xs e = ap (λ b. cond b (without i xs) (x ∷ without i xs)) (eqb-same i x e)

without-tail : (i x : ℕ) (xs : List ℕ) → i ≢ x → without i (x ∷ xs) ≡ x ∷ without i xs
without-tail i x xs o = ap (λ b. cond b (without i xs) (x ∷ without i xs)) (eqb-other i x o)

has-without_same : (i : ℕ) (xs : List ℕ) → has i (without i xs) ≡ false
has-without_same i [] = refl
has-without_same i (x ∷ xs) =
    elim (cases_eq i x) [
      | inl e ↦ ap (has i) (without-head i x xs e) ∙ has-without_same i xs
      | inr o ↦ ap (has i) (without-tail i x xs o) ∙ has-tail i x (without i xs) o ∙ has-without_same i xs
    ]

has-without_other : (i j : ℕ) (xs : List ℕ) → i ≢ j → has i (without j xs) ≡ has i xs
has-without_other i j [] n = refl
has-without_other i j (x ∷ xs) n =
    elim (cases_eq j x) [
      | inl e ↦ ap (has i) (without-head j x xs e) ∙ has-without_other i j xs n ∙ sym (has-tail i x xs (λ k. n (k ∙ sym e)))
      | inr o ↦
          ap (has i) (without-tail j x xs o)
          ∙ elim (cases_eq i x) [
            | inl e ↦ has-head i x (without j xs) e ∙ sym (has-head i x xs e)
            | inr p ↦ has-tail i x (without j xs) p ∙ has-without_other i j xs n ∙ sym (has-tail i x xs p)
          ]
    ]

without-absent : (i : ℕ) (xs : List ℕ) → has i xs ≡ false → without i xs ≡ xs
without-absent i [] h = refl
without-absent i (x ∷ xs) h =
    elim (cases_eq i x) [
      | inl e ↦ absurd (true≢false (sym (has-head i x xs e) ∙ h))
      | inr o ↦ without-tail i x xs o ∙ ap (λ ys. x ∷ ys) (without-absent i xs (sym (has-tail i x xs o) ∙ h))
    ]

Differ-without : (i : ℕ) (xs : List ℕ) → Differ xs → Differ (without i xs)
Differ-without i [] d = tt
Differ-without i (x ∷ xs) d =
    elim (cases_eq i x) [
      | inl e ↦ subst Differ (sym (without-head i x xs e)) (Differ-without i xs d.1)
      | inr o ↦ subst Differ (sym (without-tail i x xs o)) (has-without_other x i xs (λ k. o (sym k)) ∙ d.0, Differ-without i xs d.1)
    ]

-- the members of both but the first of one
others-members : (x : ℕ) (xs ys : List ℕ) → Differ (x ∷ xs) → ((i : ℕ) → has i (x ∷ xs) ≡ has i ys) → (i : ℕ) → has i xs ≡ has i (without x ys)
others-members x xs ys d m i =
    elim (cases_eq i x) [
      | inl e ↦ ap (λ j. has j xs) e ∙ d.0 ∙ sym (has-without_same x ys) ∙ ap (λ j. has j (without x ys)) (sym e)
      | inr o ↦ sym (has-tail i x xs o) ∙ m i ∙ sym (has-without_other i x ys o)
    ]

module _ {A : Type 0} {same : A → A → Type 0} {zero_of : A} {sum : A → A → A} {negative : A → A} (E : IsEquality same) (G : IsGroup same zero_of sum negative) (h : ℕ → A) where
  abbrev pub all : List ℕ → A
  all xs = total zero_of sum (map h xs)

  all-without : (i : ℕ) (xs : List ℕ) → Differ xs → has i xs ≡ true → same (all xs) (sum (h i) (all (without i xs)))
  all-without i [] d m = absurd (true≢false (sym m))
  all-without i (x ∷ xs) d m =
      elim (cases_eq i x) [
        | inl e ↦
            let rest : without i (x ∷ xs) ≡ xs = without-head i x xs e ∙ without-absent i xs (ap (λ k. has k xs) e ∙ d.0) in
            subst (λ ys. same (sum (h x) (all xs)) (sum (h i) (all ys))) (sym rest) (subst (λ k. same (sum (h x) (all xs)) (sum (h k) (all xs))) (sym e) (E.reflexive _))
        | inr o ↦
            subst (λ ys. same (sum (h x) (all xs)) (sum (h i) (all ys))) (sym (without-tail i x xs o))
            (E.transitive _ _ _ (G.respects_sum _ _ _ _ (E.reflexive (h x)) (all-without i xs d.1 (sym (has-tail i x xs o) ∙ m)))
            (E.transitive _ _ _ (E.symmetric _ _ (G.associative (h x) (h i) (all (without i xs))))
            (E.transitive _ _ _ (G.respects_sum _ _ _ _ (G.commutative (h x) (h i)) (E.reflexive _)) (G.associative (h i) (h x) (all (without i xs))))))
      ]

  -- sums over the same members are the same
  pub all-members : (xs ys : List ℕ) → Differ xs → Differ ys → ((i : ℕ) → has i xs ≡ has i ys) → same (all xs) (all ys)
  all-members [] [] d k m = E.reflexive zero_of
  all-members [] (y ∷ ys) d k m = absurd (true≢false (sym (has-head y y ys refl) ∙ sym (m y)))
  all-members (x ∷ xs) ys d k m =
      E.transitive _ _ _ (G.respects_sum _ _ _ _ (E.reflexive (h x)) (all-members xs (without x ys) d.1 (Differ-without x ys k) (others-members x xs ys d m)))
      (E.symmetric _ _ (all-without x ys k (sym (m x) ∙ has-head x x xs refl)))

-- there are as many
length-without : (i : ℕ) (xs : List ℕ) → Differ xs → has i xs ≡ true → length xs ≡ suc (length (without i xs))
length-without i [] d m = absurd (true≢false (sym m))
length-without i (x ∷ xs) d m =
    elim (cases_eq i x) [
      | inl e ↦ let f : length (without i (x ∷ xs)) ≡ length xs = ap length (without-head i x xs e ∙ without-absent i xs (ap (λ k. has k xs) e ∙ d.0)) in omega (arith, f)
      | inr o ↦
          let f : length (without i (x ∷ xs)) ≡ suc (length (without i xs)) = ap length (without-tail i x xs o) in
          omega (arith, f, length-without i xs d.1 (sym (has-tail i x xs o) ∙ m))
    ]

pub length-members : (xs ys : List ℕ) → Differ xs → Differ ys → ((i : ℕ) → has i xs ≡ has i ys) → length xs ≡ length ys
length-members [] [] d k m = refl
length-members [] (y ∷ ys) d k m = absurd (true≢false (sym (has-head y y ys refl) ∙ sym (m y)))
length-members (x ∷ xs) ys d k m =
    let e : length xs ≡ length (without x ys) = length-members xs (without x ys) d.1 (Differ-without x ys k) (others-members x xs ys d m) in
    omega (arith, e, length-without x ys k (sym (m x) ∙ has-head x x xs refl))

-- in the other order the weights serve as well: each is what f gives at its number
module _ {A : Type 0} {same : A → A → Type 0} {zero_of : A} {sum : A → A → A} {negative : A → A} {product : A → A → A}
    (E : IsEquality same) (G : IsGroup same zero_of sum negative) (P : IsProduct same product) (one : A) (f : ℕ → A) (point : ℕ → A) where
  abbrev term : List A → ℕ → A
  term a i = product (value zero_of sum product one (point i) a) (f i)

  weighted-all : (a : List A) (is : List ℕ) (ws : List A) → length ws ≡ length is → ((k : ℕ) → k < length is → same (get_or ws k zero_of) (f (get_or is k 0)))
      → same (weighted_sum zero_of sum product (values_at zero_of sum product one (map point is) a) ws) (all E G (term a) is)
  weighted-all a [] [] n h = E.reflexive zero_of
  weighted-all a [] (w ∷ ws) n h = absurd (omega (arith, n))
  weighted-all a (i ∷ is) [] n h = absurd (omega (arith, n))
  weighted-all a (i ∷ is) (w ∷ ws) n h =
      G.respects_sum _ _ _ _ (P.respects _ _ _ _ (E.reflexive (value zero_of sum product one (point i) a)) (h 0 (omega arith)))
      (weighted-all a is ws (omega (arith, n)) (λ k l. h (suc k) (omega (arith, l))))

  pub weights-members : (x : A) (is js : List ℕ) (ws vs : List A) → Differ is → Differ js → ((i : ℕ) → has i is ≡ has i js)
      → ((k : ℕ) → k < length is → same (get_or ws k zero_of) (f (get_or is k 0)))
      → length vs ≡ length js → ((k : ℕ) → k < length js → same (get_or vs k zero_of) (f (get_or js k 0)))
      → AreWeightsAt same zero_of sum product one x (map point is) ws → AreWeightsAt same zero_of sum product one x (map point js) vs
  weights-members x is js ws vs d k m hw n hv W =
      let count : length is ≡ length js = length-members is js d k m in
      let old : length (map point is) ≡ length is = length-map is point in
      let new : length (map point js) ≡ length js = length-map js point in
      record {
        lengths = new ∙ sym n;
        give = λ a l.
            E.transitive _ _ _ (weighted-all a js vs n hv)
            (E.transitive _ _ _ (E.symmetric _ _ (all-members E G (term a) is js d k m))
            (E.transitive _ _ _ (E.symmetric _ _ (weighted-all a is ws (sym W.lengths ∙ old) hw)) (W.give a (omega (arith, l, count, old, new)))));
      }
