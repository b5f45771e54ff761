-- The pigeonhole principle, and a product over all numbers below a bound in another order.
use Rattle.std.proofs.Common.{◌≡◌, ◌≢◌, ◌⊎◌, ℕ, zero, suc, ◌*◌, ◌<◌, ◌≤◌, inl, inr, arith, sym, ap, ap₂, ◌∙◌, refl, mul_assoc, mul_comm}
use Rattle.std.proofs.lemmas.Bool.{cases_eq}
use Rattle.math_numbers.specs.Pigeonhole.{MapsBelow, DistinctBelow}

-- a, or l where a is m
abbrev replaced : (m l a : ℕ) → (a ≡ m) ⊎ (a ≡ m → ⊥) → ℕ
replaced m l a (inl _) = l
replaced m l a (inr _) = a

replaced_below : (m l a : ℕ) (c : (a ≡ m) ⊎ (a ≡ m → ⊥)) → a ≢ l → l < suc m → a < suc m → replaced m l a c < m
replaced_below m l a (inl e) d p q = let n : l ≢ m = λ h. d (e ∙ sym h) in omega arith
replaced_below m l a (inr n) d p q = omega arith

replaced_distinct : (m l a b : ℕ) (c : (a ≡ m) ⊎ (a ≡ m → ⊥)) (d : (b ≡ m) ⊎ (b ≡ m → ⊥)) → a ≢ b → a ≢ l → b ≢ l
    → replaced m l a c ≢ replaced m l b d
replaced_distinct m l a b (inl e) (inl f) p q r = λ h. p (e ∙ sym f)
replaced_distinct m l a b (inl e) (inr f) p q r = λ h. r (sym h)
replaced_distinct m l a b (inr e) (inl f) p q r = q
replaced_distinct m l a b (inr e) (inr f) p q r = p

-- f, with the value m replaced by the value at the last number
abbrev shortened : (ℕ → ℕ) → ℕ → ℕ → ℕ → ℕ
shortened f last m i = replaced m (f last) (f i) (cases_eq (f i) m)

shortened_below : (f : ℕ → ℕ) (last m : ℕ) → MapsBelow f (suc last) (suc m) → DistinctBelow f (suc last) → MapsBelow (shortened f last m) last m
shortened_below f last m below distinct = λ i h.
    replaced_below m (f last) (f i) (cases_eq (f i) m) (distinct i last h (omega arith)) (below last (omega arith)) (below i (omega arith))

shortened_distinct : (f : ℕ → ℕ) (last m : ℕ) → DistinctBelow f (suc last) → DistinctBelow (shortened f last m) last
shortened_distinct f last m distinct = λ i j h k.
    replaced_distinct m (f last) (f i) (f j) (cases_eq (f i) m) (cases_eq (f j) m)
    (distinct i j h (omega arith)) (distinct i last (omega arith) (omega arith)) (distinct j last k (omega arith))

-- one number more than values
one_more : (n : ℕ) (f : ℕ → ℕ) → MapsBelow f (suc n) n → DistinctBelow f (suc n) → ⊥
one_more zero f below distinct = let h : f 0 < 0 = below 0 (omega arith) in omega arith
one_more (suc m) f below distinct =
    one_more m (shortened f (suc m) m) (shortened_below f (suc m) m below distinct) (shortened_distinct f (suc m) m distinct)

-- no function takes more distinct values below n than there are
pub pigeonhole : (m n : ℕ) (f : ℕ → ℕ) → n < m → MapsBelow f m n → DistinctBelow f m → ⊥
pigeonhole m n f more below distinct = one_more n f (λ i h. below i (omega arith)) (λ i j h k. distinct i j h (omega arith))

-- the product of the values of f at the numbers below m
abbrev pub product_below : (ℕ → ℕ) → ℕ → ℕ
product_below f zero = 1
product_below f (suc m) = product_below f m * f m

pub product_below-ap : (f g : ℕ → ℕ) (m : ℕ) → ((i : ℕ) → i < m → f i ≡ g i) → product_below f m ≡ product_below g m
product_below-ap f g zero h = refl
product_below-ap f g (suc m) h = ap₂ (λ a b. a * b) (product_below-ap f g m (λ i l. h i (omega arith))) (h m (omega arith))

replaced-hit : (m l a : ℕ) (c : (a ≡ m) ⊎ (a ≡ m → ⊥)) → a ≡ m → replaced m l a c ≡ l
replaced-hit m l a (inl _) e = refl
replaced-hit m l a (inr d) e = absurd (d e)

replaced-miss : (m l a : ℕ) (c : (a ≡ m) ⊎ (a ≡ m → ⊥)) → a ≢ m → replaced m l a c ≡ a
replaced-miss m l a (inl e) d = absurd (d e)
replaced-miss m l a (inr _) d = refl

exchange : (a b x y : ℕ) → a ≡ b → a * x * y ≡ b * y * x
exchange a b x y e = mul_assoc a x y ∙ ap₂ (λ s t. s * t) e (mul_comm x y) ∙ sym (mul_assoc b y x)

exchange_last : (a b x y z : ℕ) → a * x ≡ b * y → a * z * x ≡ b * z * y
exchange_last a b x y z e =
    mul_assoc a z x ∙ ap (λ t. a * t) (mul_comm z x) ∙ sym (mul_assoc a x z) ∙ ap (λ t. t * z) e ∙ mul_assoc b y z ∙ ap (λ t. b * t) (mul_comm y z) ∙ sym (mul_assoc b z y)

module _ (g f : ℕ → ℕ) (m : ℕ) (distinct : DistinctBelow f (suc m)) where
  -- below k, f does not take the value m, and the two products agree;
  -- or f takes it once, and the products agree when each has the factor that the other lacks
  abbrev Compared : ℕ → Type 0
  Compared k =
      (((i : ℕ) → i < k → f i ≢ m) × (product_below (λ i. g (f i)) k ≡ product_below (λ i. g (shortened f m m i)) k))
      ⊎ ((i : ℕ) × (i < k) × (f i ≡ m) × (product_below (λ i. g (f i)) k * g (f m) ≡ product_below (λ i. g (shortened f m m i)) k * g m))

  compared_next : (k : ℕ) → (f k ≡ m) ⊎ (f k ≡ m → ⊥) → k < m → Compared k → Compared (suc k)
  compared_next k (inl e) h (inl r) =
      inr (
        k,
        (let l : k < suc k = omega arith in l),
        e,
        ap₂ (λ s t. s * g t * g (f m)) r.1 e ∙ exchange _ _ (g m) (g (f m)) refl
            ∙ ap (λ t. product_below (λ i. g (shortened f m m i)) k * g t * g m) (sym (replaced-hit m (f m) (f k) (cases_eq (f k) m) e)),
      )
  compared_next k (inl e) h (inr r) = absurd (distinct r.0 k r.1 (omega arith) (r.2 ∙ sym e))
  compared_next k (inr d) h (inl r) =
      inl (
        (λ i l e. elim (cases_eq i k) as (λ _. ⊥) [
          | inl same ↦ d (ap f (sym same) ∙ e)
          | inr other ↦ r.0 i (omega arith) e
        ]),
        ap₂ (λ s t. s * g t) r.1 (sym (replaced-miss m (f m) (f k) (cases_eq (f k) m) d)),
      )
  compared_next k (inr d) h (inr r) =
      inr (
        r.0,
        (let p : r.0 < k = r.1 in let l : r.0 < suc k = omega arith in l),
        r.2,
        exchange_last _ _ (g (f m)) (g m) (g (f k)) r.3
            ∙ ap (λ t. product_below (λ i. g (shortened f m m i)) k * g t * g m) (sym (replaced-miss m (f m) (f k) (cases_eq (f k) m) d)),
      )

  compared : (k : ℕ) → k ≤ m → Compared k
  compared zero h = inl ((λ i l. absurd (omega arith)), refl)
  compared (suc k) h = compared_next k (cases_eq (f k) m) (omega arith) (compared k (omega arith))

  -- with the last factor the products agree
  joined : MapsBelow f (suc m) (suc m) → (f m ≡ m) ⊎ (f m ≡ m → ⊥) → Compared m
      → product_below (λ i. g (f i)) (suc m) ≡ product_below (λ i. g (shortened f m m i)) m * g m
  joined below _ (inr r) = r.3
  joined below (inl e) (inl r) = ap₂ (λ s t. s * g t) r.1 e
  joined below (inr d) (inl r) = absurd (pigeonhole (suc m) m f (omega arith) (λ i h. elim (cases_eq i m) as (λ _. f i < m) [
    | inl same ↦ let k : f m ≢ m = d in let b : f i < suc m = below i h in let e : f i ≡ f m = ap f same in omega arith
    | inr other ↦ let k : f i ≢ m = r.0 i (omega arith) in let b : f i < suc m = below i h in omega arith
  ]) distinct)

-- where f takes each number below m once, a product over its values is the product over all numbers below m
pub product_below-rearranged : (m : ℕ) (g f : ℕ → ℕ) → MapsBelow f m m → DistinctBelow f m → product_below (λ i. g (f i)) m ≡ product_below g m
product_below-rearranged zero g f below distinct = refl
product_below-rearranged (suc m) g f below distinct =
    joined g f m distinct below (cases_eq (f m) m) (compared g f m distinct m (omega arith))
    ∙ ap (λ t. t * g m) (product_below-rearranged m g (shortened f m m) (shortened_below f m m below distinct) (shortened_distinct f m m distinct))
