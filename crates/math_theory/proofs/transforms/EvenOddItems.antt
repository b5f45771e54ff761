-- Lists by their items of even and of odd index, and the values of polynomials by these halves.
use Rattle.std.proofs.Common.{◌≡◌, ℕ, zero, suc, ◌+◌, List, [], ◌∷◌, ◌++◌, length, map, get_or, refl, sym, ◌∙◌, ap, ap₂, arith}
use Rattle.math_theory.specs.Rings.{CommutativeRing}
use Rattle.math_theory.specs.Powers.{power-zero, power-suc}
use Rattle.math_theory.specs.OverRing.{power, value}
use Rattle.math_theory.specs.BitReversal.{even_items, odd_items, interleaved}
use Rattle.math_theory.proofs.rings.Normal.{ring, combine, ◌⊕◌, ◌⊗◌, 𝟘, 𝟙, v0, v1, v2, v3, v4, v5}
use Rattle.math_theory.proofs.polynomials.Values.{horner, value-horner}

module _ {A : Type 0} where
  pub length-interleaved : (xs ys : List A) → length (interleaved xs ys) ≡ length xs + length ys
  length-interleaved [] ys = omega arith
  length-interleaved (x ∷ xs) [] = omega arith
  length-interleaved (x ∷ xs) (y ∷ ys) = omega (arith, length-interleaved xs ys)

  -- the items of even and of odd index, in turn, are the list
  pub interleaved-even_odd : (xs : List A) → interleaved (even_items xs) (odd_items xs) ≡ xs
  interleaved-even_odd [] = refl
  interleaved-even_odd (a ∷ []) = refl
  interleaved-even_odd (a ∷ b ∷ xs) = ap (λ rest. a ∷ b ∷ rest) (interleaved-even_odd xs)

  pub even_items-interleaved : (xs ys : List A) → length xs ≡ length ys → even_items (interleaved xs ys) ≡ xs
  even_items-interleaved [] [] h = refl
  even_items-interleaved [] (y ∷ ys) h = absurd (omega (arith, h))
  even_items-interleaved (x ∷ xs) [] h = absurd (omega (arith, h))
  even_items-interleaved (x ∷ xs) (y ∷ ys) h = ap (λ rest. x ∷ rest) (even_items-interleaved xs ys (omega (arith, h)))

  pub odd_items-interleaved : (xs ys : List A) → length xs ≡ length ys → odd_items (interleaved xs ys) ≡ ys
  odd_items-interleaved [] [] h = refl
  odd_items-interleaved [] (y ∷ ys) h = absurd (omega (arith, h))
  odd_items-interleaved (x ∷ xs) [] h = absurd (omega (arith, h))
  odd_items-interleaved (x ∷ xs) (y ∷ ys) h = ap (λ rest. y ∷ rest) (odd_items-interleaved xs ys (omega (arith, h)))

  pub length-even_items : (n : ℕ) (xs : List A) → length xs ≡ n + n → length (even_items xs) ≡ n
  length-even_items zero [] h = refl
  length-even_items (suc n) [] h = absurd (omega (arith, h))
  length-even_items n (a ∷ []) h = absurd (omega (arith, h))
  length-even_items zero (a ∷ b ∷ xs) h = absurd (omega (arith, h))
  length-even_items (suc n) (a ∷ b ∷ xs) h = ap suc (length-even_items n xs (omega (arith, h)))

  pub length-odd_items : (n : ℕ) (xs : List A) → length xs ≡ n + n → length (odd_items xs) ≡ n
  length-odd_items zero [] h = refl
  length-odd_items (suc n) [] h = absurd (omega (arith, h))
  length-odd_items n (a ∷ []) h = absurd (omega (arith, h))
  length-odd_items zero (a ∷ b ∷ xs) h = absurd (omega (arith, h))
  length-odd_items (suc n) (a ∷ b ∷ xs) h = ap suc (length-odd_items n xs (omega (arith, h)))

  pub get_or-interleaved_even : (d : A) (xs ys : List A) (i : ℕ) → length xs ≡ length ys → get_or (interleaved xs ys) (i + i) d ≡ get_or xs i d
  get_or-interleaved_even d [] [] i h = refl
  get_or-interleaved_even d [] (y ∷ ys) i h = absurd (omega (arith, h))
  get_or-interleaved_even d (x ∷ xs) [] i h = absurd (omega (arith, h))
  get_or-interleaved_even d (x ∷ xs) (y ∷ ys) zero h = refl
  get_or-interleaved_even d (x ∷ xs) (y ∷ ys) (suc i) h =
      ap (λ j. get_or (x ∷ y ∷ interleaved xs ys) j d) (let e : suc i + suc i ≡ suc (suc (i + i)) = omega arith in e) ∙ get_or-interleaved_even d xs ys i (omega (arith, h))

  pub get_or-interleaved_odd : (d : A) (xs ys : List A) (i : ℕ) → length xs ≡ length ys → get_or (interleaved xs ys) (suc (i + i)) d ≡ get_or ys i d
  get_or-interleaved_odd d [] [] i h = refl
  get_or-interleaved_odd d [] (y ∷ ys) i h = absurd (omega (arith, h))
  get_or-interleaved_odd d (x ∷ xs) [] i h = absurd (omega (arith, h))
  get_or-interleaved_odd d (x ∷ xs) (y ∷ ys) zero h = refl
  get_or-interleaved_odd d (x ∷ xs) (y ∷ ys) (suc i) h =
      ap (λ j. get_or (x ∷ y ∷ interleaved xs ys) j d) (let e : suc (suc i + suc i) ≡ suc (suc (suc (i + i))) = omega arith in e) ∙ get_or-interleaved_odd d xs ys i (omega (arith, h))

pub map-interleaved : {A B : Type 0} (f : A → B) (xs ys : List A) → map f (interleaved xs ys) ≡ interleaved (map f xs) (map f ys)
map-interleaved f [] ys = refl
map-interleaved f (x ∷ xs) [] = refl
map-interleaved f (x ∷ xs) (y ∷ ys) = ap (λ rest. f x ∷ f y ∷ rest) (map-interleaved f xs ys)

module _ {A : Type 0} (R : CommutativeRing A) where
  open R use {sum, product}

  horner-halves : (r : A) (p : List A) → horner R r p ≡ sum (horner R (product r r) (even_items p)) (product r (horner R (product r r) (odd_items p)))
  horner-halves r [] = ring R (r ∷ []) 𝟘 (𝟘 ⊕ (v0 ⊗ 𝟘)) refl
  horner-halves r (a ∷ []) = ring R (r ∷ a ∷ []) (v1 ⊕ (v0 ⊗ 𝟘)) ((v1 ⊕ ((v0 ⊗ v0) ⊗ 𝟘)) ⊕ (v0 ⊗ 𝟘)) refl
  horner-halves r (a ∷ b ∷ p) =
      ap (λ x. sum a (product r (sum b (product r x)))) (horner-halves r p)
      ∙ ring R (r ∷ a ∷ b ∷ horner R (product r r) (even_items p) ∷ horner R (product r r) (odd_items p) ∷ [])
      (v1 ⊕ (v0 ⊗ (v2 ⊕ (v0 ⊗ (v3 ⊕ (v0 ⊗ v4)))))) ((v1 ⊕ ((v0 ⊗ v0) ⊗ v3)) ⊕ (v0 ⊗ (v2 ⊕ ((v0 ⊗ v0) ⊗ v4)))) refl

  -- the value of the even half at the square, and r times that of the odd half
  pub value-halves : (r : A) (p : List A) → value R r p ≡ sum (value R (product r r) (even_items p)) (product r (value R (product r r) (odd_items p)))
  value-halves r p =
      value-horner R r p ∙ horner-halves r p
      ∙ sym (ap₂ (λ x y. sum x (product r y)) (value-horner R (product r r) (even_items p)) (value-horner R (product r r) (odd_items p)))

  pub value-interleaved : (r : A) (p q : List A) → length p ≡ length q → value R r (interleaved p q) ≡ sum (value R (product r r) p) (product r (value R (product r r) q))
  value-interleaved r p q h =
      value-halves r (interleaved p q)
      ∙ ap₂ (λ x y. sum (value R (product r r) x) (product r (value R (product r r) y))) (even_items-interleaved p q h) (odd_items-interleaved p q h)

  horner-append : (r : A) (p q : List A) → horner R r (p ++ q) ≡ sum (horner R r p) (product (power R r (length p)) (horner R r q))
  horner-append r [] q = ring R (horner R r q ∷ []) v0 (𝟘 ⊕ (𝟙 ⊗ v0)) refl ∙ ap (λ x. sum R.zero (product x (horner R r q))) (sym (power-zero R.one product r))
  horner-append r (a ∷ p) q =
      combine R (a ∷ r ∷ horner R r p ∷ power R r (length p) ∷ horner R r q ∷ horner R r (p ++ q) ∷ [])
      (v0 ⊕ (v1 ⊗ v5)) ((v0 ⊕ (v1 ⊗ v2)) ⊕ ((v3 ⊗ v1) ⊗ v4)) v1 v5 (v2 ⊕ (v3 ⊗ v4)) (horner-append r p q) refl
      ∙ ap (λ x. sum (sum a (product r (horner R r p))) (product x (horner R r q))) (sym (power-suc R.one product r (length p)))

  -- the value of two lists one after the other
  pub value-append : (r : A) (p q : List A) → value R r (p ++ q) ≡ sum (value R r p) (product (power R r (length p)) (value R r q))
  value-append r p q = value-horner R r (p ++ q) ∙ horner-append r p q ∙ sym (ap₂ (λ x y. sum x (product (power R r (length p)) y)) (value-horner R r p) (value-horner R r q))
