-- Polynomials as lists of coefficients from the constant upwards: their coefficients, sums, products and multiples.
use Rattle.std.specs.Prelude.{◌≡◌, ◌<◌, ◌⊎◌, ℕ, suc, List, [], ◌∷◌, map, slice_index_or, All}
use Rattle.math_theory.specs.Powers.{power}

-- coefficient i, which is zero past the end of the list
abbrev pub coefficient : {A : Type 0} → A → List A → ℕ → A
coefficient zero a i = slice_index_or a i zero

-- coefficient i of a is same as coefficient i of b, for every i
abbrev pub HaveSameCoefficients : {A : Type 0} → (A → A → Type 0) → A → List A → List A → Type 0
HaveSameCoefficients same zero a b = (i : ℕ) → same (coefficient zero a i) (coefficient zero b i)

-- every coefficient is same as zero
abbrev pub IsZeroPolynomial : {A : Type 0} → (A → A → Type 0) → A → List A → Type 0
IsZeroPolynomial same zero a = All (λ c. same c zero) a

-- n is the greatest index of a coefficient that is not same as zero, or 0 where there is none
pub record HasDegree {A : Type 0} (same : A → A → Type 0) (zero : A) (a : List A) (n : ℕ) : Type 0 where
  pub leading : (n ≡ 0) ⊎ ¬ (same (coefficient zero a n) zero)
  pub above : (i : ℕ) → n < i → same (coefficient zero a i) zero

-- the sum place by place, the shorter list padded with zeros
abbrev pub polynomial_sum : {A : Type 0} → (A → A → A) → List A → List A → List A
polynomial_sum sum [] b = b
polynomial_sum sum (c ∷ a) [] = c ∷ a
polynomial_sum sum (c ∷ a) (d ∷ b) = sum c d ∷ polynomial_sum sum a b

-- the negative of each coefficient
abbrev pub polynomial_negative : {A : Type 0} → (A → A) → List A → List A
polynomial_negative negative a = map negative a

-- the sum of a and the negative of b
abbrev pub polynomial_difference : {A : Type 0} → (A → A → A) → (A → A) → List A → List A → List A
polynomial_difference sum negative a b = polynomial_sum sum a (polynomial_negative negative b)

-- each coefficient scaled by s
abbrev pub polynomial_multiple : {A B : Type 0} → (A → B → A) → List A → B → List A
polynomial_multiple scaling a s = map (λ c. scaling c s) a

-- (c + X a) b is b times c, and X times a b
abbrev pub polynomial_product : {A : Type 0} → A → (A → A → A) → (A → A → A) → List A → List A → List A
polynomial_product zero sum product [] b = []
polynomial_product zero sum product (c ∷ a) b = polynomial_sum sum (polynomial_multiple product b c) (zero ∷ polynomial_product zero sum product a b)

-- coefficient j scaled by s to the power i + j
abbrev pub dilation_from : {A B : Type 0} → (A → B → A) → B → (B → B → B) → B → ℕ → List A → List A
dilation_from scaling one product s i [] = []
dilation_from scaling one product s i (c ∷ a) = scaling c (power one product s i) ∷ dilation_from scaling one product s (suc i) a

-- coefficient i scaled by s to the power i
abbrev pub polynomial_dilation : {A B : Type 0} → (A → B → A) → B → (B → B → B) → B → List A → List A
polynomial_dilation scaling one product s a = dilation_from scaling one product s 0 a
