-- Quotients of one numerator by several divisors.
use Rattle.std.specs.Prelude.{ℕ, ◌<◌, List, length, slice_index_or, All}

-- where no divisor is zero, each item times its divisor is same as the numerator
abbrev pub AreQuotients : {A : Type 0} → (A → A → Type 0) → A → (A → A → A) → A → List A → List A → Type 0
AreQuotients same zero_of product numerator divisors items =
    All (λ d. ¬ (same d zero_of)) divisors → (k : ℕ) → k < length divisors
    → same (product (slice_index_or items k zero_of) (slice_index_or divisors k zero_of)) numerator

-- where a divisor is zero, all items are zero
abbrev pub AreZerosForZero : {A : Type 0} → (A → A → Type 0) → A → List A → List A → Type 0
AreZerosForZero same zero_of divisors items =
    (k : ℕ) → k < length divisors → same (slice_index_or divisors k zero_of) zero_of → All (λ w. same w zero_of) items
