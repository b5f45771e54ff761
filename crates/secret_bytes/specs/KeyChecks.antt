-- The check of elements under a key, and how many keys let a change pass.
use Rattle.std.specs.Prelude.{◌≡◌, ◌+◌, ◌<◌, ◌≤◌, ℕ, List, [], ◌∷◌, length, slice_index_or, All}
use Rattle.math_theory.specs.Interpolation.{AreApart}
use Rattle.math_theory.specs.Powers.{multiple}
use Rattle.math_fields.specs.declared.goldilocks.F.{F}
use Rattle.math_fields.specs.Elements.{sum, product}
use Rattle.math_base.specs.Members.{RingOf}

-- s_1 + x (s_2 + .. x (s_n + x x)), where x stands for what follows the last
abbrev pub within : {A : Type 0} → (A → A → A) → (A → A → A) → List A → A → A
within sum product [] x = x
within sum product (s ∷ elements) x = sum s (product x (within sum product elements x))

-- x to the power n + 2, and the sum of s_i times x to the power i
abbrev pub check_of : {A : Type 0} → (A → A → A) → (A → A → A) → List A → A → A
check_of sum product elements x = product x (within sum product elements x)

-- x to the power n + 2, and the sum of s_i times x to the power i, in the Goldilocks field
abbrev pub check_at : List F → F → F
check_at elements x = check_of sum product elements x

-- each element and what is added to it
abbrev pub added : {A : Type 0} → (A → A → A) → List A → List A → List A
added sum [] ds = []
added sum (s ∷ elements) [] = s ∷ elements
added sum (s ∷ elements) (d ∷ ds) = sum s d ∷ added sum elements ds

-- with ds added to the elements, e to the key x and f to the check, the check fits
abbrev pub Passes : {A : Type 0} → RingOf A → List A → List A → A → A → A → Type 0
Passes R elements ds e f x = R.same (R.sum (check_of R.sum R.product elements x) f) (check_of R.sum R.product (added R.sum elements ds) (R.sum x e))

-- where one of the n additions to the elements is not zero, and n + 2 times an element is zero for zero alone, the check fits for at most n + 1 distinct keys
abbrev pub ChangesAreSeen : {A : Type 0} → RingOf A → Type 0
ChangesAreSeen {A} R = (elements ds keys : List A) (e f : A) (k : ℕ) → length ds ≡ length elements → k < length ds → ¬ (R.same (slice_index_or ds k R.zero) R.zero)
    → ((a : A) → R.same (multiple R.zero R.sum a (length elements + 2)) R.zero → R.same a R.zero)
    → AreApart R.same keys → All (Passes R elements ds e f) keys → length keys ≤ length elements + 1
