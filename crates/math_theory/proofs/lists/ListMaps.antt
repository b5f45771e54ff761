-- Lists that are maps of lists, and of ranges of numbers.
use Rattle.std.proofs.Common.{◌≡◌, ℕ, zero, suc, ◌+◌, List, [], ◌∷◌, ◌++◌, map, refl, ◌∙◌, ap, ap₂, arith}
use Rattle.std.specs.List.{range_with_len}

-- functions that agree everywhere give the same list
pub map-ap : {A B : Type 0} (f g : A → B) → ((x : A) → f x ≡ g x) → (xs : List A) → map f xs ≡ map g xs
map-ap f g h [] = refl
map-ap f g h (x ∷ xs) = ap₂ (λ y ys. y ∷ ys) (h x) (map-ap f g h xs)

pub map-map : {A B C : Type 0} (f : B → C) (g : A → B) (xs : List A) → map f (map g xs) ≡ map (λ x. f (g x)) xs
map-map f g [] = refl
map-map f g (x ∷ xs) = ap (λ ys. f (g x) ∷ ys) (map-map f g xs)

pub range-append : (a m n : ℕ) → range_with_len a (m + n) ≡ range_with_len a m ++ range_with_len (a + m) n
range-append a zero n = ap₂ range_with_len (let e : a ≡ a + 0 = omega arith in e) (let e : 0 + n ≡ n = omega arith in e)
range-append a (suc m) n =
    ap (range_with_len a) (let e : suc m + n ≡ suc (m + n) = omega arith in e)
    ∙ ap (λ xs. a ∷ xs) (range-append (a + 1) m n ∙ ap (λ t. range_with_len (a + 1) m ++ range_with_len t n) (let e : a + 1 + m ≡ a + suc m = omega arith in e))

-- a range that begins later
pub map-range-add : {A : Type 0} (f : ℕ → A) (a b n : ℕ) → map f (range_with_len (a + b) n) ≡ map (λ j. f (j + b)) (range_with_len a n)
map-range-add f a b zero = refl
map-range-add f a b (suc n) = ap (λ xs. f (a + b) ∷ xs) (ap (λ t. map f (range_with_len t n)) (let e : a + b + 1 ≡ a + 1 + b = omega arith in e) ∙ map-range-add f (a + 1) b n)
