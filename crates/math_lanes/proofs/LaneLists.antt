-- Operations on vectors, lane by lane.
use Rattle.std.proofs.Common.{◌≡◌, ℕ, zero, suc, ◌-◌, ◌*◌, ◌/◌, ◌%◌, ◌^◌, ◌<◌, List, [], ◌∷◌, map, length, bit_and, Fits, w64, arith, refl, cond, nat_lt}
use Rattle.std.specs.Simd.Lanes.{zip2, Each1}
use Rattle.std.proofs.lemmas.Nat.{and_mask}
use lib.Lanes.{sel_l, top}
use lib.ListN.{replicate}
use mir.Val.{hbits}
use Rattle.math_numbers.specs.Goldilocks.{P}
use Rattle.math_lanes.specs.Words.{difference_of_words, sum_of_words}
use Rattle.math_lanes.specs.Elements.{product, reduced}
use Rattle.math_lanes.proofs.WordReductions.{selected_is, product_of_words, reduced_is, shifted_words, lower, upper, raised, plus, minus, times}

pub lower_half_lanes : (n : ℕ) (xs : List ℕ) → length xs ≡ n → zip2 bit_and xs (replicate n 4294967295) ≡ map lower xs
lower_half_lanes zero [] e = refl
lower_half_lanes zero (x ∷ xs) e = absurd (omega arith)
lower_half_lanes (suc n) [] e = absurd (omega arith)
lower_half_lanes (suc n) (x ∷ xs) e = λ i. (and_mask x 32 i) ∷ (lower_half_lanes n xs (omega arith) i)

pub difference_lanes : (n : ℕ) (a b : List ℕ) → length a ≡ n → length b ≡ n → Each1 (Fits w64) a
    → zip2 minus (zip2 minus a b) (sel_l (map (top (hbits w64)) (zip2 (λ x y. cond (nat_lt x y) (2 ^ 64 - 1) 0) a b)) (replicate n 4294967295) (replicate n 0))
    ≡ zip2 difference_of_words a b
difference_lanes zero [] [] e h f = refl
difference_lanes zero (x ∷ a) b e h f = absurd (omega arith)
difference_lanes zero [] (y ∷ b) e h f = absurd (omega arith)
difference_lanes (suc n) [] b e h f = absurd (omega arith)
difference_lanes (suc n) (x ∷ a) [] e h f = absurd (omega arith)
difference_lanes (suc n) (x ∷ a) (y ∷ b) e h f = λ i. (selected_is x y f.0.fits i) ∷ (difference_lanes n a b (omega arith) (omega arith) f.1 i)

pub sum_lanes : (n : ℕ) (a b : List ℕ) → length a ≡ n → length b ≡ n
    → zip2 difference_of_words a (zip2 minus (replicate n P) b) ≡ zip2 sum_of_words a b
sum_lanes zero [] [] e h = refl
sum_lanes zero (x ∷ a) b e h = absurd (omega arith)
sum_lanes zero [] (y ∷ b) e h = absurd (omega arith)
sum_lanes (suc n) [] b e h = absurd (omega arith)
sum_lanes (suc n) (x ∷ a) [] e h = absurd (omega arith)
sum_lanes (suc n) (x ∷ a) (y ∷ b) e h = λ i. (sum_of_words x y) ∷ (sum_lanes n a b (omega arith) (omega arith) i)

-- two operations that agree on pairs of which each side has its property
pub lanes_agree : (f g : ℕ → ℕ → ℕ) (A B : ℕ → Type 0) → ((x y : ℕ) → A x → B y → f x y ≡ g x y)
    → (a b : List ℕ) → Each1 A a → Each1 B b → zip2 f a b ≡ zip2 g a b
lanes_agree f g A B agree [] b p q = refl
lanes_agree f g A B agree (x ∷ a) [] p q = refl
lanes_agree f g A B agree (x ∷ a) (y ∷ b) p q = λ i. (agree x y p.0 q.0 i) ∷ (lanes_agree f g A B agree a b p.1 q.1 i)

pub reduction_lanes : (n : ℕ) (l h : List ℕ) → length l ≡ n → length h ≡ n → Each1 (Fits w64) l → Each1 (Fits w64) h
    → zip2 sum_of_words (zip2 difference_of_words l (map upper h)) (zip2 times (map lower h) (replicate n 4294967295)) ≡ zip2 reduced l h
reduction_lanes zero [] [] e k f g = refl
reduction_lanes zero (x ∷ l) h e k f g = absurd (omega arith)
reduction_lanes zero [] (y ∷ h) e k f g = absurd (omega arith)
reduction_lanes (suc n) [] h e k f g = absurd (omega arith)
reduction_lanes (suc n) (x ∷ l) [] e k f g = absurd (omega arith)
reduction_lanes (suc n) (x ∷ l) (y ∷ h) e k f g = λ i. (reduced_is x y f.0.fits g.0.fits i) ∷ (reduction_lanes n l h (omega arith) (omega arith) f.1 g.1 i)

abbrev pub lowest : List ℕ → List ℕ → List ℕ
lowest a b = zip2 times (map lower a) (map lower b)

abbrev pub crossed : List ℕ → List ℕ → List ℕ
crossed a b = zip2 plus (zip2 times (map upper a) (map lower b)) (map upper (lowest a b))

abbrev pub middle : List ℕ → List ℕ → List ℕ
middle a b = zip2 plus (zip2 times (map lower a) (map upper b)) (map lower (crossed a b))

abbrev pub lower_words : List ℕ → List ℕ → List ℕ
lower_words a b = zip2 plus (map lower (lowest a b)) (map raised (middle a b))

abbrev pub upper_words : List ℕ → List ℕ → List ℕ
upper_words a b = zip2 plus (zip2 plus (zip2 times (map upper a) (map upper b)) (map upper (crossed a b))) (map upper (middle a b))

pub product_lanes : (n : ℕ) (a b : List ℕ) → length a ≡ n → length b ≡ n → Each1 (Fits w64) a → Each1 (Fits w64) b
    → zip2 reduced (lower_words a b) (upper_words a b) ≡ zip2 product a b
product_lanes zero [] [] e h f g = refl
product_lanes zero (x ∷ a) b e h f g = absurd (omega arith)
product_lanes zero [] (y ∷ b) e h f g = absurd (omega arith)
product_lanes (suc n) [] b e h f g = absurd (omega arith)
product_lanes (suc n) (x ∷ a) [] e h f g = absurd (omega arith)
product_lanes (suc n) (x ∷ a) (y ∷ b) e h f g = λ i. (product_of_words x y f.0.fits g.0.fits i) ∷ (product_lanes n a b (omega arith) (omega arith) f.1 g.1 i)

pub shifted_lanes : (n : ℕ) (a : List ℕ) → length a ≡ n → Each1 (Fits w64) a
    → zip2 reduced (zip2 (λ x y. x * 2 ^ y % 2 ^ 64) a (replicate n 48)) (zip2 (λ x y. x / 2 ^ y) a (replicate n 16)) ≡ map (λ x. x * 2 ^ 48 % P) a
shifted_lanes zero [] e f = refl
shifted_lanes zero (x ∷ a) e f = absurd (omega arith)
shifted_lanes (suc n) [] e f = absurd (omega arith)
shifted_lanes (suc n) (x ∷ a) e f = λ i. (shifted_words x f.0.fits i) ∷ (shifted_lanes n a (omega arith) f.1 i)

-- an operation whose values are all below P
pub all_below : (f : ℕ → ℕ → ℕ) → ((x y : ℕ) → f x y < P) → (a b : List ℕ) → Each1 (λ x. x < P) (zip2 f a b)
all_below f below [] b = tt {0}
all_below f below (x ∷ a) [] = tt {0}
all_below f below (x ∷ a) (y ∷ b) = (below x y, all_below f below a b)
