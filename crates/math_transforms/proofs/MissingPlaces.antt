-- Every so many places of a list of truth values, and how many of them are false.
use Rattle.std.proofs.Common.{◌≡◌, ◌∙◌, ℕ, zero, suc, ◌+◌, ◌-◌, ◌*◌, ◌<◌, ◌≤◌, Bool, true, false, not, cond, List, [], ◌∷◌, ◌++◌, length, map, replicate, get_or, refl, sym, ap, Some, slice_get, arith}
use Rattle.std.proofs.lemmas.List.{map-append, same_lists}
use Rattle.std.proofs.lemmas.List.FromFn.{length-map-range_with_len, get_or-map-range_with_len}
use Rattle.std.proofs.lemmas.List.Sums.{sum_by-cons, sum_by-append}
use Rattle.std.proofs.lemmas.Option.{get_or_from_slice_get}
use Rattle.std.specs.List.{range_with_len}
use Rattle.math_theory.specs.BitReversal.{even_items, odd_items}
use Rattle.math_theory.specs.Recovery.{count_true}
use Rattle.math_theory.proofs.transforms.EvenOddItems.{interleaved-even_odd, length-even_items, length-odd_items, get_or-interleaved_even, get_or-interleaved_odd}
use Rattle.math_theory.proofs.recovery.FilledItems.{count_true-true, count_true-false}
use Rattle.math_theory.proofs.lists.ListMaps.{range-append}
use Rattle.math_transforms.specs.MissingPoints.{count_false, every}

module _ (start stride : ℕ) (filled : List Bool) where
  abbrev place : ℕ → Bool
  place j = get_or filled (start + j * stride) false

  pub length-every : (n : ℕ) → length (every start stride n filled) ≡ n
  unfolding every
  length-every n = length-map-range_with_len place 0 n

  pub get_or-every : (n j : ℕ) (d : Bool) → j < n → get_or (every start stride n filled) j d ≡ get_or filled (start + j * stride) false
  unfolding every
  get_or-every n j d l = get_or-map-range_with_len place 0 n j j d l (omega arith)

  pub every-none : every start stride 0 filled ≡ []
  unfolding every
  every-none = refl

  -- one place more
  pub every-more : (n : ℕ) → every start stride (n + 1) filled ≡ every start stride n filled ++ (get_or filled (start + n * stride) false ∷ [])
  unfolding every
  every-more n =
      ap (map place) (range-append 0 n 1) ∙ map-append place (range_with_len 0 n) (range_with_len (0 + n) 1)
      ∙ ap (λ m. map place (range_with_len 0 n) ++ (place m ∷ [])) (let e : 0 + n ≡ n = omega arith in e)

-- one place more, which is b
pub every-next : (start stride : ℕ) (filled : List Bool) (n : ℕ) (b : Bool) → slice_get filled (start + n * stride) ≡ Some b
    → every start stride (n + 1) filled ≡ every start stride n filled ++ (b ∷ [])
every-next start stride filled n b h = every-more start stride filled n ∙ ap (λ x. every start stride n filled ++ (x ∷ [])) (get_or_from_slice_get filled (start + n * stride) b false h)

get_or-even_items : (xs : List Bool) (n i : ℕ) → length xs ≡ n + n → get_or (even_items xs) i false ≡ get_or xs (i + i) false
get_or-even_items xs n i l =
    sym (get_or-interleaved_even false (even_items xs) (odd_items xs) i (length-even_items n xs l ∙ sym (length-odd_items n xs l))) ∙ ap (λ ys. get_or ys (i + i) false) (interleaved-even_odd xs)

get_or-odd_items : (xs : List Bool) (n i : ℕ) → length xs ≡ n + n → get_or (odd_items xs) i false ≡ get_or xs (suc (i + i)) false
get_or-odd_items xs n i l =
    sym (get_or-interleaved_odd false (even_items xs) (odd_items xs) i (length-even_items n xs l ∙ sym (length-odd_items n xs l))) ∙ ap (λ ys. get_or ys (suc (i + i)) false) (interleaved-even_odd xs)

at_false : (xs : List Bool) (i : ℕ) (d : Bool) → i < length xs → get_or xs i d ≡ get_or xs i false
at_false [] i d l = absurd (omega arith)
at_false (x ∷ xs) zero d l = refl
at_false (x ∷ xs) (suc i) d l = at_false xs i d (omega arith)

-- the even places are twice as far apart, and so are the odd ones, which begin one stride later
pub even_items-every : (start stride : ℕ) (filled : List Bool) (n m : ℕ) → m ≡ n + n → even_items (every start stride m filled) ≡ every start (stride * 2) n filled
even_items-every start stride filled n m e =
    let whole : length (every start stride m filled) ≡ n + n = length-every start stride filled m ∙ e in
    let long : length (even_items (every start stride m filled)) ≡ n = length-even_items n (every start stride m filled) whole in
    same_lists (even_items (every start stride m filled)) (every start (stride * 2) n filled) (long ∙ sym (length-every start (stride * 2) filled n))
    (λ k d l. let inside : k < n = omega (arith, l, long) in
    at_false (even_items (every start stride m filled)) k d l ∙ get_or-even_items (every start stride m filled) n k whole ∙ get_or-every start stride filled m (k + k) false (omega arith)
    ∙ ap (λ i. get_or filled i false) (let q : start + (k + k) * stride ≡ start + k * (stride * 2) = grind arith in q) ∙ sym (get_or-every start (stride * 2) filled n k d inside))

pub odd_items-every : (start stride : ℕ) (filled : List Bool) (n m : ℕ) → m ≡ n + n → odd_items (every start stride m filled) ≡ every (start + stride) (stride * 2) n filled
odd_items-every start stride filled n m e =
    let whole : length (every start stride m filled) ≡ n + n = length-every start stride filled m ∙ e in
    let long : length (odd_items (every start stride m filled)) ≡ n = length-odd_items n (every start stride m filled) whole in
    same_lists (odd_items (every start stride m filled)) (every (start + stride) (stride * 2) n filled) (long ∙ sym (length-every (start + stride) (stride * 2) filled n))
    (λ k d l. let inside : k < n = omega (arith, l, long) in
    at_false (odd_items (every start stride m filled)) k d l ∙ get_or-odd_items (every start stride m filled) n k whole ∙ get_or-every start stride filled m (suc (k + k)) false (omega arith)
    ∙ ap (λ i. get_or filled i false) (let q : start + suc (k + k) * stride ≡ start + stride + k * (stride * 2) = grind arith in q)
    ∙ sym (get_or-every (start + stride) (stride * 2) filled n k d inside))

-- all places
pub every-whole : (filled : List Bool) (n : ℕ) → length filled ≡ n → every 0 1 n filled ≡ filled
every-whole filled n e =
    same_lists (every 0 1 n filled) filled (length-every 0 1 filled n ∙ sym e)
    (λ k d l. let inside : k < n = omega (arith, l, length-every 0 1 filled n) in
    get_or-every 0 1 filled n k d inside ∙ ap (λ i. get_or filled i false) (let q : 0 + k * 1 ≡ k = omega arith in q) ∙ sym (at_false filled k d (omega (arith, inside, e))))

count_false-cons : (b : Bool) (xs : List Bool) → count_false (b ∷ xs) ≡ cond (not b) 1 0 + count_false xs
count_false-cons b xs = sum_by-cons (λ b. cond (not b) 1 0) b xs

count_false-push : (xs : List Bool) (b : Bool) → count_false (xs ++ (b ∷ [])) ≡ count_false xs + count_false (b ∷ [])
count_false-push xs b = sum_by-append (λ b. cond (not b) 1 0) xs (b ∷ [])

pub count_false-none : count_false [] ≡ 0
count_false-none = refl

pub count_false-filled : (xs : List Bool) → count_false (xs ++ (true ∷ [])) ≡ count_false xs
count_false-filled xs = omega (arith, count_false-push xs true, count_false-cons true [], count_false-none)

pub count_false-missing : (xs : List Bool) → count_false (xs ++ (false ∷ [])) ≡ count_false xs + 1
count_false-missing xs = omega (arith, count_false-push xs false, count_false-cons false [], count_false-none)

pub count_both : (xs : List Bool) → count_true xs + count_false xs ≡ length xs
count_both [] = refl
count_both (true ∷ xs) = omega (arith, count_true-true xs, count_false-cons true xs, count_both xs)
count_both (false ∷ xs) = omega (arith, count_true-false xs, count_false-cons false xs, count_both xs)

-- where none is false, and where all are
pub all_filled : (xs : List Bool) (n : ℕ) → length xs ≡ n → count_false xs ≡ 0 → xs ≡ replicate n true
all_filled [] zero l h = refl
all_filled [] (suc n) l h = absurd (omega (arith, l))
all_filled (true ∷ xs) zero l h = absurd (omega (arith, l))
all_filled (true ∷ xs) (suc n) l h = ap (λ ys. true ∷ ys) (all_filled xs n (omega (arith, l)) (omega (arith, h, count_false-cons true xs)))
all_filled (false ∷ xs) n l h = absurd (omega (arith, h, count_false-cons false xs))

pub all_missing : (xs : List Bool) (n : ℕ) → length xs ≡ n → count_true xs ≡ 0 → xs ≡ replicate n false
all_missing [] zero l h = refl
all_missing [] (suc n) l h = absurd (omega (arith, l))
all_missing (false ∷ xs) zero l h = absurd (omega (arith, l))
all_missing (false ∷ xs) (suc n) l h = ap (λ ys. false ∷ ys) (all_missing xs n (omega (arith, l)) (omega (arith, h, count_true-false xs)))
all_missing (true ∷ xs) n l h = absurd (omega (arith, h, count_true-true xs))

-- the true places are those of even and those of odd index
pub count_true-halves : (xs : List Bool) → count_true xs ≡ count_true (even_items xs) + count_true (odd_items xs)
count_true-halves [] = refl
count_true-halves (true ∷ []) = omega (arith, count_true-true [])
count_true-halves (false ∷ []) = omega (arith, count_true-false [])
count_true-halves (true ∷ true ∷ xs) = omega (arith, count_true-true (true ∷ xs), count_true-true xs, count_true-true (even_items xs), count_true-true (odd_items xs), count_true-halves xs)
count_true-halves (true ∷ false ∷ xs) = omega (arith, count_true-true (false ∷ xs), count_true-false xs, count_true-true (even_items xs), count_true-false (odd_items xs), count_true-halves xs)
count_true-halves (false ∷ true ∷ xs) = omega (arith, count_true-false (true ∷ xs), count_true-true xs, count_true-false (even_items xs), count_true-true (odd_items xs), count_true-halves xs)
count_true-halves (false ∷ false ∷ xs) = omega (arith, count_true-false (false ∷ xs), count_true-false xs, count_true-false (even_items xs), count_true-false (odd_items xs), count_true-halves xs)

pub count_false-within : (start stride : ℕ) (filled : List Bool) (n : ℕ) → count_false (every start stride n filled) ≤ n
count_false-within start stride filled n = omega (arith, count_both (every start stride n filled), length-every start stride filled n)

pub place-within : (start stride count total j : ℕ) → start < stride → count * stride ≡ total → j < count → start + j * stride < total
place-within start stride count total j s e l = grind arith

module _ (start stride : ℕ) (filled : List Bool) (n : ℕ) where
  abbrev places : ℕ → List Bool
  places m = every start stride m filled

  pub count_false-start : 0 ≡ count_false (places 0)
  count_false-start = sym (ap count_false (every-none start stride filled))

  pub count_false-next_missing : slice_get filled (start + n * stride) ≡ Some false → count_false (places (n + 1)) ≡ count_false (places n) + 1
  count_false-next_missing h = ap count_false (every-next start stride filled n false h) ∙ count_false-missing (places n)

  pub count_false-next_filled : slice_get filled (start + n * stride) ≡ Some true → count_false (places (n + 1)) ≡ count_false (places n)
  count_false-next_filled h = ap count_false (every-next start stride filled n true h) ∙ count_false-filled (places n)

  rises-by : (m d : ℕ) → count_false (places m) ≤ count_false (places (m + d))
  rises-by m zero = let e : m + 0 ≡ m = omega arith in rw e (omega arith)
  rises-by m (suc d) =
      let e : m + suc d ≡ m + d + 1 = omega arith in
      rw e (omega (arith, rises-by m d, ap count_false (every-more start stride filled (m + d)), count_false-push (places (m + d)) (get_or filled (start + (m + d) * stride) false)))

  -- among more places there are no fewer
  pub count_false-rises : (m : ℕ) → m ≤ n → count_false (places m) ≤ count_false (places n)
  count_false-rises m h = let e : m + (n - m) ≡ n = omega arith in rw e at (rises-by m (n - m))

-- of n filled places n are filled
pub count_true-all : (n : ℕ) → count_true (replicate n true) ≡ n
count_true-all zero = refl
count_true-all (suc n) = count_true-true (replicate n true) ∙ ap suc (count_true-all n)
