-- Rows that truth values mark: how many, and how many of them are among others.
use Rattle.std.proofs.Common.{◌≡◌, ◌∙◌, inl, inr, ℕ, zero, suc, ◌+◌, ◌<◌, ◌≤◌, List, [], ◌∷◌, Bool, true, false, not, cond, length, map, get_or, refl, sym, ap, true≢false, arith}
use Rattle.std.proofs.lemmas.Bool.{cases_Bool}
use Rattle.std.proofs.lemmas.List.{get_or_default, same_lists}
use Rattle.std.proofs.lemmas.List.FromFn.{length-map-range_with_len, get_or-map-range_with_len}
use Rattle.std.proofs.lemmas.List.Sums.{sum_by-cons, length-filter}
use Rattle.std.specs.List.{Contains, range_with_len, filter, count_by}
use Rattle.std.specs.List.Sorted.{IsStrictlyIncreasing}
use Rattle.math_theory.specs.Recovery.{count_true, filled_items, filled_places}
use Rattle.math_theory.proofs.domains.FilledProducts.{filled_place-true, filled_place-rise, filled_place-found, filled_items-map, filled_items-place}
use Rattle.math_theory.proofs.recovery.FilledItems.{count_true-true, count_true-false}
use Rattle.math_transforms.proofs.PresentIndices.{length-places, place-number}

-- what the one marks, the other marks too
abbrev pub AreAmong : List Bool → List Bool → Type 0
AreAmong bs cs = (i : ℕ) → get_or bs i false ≡ true → get_or cs i false ≡ true

-- no place is marked
count_true-none : (bs : List Bool) → ((i : ℕ) → get_or bs i false ≡ true → ⊥) → count_true bs ≡ 0
count_true-none [] h = refl
count_true-none (true ∷ bs) h = absurd (h 0 refl)
count_true-none (false ∷ bs) h = count_true-false bs ∙ count_true-none bs (λ i t. h (suc i) t)

pub inside-true : (bs : List Bool) (i : ℕ) → get_or bs i false ≡ true → i < length bs
inside-true [] i t = absurd (true≢false (sym t))
inside-true (b ∷ bs) zero t = omega arith
inside-true (b ∷ bs) (suc i) t = omega (arith, inside-true bs i t)

pub count-among : (bs cs : List Bool) → AreAmong bs cs → count_true bs ≤ count_true cs
count-among [] cs h = let z : count_true [] ≡ 0 = refl in omega (arith, z)
count-among (b ∷ bs) [] h = omega (arith, count_true-none (b ∷ bs) (λ i t. true≢false (sym (h i t))))
count-among (true ∷ bs) (true ∷ cs) h = omega (arith, count_true-true bs, count_true-true cs, count-among bs cs (λ i t. h (suc i) t))
count-among (true ∷ bs) (false ∷ cs) h = absurd (true≢false (sym (h 0 refl)))
count-among (false ∷ bs) (true ∷ cs) h = omega (arith, count_true-false bs, count_true-true cs, count-among bs cs (λ i t. h (suc i) t))
count-among (false ∷ bs) (false ∷ cs) h = omega (arith, count_true-false bs, count_true-false cs, count-among bs cs (λ i t. h (suc i) t))

some_true : (bs : List Bool) (i : ℕ) → get_or bs i false ≡ true → 0 < count_true bs
some_true [] i t = absurd (true≢false (sym t))
some_true (true ∷ bs) i t = omega (arith, count_true-true bs)
some_true (false ∷ bs) zero t = absurd (true≢false (sym t))
some_true (false ∷ bs) (suc i) t = omega (arith, count_true-false bs, some_true bs i t)

-- where no fewer are marked, all are
pub among-back : (bs cs : List Bool) → AreAmong bs cs → count_true cs ≤ count_true bs → AreAmong cs bs
among-back [] cs h l i t = let z : count_true [] ≡ 0 = refl in absurd (omega (arith, z, l, some_true cs i t))
among-back (b ∷ bs) [] h l i t = absurd (true≢false (sym t))
among-back (true ∷ bs) (true ∷ cs) h l zero t = refl
among-back (true ∷ bs) (true ∷ cs) h l (suc i) t = among-back bs cs (λ j s. h (suc j) s) (omega (arith, l, count_true-true bs, count_true-true cs)) i t
among-back (true ∷ bs) (false ∷ cs) h l i t = absurd (true≢false (sym (h 0 refl)))
among-back (false ∷ bs) (true ∷ cs) h l i t = absurd (omega (arith, l, count_true-false bs, count_true-true cs, count-among bs cs (λ j s. h (suc j) s)))
among-back (false ∷ bs) (false ∷ cs) h l zero t = t
among-back (false ∷ bs) (false ∷ cs) h l (suc i) t = among-back bs cs (λ j s. h (suc j) s) (omega (arith, l, count_true-false bs, count_true-false cs)) i t

-- of the places that cs marks, bs marks as many as it marks in all
pub count-marked_among : (bs cs : List Bool) → length bs ≡ length cs → AreAmong bs cs → count_true (filled_items bs cs) ≡ count_true bs
count-marked_among [] cs e h = refl
count-marked_among (b ∷ bs) [] e h = absurd (omega (arith, e))
count-marked_among (true ∷ bs) (true ∷ cs) e h =
    omega (arith, count_true-true bs, count_true-true (filled_items bs cs), count-marked_among bs cs (omega (arith, e)) (λ i t. h (suc i) t))
count-marked_among (false ∷ bs) (true ∷ cs) e h =
    omega (arith, count_true-false bs, count_true-false (filled_items bs cs), count-marked_among bs cs (omega (arith, e)) (λ i t. h (suc i) t))
count-marked_among (true ∷ bs) (false ∷ cs) e h = absurd (true≢false (sym (h 0 refl)))
count-marked_among (false ∷ bs) (false ∷ cs) e h = omega (arith, count_true-false bs, count-marked_among bs cs (omega (arith, e)) (λ i t. h (suc i) t))

pub count-not : (bs : List Bool) → count_true (map not bs) + count_true bs ≡ length bs
count-not [] = refl
count-not (true ∷ bs) = omega (arith, count_true-true bs, count_true-false (map not bs), count-not bs)
count-not (false ∷ bs) = omega (arith, count_true-false bs, count_true-true (map not bs), count-not bs)

-- a marked place is in the list of them
pub contains-place : (bs : List Bool) (i : ℕ) → get_or bs i false ≡ true → Contains (filled_places bs) i
contains-place bs i t =
    let (k, l, e) = filled_place-found bs i (inside-true bs i t) t in
    let m : k < length (filled_places bs) = omega (arith, l, length-places bs) in
    (k, m, get_or_default (filled_places bs) k i 0 m ∙ place-number bs k l ∙ e)

-- what stands in that list is marked
pub place-marked : (bs : List Bool) (j : ℕ) → j < count_true bs → get_or bs (get_or (filled_places bs) j 0) false ≡ true
place-marked bs j l = ap (λ i. get_or bs i false) (place-number bs j l) ∙ (filled_place-true bs j l).1

pub rising-places : (bs : List Bool) → IsStrictlyIncreasing (filled_places bs)
rising-places bs k l = grind (arith, length-places, place-number, filled_place-rise)

-- the truth values of bs at the places that cs marks
pub items-at_places : (bs cs : List Bool) (j : ℕ) → length bs ≡ length cs → j < count_true cs → get_or (filled_items bs cs) j false ≡ get_or bs (get_or (filled_places cs) j 0) false
items-at_places bs cs j e l = filled_items-place bs cs j false (sym e) l ∙ sym (ap (λ i. get_or bs i false) (place-number cs j l))

pub map-places : (bs cs : List Bool) → length bs ≡ length cs → map (λ i. get_or bs i false) (filled_places cs) ≡ filled_items bs cs
map-places bs cs e =
    let f : ℕ → Bool = λ i. get_or bs i false in
    sym (filled_items-map f (range_with_len 0 (length cs)) cs)
    ∙ ap (λ xs. filled_items xs cs)
    (same_lists (map f (range_with_len 0 (length cs))) bs (length-map-range_with_len f 0 (length cs) ∙ sym e)
    (λ k d l. let m : k < length cs = omega (arith, l, length-map-range_with_len f 0 (length cs)) in
    get_or-map-range_with_len f 0 (length cs) k k d m (omega arith) ∙ get_or_default bs k false d (omega (arith, m, e))))

count_by-both : (f : ℕ → Bool) (xs : List ℕ) → count_by (λ x. not (f x)) xs + count_true (map f xs) ≡ length xs
count_by-both f [] = refl
count_by-both f (x ∷ xs) =
    let a : count_by (λ y. not (f y)) (x ∷ xs) ≡ cond (not (f x)) 1 0 + count_by (λ y. not (f y)) xs = sum_by-cons (λ y. cond (not (f y)) 1 0) x xs in
    let b : count_true (f x ∷ map f xs) ≡ cond (f x) 1 0 + count_true (map f xs) = sum_by-cons (λ b. cond b 1 0) (f x) (map f xs) in
    let one : cond (not (f x)) 1 0 + cond (f x) 1 0 ≡ 1 = by_cases (f x) in
    omega (arith, a, b, one, count_by-both f xs)
  where
    by_cases : (b : Bool) → cond (not b) 1 0 + cond b 1 0 ≡ 1
    by_cases true = refl
    by_cases false = refl

-- of the rows that cs marks, those that bs does not mark are all but those that it marks
pub count-dropped : (bs cs : List Bool) → length bs ≡ length cs → AreAmong bs cs
    → length (filter (λ i. not (get_or bs i false)) (filled_places cs)) + count_true bs ≡ count_true cs
count-dropped bs cs e h =
    omega (
      arith,
      length-filter (λ i. not (get_or bs i false)) (filled_places cs),
      count_by-both (λ i. get_or bs i false) (filled_places cs),
      ap count_true (map-places bs cs e),
      count-marked_among bs cs e h,
      length-places cs,
    )

-- what passes a test stands among what is filtered by it
pub contains-filtered : (p : ℕ → Bool) (xs : List ℕ) (x : ℕ) → Contains xs x → p x ≡ true → Contains (filter p xs) x
contains-filtered p [] x (k, l, e) t = absurd (omega (arith, l))
contains-filtered p (y ∷ xs) x c t = elim (cases_Bool (p y)) [
  | inl h ↦ rw h (first c (λ m. contains-filtered p xs x m t))
  | inr h ↦ rw h (other c h (λ m. contains-filtered p xs x m t))
]
  where
    first : Contains (y ∷ xs) x → (Contains xs x → Contains (filter p xs) x) → Contains (y ∷ filter p xs) x
    first (zero, l, e) rest = (0, omega arith, e)
    first (suc k, l, e) rest = let (j, m, f) = rest (k, omega (arith, l), e) in (suc j, omega (arith, m), f)

    other : Contains (y ∷ xs) x → p y ≡ false → (Contains xs x → Contains (filter p xs) x) → Contains (filter p xs) x
    other (zero, l, e) h rest = absurd (true≢false (sym (ap p e ∙ t) ∙ h))
    other (suc k, l, e) h rest = rest (k, omega (arith, l), e)
