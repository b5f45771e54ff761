-- Numbers that stand among others, and points that are marked but for some.
use Rattle.std.proofs.Common.{◌≡◌, ◌≢◌, ◌∙◌, inl, inr, ℕ, zero, suc, ◌+◌, ◌<◌, ◌≤◌, List, [], ◌∷◌, ◌++◌, Bool, true, false, not, eqb, length, get_or, refl, sym, ap, true≢false, arith}
use Rattle.std.proofs.Math.ListN.{set}
use Rattle.std.specs.List.{All, Contains, filter, list_any}
use Rattle.std.proofs.lemmas.Bool.{both_ways, cases_Bool, cases_eq, cases_lt, eq-eqb, eqb-true, not-false, not-true}
use Rattle.std.proofs.lemmas.List.{get_or-set_other, get_or-set_same, get_or_default, length-append, length-set}
use Rattle.std.proofs.lemmas.List.Elements.{Contains-append_left, Contains-append_right}
use Rattle.std.proofs.lemmas.List.Folds.{Any-from_list_any, list_any_at}
use Rattle.math_numbers.proofs.Pigeonhole.{pigeonhole}
use Rattle.math_ntt.proofs.MarkedRows.{contains-filtered, inside-true}
use Rattle.math_restoring.specs.Restored.{AreDistinct}
use Rattle.math_theory.specs.Recovery.{count_true}
use Rattle.math_theory.proofs.recovery.FilledItems.{count_true-false, count_true-true}

-- distinct numbers, each of which stands among others, are no more than these
pub distinct-among : (xs ys : List ℕ) → AreDistinct xs → All (Contains ys) xs → length xs ≤ length ys
distinct-among xs ys distinct among = elim (cases_lt (length ys) (length xs)) as (λ _. length xs ≤ length ys) [
  | inl more ↦
      let pick : (j : ℕ) → (p : ℕ) × (j < length xs → (p < length ys) × (get_or ys p 0 ≡ get_or xs j 0)) =
      λ j. elim (cases_lt j (length xs)) as (λ _. (p : ℕ) × (j < length xs → (p < length ys) × (get_or ys p 0 ≡ get_or xs j 0))) [
        | inl l ↦ let (p, m, e) = among j 0 l in (p, λ _. (m, get_or_default ys p 0 (get_or xs j 0) m ∙ e))
        | inr l ↦ (0, λ b. absurd (omega (arith, b, l)))
      ] in
      absurd (pigeonhole (length xs) (length ys) (λ j. (pick j).0) more (λ j l. ((pick j).1 l).0)
      (λ i j before l same.
      distinct i j before l (sym ((pick i).1 (omega (arith, before, l))).1 ∙ ap (λ p. get_or ys p 0) same ∙ ((pick j).1 l).1)))
  | inr few ↦ few
]

-- whether the number is none of these
abbrev pub is_outside : List ℕ → ℕ → Bool
is_outside numbers i = not (list_any (λ n. eqb n i) numbers)

pub outside-missing : (numbers : List ℕ) (i : ℕ) → is_outside numbers i ≡ true → ¬ (Contains numbers i)
outside-missing numbers i h c =
    both_ways (list_any (λ n. eqb n i) numbers) (not-true (list_any (λ n. eqb n i) numbers) h) (list_any_at (λ n. eqb n i) numbers c.0 i c.1 (eq-eqb (get_or numbers c.0 i) i c.2))

inside-there : (numbers : List ℕ) (i : ℕ) → is_outside numbers i ≡ false → Contains numbers i
inside-there numbers i h =
    let found = Any-from_list_any (λ n. eqb n i) numbers (not-false (list_any (λ n. eqb n i) numbers) h) in
    (found.0, found.2, get_or_default numbers found.0 i found.1 found.2 ∙ found.3 ∙ eqb-true found.1 i found.4)

-- of distinct numbers at most so many stand among others as these are
pub outside-many : (numbers xs : List ℕ) → AreDistinct xs → length xs ≤ length (filter (is_outside numbers) xs) + length numbers
outside-many numbers xs distinct =
    let kept : List ℕ = filter (is_outside numbers) xs in
    let few : length xs ≤ length (kept ++ numbers) =
    distinct-among xs (kept ++ numbers) distinct
    (λ k d l. let x : ℕ = get_or xs k d in
    elim (cases_Bool (is_outside numbers x)) as (λ _. Contains (kept ++ numbers) x) [
      | inl out ↦ Contains-append_left kept numbers x (contains-filtered (is_outside numbers) xs x (k, l, get_or_default xs k x d l) out)
      | inr there ↦ Contains-append_right kept numbers x (inside-there numbers x there)
    ]) in
    omega (arith, few, length-append kept numbers)

-- the points, none of those of these numbers being marked
abbrev pub without : List ℕ → List Bool → List Bool
without [] points = points
without (i ∷ numbers) points = set (without numbers points) i false

pub length-without : (numbers : List ℕ) (points : List Bool) → length (without numbers points) ≡ length points
length-without [] points = refl
length-without (i ∷ numbers) points = length-set (without numbers points) i false ∙ length-without numbers points

-- what is marked was marked, and has none of the numbers
pub without-marked : (numbers : List ℕ) (points : List Bool) (i : ℕ) → get_or (without numbers points) i false ≡ true → (get_or points i false ≡ true) × ¬ (Contains numbers i)
without-marked [] points i t = (t, λ c. omega (arith, c.1))
without-marked (n ∷ numbers) points i t = elim (cases_eq i n) as (λ _. (get_or points i false ≡ true) × ¬ (Contains (n ∷ numbers) i)) [
  | inl here ↦
      let l : n < length (without numbers points) = omega (arith, here, inside-true (set (without numbers points) n false) i t, length-set (without numbers points) n false) in
      absurd (true≢false (sym t ∙ ap (λ k. get_or (set (without numbers points) n false) k false) here ∙ get_or-set_same (without numbers points) n false false l))
  | inr other ↦
      let rest = without-marked numbers points i (sym (get_or-set_other (without numbers points) n i false false other) ∙ t) in
      (rest.0, apart n numbers i other rest.1)
]
  where
    apart : (n : ℕ) (numbers : List ℕ) (i : ℕ) → i ≢ n → ¬ (Contains numbers i) → ¬ (Contains (n ∷ numbers) i)
    apart n numbers i other none (zero, l, e) = other (sym e)
    apart n numbers i other none (suc k, l, e) = none (k, omega (arith, l), e)

count-unmarked : (points : List Bool) (i : ℕ) → count_true points ≤ count_true (set points i false) + 1
count-unmarked [] i = let z : count_true [] ≡ 0 = refl in omega (arith, z)
count-unmarked (true ∷ points) zero = omega (arith, count_true-true points, count_true-false points)
count-unmarked (false ∷ points) zero = omega arith
count-unmarked (true ∷ points) (suc i) = omega (arith, count_true-true points, count_true-true (set points i false), count-unmarked points i)
count-unmarked (false ∷ points) (suc i) = omega (arith, count_true-false points, count_true-false (set points i false), count-unmarked points i)

-- at most so many marks go as there are numbers
pub count-without : (numbers : List ℕ) (points : List Bool) → count_true points ≤ count_true (without numbers points) + length numbers
count-without [] points = omega arith
count-without (i ∷ numbers) points = omega (arith, count-without numbers points, count-unmarked (without numbers points) i)
