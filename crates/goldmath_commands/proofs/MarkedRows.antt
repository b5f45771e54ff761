-- Truth values that mark the rows which were looked at.
use Rattle.std.proofs.Common.{◌≡◌, ◌≢◌, ℕ, ◌+◌, ◌<◌, Bool, true, false, cond, List, length, get_or, set, sym, ◌∙◌, ap, subst, arith, inl, inr}
use Rattle.std.proofs.lemmas.Bool.{false≢true, cases_lt, cases_eq}
use Rattle.std.proofs.lemmas.List.{get_or-set_same, get_or-set_other}
use Rattle.std.proofs.lemmas.Grind.{get_or_default_zero}
use Rattle.std.proofs.lemmas.List.Sums.{sum_by-set}
use Rattle.math_theory.specs.Recovery.{count_true}
use Rattle.goldmath_commands.specs.Recoveries.{MarksFirst}

-- one row more
pub marks_more : (rows : List ℕ) (n : ℕ) (marks : List Bool) → MarksFirst rows n marks → get_or rows n 0 < length marks → MarksFirst rows (n + 1) (set marks (get_or rows n 0) true)
marks_more rows n marks h l = record {
  marked = λ k m. elim (cases_eq (get_or rows k 0) (get_or rows n 0)) [
    | inl e ↦ subst (λ p. get_or (set marks (get_or rows n 0) true) p false ≡ true) (sym e) (get_or-set_same marks (get_or rows n 0) true false l)
    | inr e ↦ get_or-set_other marks (get_or rows n 0) (get_or rows k 0) true false e ∙ h.marked k (before k m e)
  ];
  only = λ p e. elim (cases_eq p (get_or rows n 0)) [
    | inl f ↦ (n, omega arith, sym f)
    | inr f ↦ let found = h.only p (sym (get_or-set_other marks (get_or rows n 0) p true false f) ∙ e) in (found.0, omega (arith, found.1), found.2)
  ];
}
  where
    before : (k : ℕ) → k < n + 1 → get_or rows k 0 ≢ (get_or rows n 0) → k < n
    before k m e = elim (cases_lt k n) [ inl s ↦ s | inr s ↦ absurd (e (ap (λ i. get_or rows i 0) (omega arith))) ]

-- a row that is not marked is none of the first n
pub unmarked_apart : (rows : List ℕ) (n : ℕ) (marks : List Bool) → MarksFirst rows n marks → get_or marks (get_or rows n 0) false ≡ false → (k : ℕ) → k < n → get_or rows k 0 ≢ get_or rows n 0
unmarked_apart rows n marks h e k l f = false≢true (sym e ∙ ap (λ p. get_or marks p false) (sym f) ∙ h.marked k l)

abbrev weight : Bool → ℕ
weight b = cond b 1 0

-- as many are marked as rows were looked at, where none of these was marked before
pub count_marked : (marks : List Bool) (p n : ℕ) → p < length marks → get_or marks p false ≡ false → count_true marks ≡ n → count_true (set marks p true) ≡ n + 1
count_marked marks p n l e c =
    let step : count_true (set marks p true) + weight (get_or marks p false) ≡ count_true marks + 1 = sum_by-set weight marks p true false l in
    let none : weight (get_or marks p false) ≡ 0 = ap weight e in
    omega arith

-- the first n rows are distinct, and row n is marked by none of them: so the first n + 1 are
pub distinct_more : (rows : List ℕ) (n : ℕ) (marks : List Bool) → MarksFirst rows n marks → get_or marks (get_or rows n 0) false ≡ false
    → ((i j : ℕ) → i < j → j < n → get_or rows i 0 ≢ get_or rows j 0) → (i j : ℕ) → i < j → j < n + 1 → get_or rows i 0 ≢ get_or rows j 0
distinct_more rows n marks h new before i j l m = elim (cases_lt j n) [
  | inl s ↦ before i j l s
  | inr s ↦ let here : j ≡ n = omega arith in λ e. unmarked_apart rows n marks h new i (omega arith) (e ∙ ap (λ k. get_or rows k 0) here)
]

-- by any default, where both places are there
pub distinct_at : (rows : List ℕ) (i j d : ℕ) → i < j → j < length rows → get_or rows i d ≡ get_or rows j d → get_or rows i 0 ≡ get_or rows j 0
distinct_at rows i j d l m e = sym (get_or_default_zero rows i d (omega arith)) ∙ e ∙ get_or_default_zero rows j d m
