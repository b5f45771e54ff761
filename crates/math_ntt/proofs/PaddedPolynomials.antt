-- The columns of a matrix that is filled up with rows of zeros.
use Rattle.std.proofs.Common.{◌≡◌, ◌∙◌, inl, inr, ℕ, suc, ◌+◌, ◌-◌, ◌*◌, ◌/◌, ◌^◌, ◌<◌, ◌≤◌, List, length, get_or, max, refl, arith, pow_mono, pow_pos}
use Rattle.std.specs.Int.{IsNextPowerOfTwo}
use Rattle.std.specs.List.{AllZip}
use Rattle.std.proofs.lemmas.Bool.{cases_lt}
use Rattle.std.proofs.lemmas.List.{get_or_past, get_or_append_left, get_or-append-add}
use Rattle.std.proofs.lemmas.List.Elements.{AllZip-get_or, length_all_zip}
use Rattle.math_theory.proofs.domains.RootOrders.{power_of_two-suc}
use Rattle.math_theory.specs.Laws.{IsEquality}
use Rattle.math_transforms.specs.Matrices.{MatrixOf, AreFilledUp}
use Rattle.math_ntt.specs.PolynomialRows.{FitsPadded, HaveSamePolynomials}
use Rattle.math_transforms.proofs.MatrixRows.{cell-of_column}

-- where the least power of two that is n or more fits a word, n is at most 2^63
pub padded-below : {A : Type 0} (m : MatrixOf A) (n : ℕ) → n < 2 ^ 64 → FitsPadded m n → n ≤ 2 ^ 63
padded-below m n l h =
    elim (cases_lt (2 ^ 63) n) [
      | inl above ↦ absurd (let q = (h (2 ^ 64) ((64, refl), omega arith, omega arith)).0 in omega (arith, q))
      | inr below ↦ omega (arith, below)
    ]

exponent-below : (n i j : ℕ) → n ≤ 2 ^ i → 2 ^ j / 2 < max 1 n → j ≤ i
exponent-below n i j h k =
    elim (cases_lt i j) [
      | inl m ↦ absurd (omega (arith, power_of_two-suc i, let p : 2 ^ suc i ≤ 2 ^ j = pow_mono m in p, pow_pos i, h, k))
      | inr m ↦ m
    ]

-- there is only one such power of two
pub next_power_of_two-once : (n p q : ℕ) → IsNextPowerOfTwo n p → IsNextPowerOfTwo n q → p ≡ q
next_power_of_two-once n p q h k = grind (arith, exponent-below)

module _ {A : Type 0} {same : A → A → Type 0} (E : IsEquality same) (zero_of : A) where
  -- each place holds the same cell, or zero where there is none
  padded-at : (items copies cells : List A) (p : ℕ) → AllZip same copies items → AreFilledUp same zero_of copies cells → same (get_or cells p zero_of) (get_or items p zero_of)
  padded-at items copies cells p h f =
      let long : length copies ≡ length items = length_all_zip same copies items h in
      rw f.1 (elim (cases_lt p (length copies)) [
        | inl within ↦ rw (get_or_append_left copies f.0 zero_of p within) (AllZip-get_or same copies items p zero_of zero_of h within)
        | inr past ↦
            let q = p - length copies in
            let at : p ≡ length copies + q = omega (arith, past) in
            let none : get_or items p zero_of ≡ zero_of = get_or_past items p zero_of (omega (arith, past, long)) in
            rw (none, at, get_or-append-add copies f.0 q zero_of) (elim (cases_lt q (length f.0)) [
              | inl there ↦ f.2 q zero_of there
              | inr after ↦ rw (get_or_past f.0 q zero_of after) (E.reflexive zero_of)
            ])
      ])

  pub same_polynomials : (m : MatrixOf A) (n : ℕ) (copies cells : List A) → length m.cells ≡ m.rows * m.cols → length cells ≡ n * m.cols
      → AllZip same copies m.cells → AreFilledUp same zero_of copies cells → HaveSamePolynomials same zero_of (record { rows = n; cols = m.cols; cells = cells }) m
  same_polynomials m n copies cells e f h k j l i =
      rw (cell-of_column zero_of (record { rows = n; cols = m.cols; cells = cells }) j i l f, cell-of_column zero_of m j i l e) (padded-at m.cells copies cells (i * m.cols + j) h k)
