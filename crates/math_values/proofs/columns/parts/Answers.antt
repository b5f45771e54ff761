use Rattle.std.proofs.Common.{◌≡◌, ◌∙◌, ◌+◌, ◌*◌, ◌<◌, ◌/◌, ◌%◌, ◌^◌, ℕ, get_or, ap, ap₂, arith}
use Rattle.std.proofs.lemmas.Simd.{Each1-get_or, get_or-replicate}
use lib.ListN.{replicate}
use Rattle.math_numbers.specs.Goldilocks.{P}
use Rattle.math_values.specs.ColumnSums.{from_parts}
use Rattle.math_fields.specs.Elements.{number}
use Rattle.math_values.proofs.ColumnParts.{first_below, fourth_below, half_below, product_parts, second_below, third_below, upper_half}
use Rattle.math_values.proofs.columns.parts.Goals as goal
use Rattle.math_values.proofs.columns.parts.Goals.{After-plus-third}

module _ (c : After-plus-third) (j : ℕ) (l : j < 8) where
  abbrev x : ℕ
  x = get_or c.args.cells j 0

  abbrev w : ℕ
  w = number c.args.w

  x_below : x < P
  x_below = Each1-get_or (λ y. y < P) c.args.cells j 0 (omega (arith, c.fits-cells.0)) c.requires

  x_word : x < 2 ^ 64
  x_word = omega (arith, x_below)

  w_word : w < 2 ^ 64
  w_word = omega (arith, c.args.w.below)

  weight_is : get_or (replicate 8 c.word.result) j 0 ≡ w
  weight_is = get_or-replicate {A = ℕ} 8 j c.word.result 0 l ∙ c.word.ensures

  low_is : get_or c.halves.result.0 j 0 ≡ x % 2 ^ 32
  low_is = c.halves.ensures.lower j l

  high_is : get_or c.halves.result.1 j 0 ≡ x / 2 ^ 32
  high_is = c.halves.ensures.upper j l

  lower_is : get_or c.halves-2.result.0 j 0 ≡ w % 2 ^ 32
  lower_is = c.halves-2.ensures.lower j l ∙ ap (λ y. y % 2 ^ 32) weight_is

  upper_is : get_or c.halves-2.result.1 j 0 ≡ w / 2 ^ 32
  upper_is = c.halves-2.ensures.upper j l ∙ ap (λ y. y / 2 ^ 32) weight_is

  low_below : get_or c.halves.result.0 j 0 < 2 ^ 32
  low_below = omega (arith, low_is, half_below x)

  high_below : get_or c.halves.result.1 j 0 < 2 ^ 32
  high_below = omega (arith, high_is, upper_half x x_word)

  lower_below : get_or c.halves-2.result.0 j 0 < 2 ^ 32
  lower_below = omega (arith, lower_is, half_below w)

  upper_below : get_or c.halves-2.result.1 j 0 < 2 ^ 32
  upper_below = omega (arith, upper_is, upper_half w w_word)

  m_is : get_or c.times.result j 0 ≡ x % 2 ^ 32 * (w % 2 ^ 32)
  m_is = c.times.ensures j l low_below lower_below ∙ ap₂ (λ y z. y * z) low_is lower_is

  n_is : get_or c.times-2.result j 0 ≡ x % 2 ^ 32 * (w / 2 ^ 32)
  n_is = c.times-2.ensures j l low_below upper_below ∙ ap₂ (λ y z. y * z) low_is upper_is

  k_is : get_or c.times-3.result j 0 ≡ x / 2 ^ 32 * (w % 2 ^ 32)
  k_is = c.times-3.ensures j l high_below lower_below ∙ ap₂ (λ y z. y * z) high_is lower_is

  o_is : get_or c.times-4.result j 0 ≡ x / 2 ^ 32 * (w / 2 ^ 32)
  o_is = c.times-4.ensures j l high_below upper_below ∙ ap₂ (λ y z. y * z) high_is upper_is

  first_is : get_or c.halves-3.result.0 j 0 ≡ x % 2 ^ 32 * (w % 2 ^ 32) % 2 ^ 32
  first_is = c.halves-3.ensures.lower j l ∙ ap (λ y. y % 2 ^ 32) m_is

  p_is : get_or c.halves-3.result.1 j 0 ≡ x % 2 ^ 32 * (w % 2 ^ 32) / 2 ^ 32
  p_is = c.halves-3.ensures.upper j l ∙ ap (λ y. y / 2 ^ 32) m_is

  q_is : get_or c.halves-4.result.0 j 0 ≡ x % 2 ^ 32 * (w / 2 ^ 32) % 2 ^ 32
  q_is = c.halves-4.ensures.lower j l ∙ ap (λ y. y % 2 ^ 32) n_is

  q_above : get_or c.halves-4.result.1 j 0 ≡ x % 2 ^ 32 * (w / 2 ^ 32) / 2 ^ 32
  q_above = c.halves-4.ensures.upper j l ∙ ap (λ y. y / 2 ^ 32) n_is

  r_is : get_or c.halves-5.result.0 j 0 ≡ x / 2 ^ 32 * (w % 2 ^ 32) % 2 ^ 32
  r_is = c.halves-5.ensures.lower j l ∙ ap (λ y. y % 2 ^ 32) k_is

  r_above : get_or c.halves-5.result.1 j 0 ≡ x / 2 ^ 32 * (w % 2 ^ 32) / 2 ^ 32
  r_above = c.halves-5.ensures.upper j l ∙ ap (λ y. y / 2 ^ 32) k_is

  s_is : get_or c.halves-6.result.0 j 0 ≡ x / 2 ^ 32 * (w / 2 ^ 32) % 2 ^ 32
  s_is = c.halves-6.ensures.lower j l ∙ ap (λ y. y % 2 ^ 32) o_is

  fourth_is : get_or c.halves-6.result.1 j 0 ≡ x / 2 ^ 32 * (w / 2 ^ 32) / 2 ^ 32
  fourth_is = c.halves-6.ensures.upper j l ∙ ap (λ y. y / 2 ^ 32) o_is

  first_small : get_or c.halves-3.result.0 j 0 < 2 ^ 32
  first_small = omega (arith, first_is, half_below (x % 2 ^ 32 * (w % 2 ^ 32)))

  p_small : get_or c.halves-3.result.1 j 0 < 2 ^ 32
  p_small = omega (arith, p_is, first_below x w x_word w_word)

  q_small : get_or c.halves-4.result.0 j 0 < 2 ^ 32
  q_small = omega (arith, q_is, half_below (x % 2 ^ 32 * (w / 2 ^ 32)))

  q_above_small : get_or c.halves-4.result.1 j 0 < 2 ^ 32
  q_above_small = omega (arith, q_above, second_below x w x_word w_word)

  r_small : get_or c.halves-5.result.0 j 0 < 2 ^ 32
  r_small = omega (arith, r_is, half_below (x / 2 ^ 32 * (w % 2 ^ 32)))

  r_above_small : get_or c.halves-5.result.1 j 0 < 2 ^ 32
  r_above_small = omega (arith, r_above, third_below x w x_word w_word)

  s_small : get_or c.halves-6.result.0 j 0 < 2 ^ 32
  s_small = omega (arith, s_is, half_below (x / 2 ^ 32 * (w / 2 ^ 32)))

  fourth_small : get_or c.halves-6.result.1 j 0 < 2 ^ 32
  fourth_small = omega (arith, fourth_is, fourth_below x w x_word w_word)

  crossed : get_or c.plus.result j 0 ≡ get_or c.halves-4.result.0 j 0 + get_or c.halves-5.result.0 j 0
  crossed = c.plus.ensures j l (omega (arith, q_small, r_small))

  second_is : get_or c.plus-second.result j 0 ≡ get_or c.halves-3.result.1 j 0 + get_or c.plus.result j 0
  second_is = c.plus-second.ensures j l (omega (arith, p_small, crossed, q_small, r_small))

  above : get_or c.plus-2.result j 0 ≡ get_or c.halves-4.result.1 j 0 + get_or c.halves-5.result.1 j 0
  above = c.plus-2.ensures j l (omega (arith, q_above_small, r_above_small))

  third_is : get_or c.plus-third.result j 0 ≡ get_or c.halves-6.result.0 j 0 + get_or c.plus-2.result j 0
  third_is = c.plus-third.ensures j l (omega (arith, s_small, above, q_above_small, r_above_small))

  product_is : from_parts (get_or c.halves-3.result.0 j 0) (get_or c.plus-second.result j 0) (get_or c.plus-third.result j 0) (get_or c.halves-6.result.1 j 0) ≡ x * w
  product_is =
      let second = second_is ∙ ap₂ (λ y z. y + z) p_is (crossed ∙ ap₂ (λ y z. y + z) q_is r_is) in
      let third = third_is ∙ ap₂ (λ y z. y + z) s_is (above ∙ ap₂ (λ y z. y + z) q_above r_above) in
      (λ i. from_parts (first_is i) (second i) (third i) (fourth_is i)) ∙ product_parts x w x_word w_word

pub returns : goal.returns
returns c = record {
  product = λ j l. product_is c j l;
  few = λ j l. (
    omega (arith, first_small c j l),
    omega (arith, second_is c j l, p_small c j l, crossed c j l, q_small c j l, r_small c j l),
    omega (arith, third_is c j l, s_small c j l, above c j l, q_above_small c j l, r_above_small c j l),
    omega (arith, fourth_small c j l),
  );
}
