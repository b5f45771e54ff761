use Rattle.std.proofs.Common.{◌≡◌, ◌∙◌, ◌+◌, ◌-◌, ◌*◌, ◌<◌, ◌/◌, ◌%◌, ◌^◌, ℕ, List, length, get_or, map, ap, ap₂, sym, subst, lit<, arith}
use Rattle.std.proofs.Math.Nat.{mod-lt}
use Rattle.std.proofs.lemmas.List.{get_or-map, length-map}
use Rattle.std.proofs.lemmas.Simd.{Each1-from_get_or, length-zip2}
use Rattle.std.specs.Simd.Lanes.{Each1, zip2}
use Rattle.math_numbers.specs.Goldilocks.{P}
use Rattle.math_lanes.specs.Elements.{reduced, sum}
use Rattle.math_lanes.specs.Words.{difference_of_words}
use Rattle.math_lanes.proofs.WordReductions.{plus}
use Rattle.math_values.specs.ColumnSums.{ArePartsOf, from_parts}
use Rattle.math_values.proofs.ColumnParts.{joined_is, rest_is, zip-at}
use Rattle.math_values.proofs.columns.join_parts.Goals as goal

added : (xs ys : List ℕ) → length xs ≡ 8 → length ys ≡ 8 → length (zip2 plus xs ys) ≡ 8
added xs ys long other = length-zip2 plus xs ys (long ∙ sym other) ∙ long

rest-at : (a c d : List ℕ) (j : ℕ) → length a ≡ 8 → length c ≡ 8 → length d ≡ 8 → j < 8
    → get_or (zip2 difference_of_words a (zip2 plus c d)) j 0 ≡ difference_of_words (get_or a j 0) ((get_or c j 0 + get_or d j 0) % 2 ^ 64)
rest-at a c d j la lc ld l = zip-at difference_of_words a (zip2 plus c d) j la (added c d lc ld) l ∙ ap (difference_of_words (get_or a j 0)) (zip-at plus c d j lc ld l)

raised-at : (b c : List ℕ) (j : ℕ) → length b ≡ 8 → length c ≡ 8 → j < 8
    → get_or (zip2 reduced (map (λ x. x * 2 ^ 32 % 2 ^ 64) (zip2 plus b c)) (map (λ x. x / 2 ^ 32) (zip2 plus b c))) j 0
    ≡ ((get_or b j 0 + get_or c j 0) % 2 ^ 64 * 2 ^ 32 % 2 ^ 64 + 2 ^ 64 * ((get_or b j 0 + get_or c j 0) % 2 ^ 64 / 2 ^ 32)) % P
raised-at b c j lb lc l =
    let s = zip2 plus b c in
    let long : length s ≡ 8 = added b c lb lc in
    let inside : j < length s = omega (arith, long) in
    let at = zip-at plus b c j lb lc l in
    zip-at reduced (map (λ x. x * 2 ^ 32 % 2 ^ 64) s) (map (λ x. x / 2 ^ 32) s) j (length-map s (λ x. x * 2 ^ 32 % 2 ^ 64) ∙ long) (length-map s (λ x. x / 2 ^ 32) ∙ long) l
    ∙ ap₂ reduced (get_or-map (λ x. x * 2 ^ 32 % 2 ^ 64) s j 0 0 inside ∙ ap (λ x. x * 2 ^ 32 % 2 ^ 64) at) (get_or-map (λ x. x / 2 ^ 32) s j 0 0 inside ∙ ap (λ x. x / 2 ^ 32) at)

module _ (a b c d : List ℕ) (la : length a ≡ 8) (lb : length b ≡ 8) (lc : length c ≡ 8) (ld : length d ≡ 8)
    (small : (j : ℕ) → j < 8 → ArePartsOf (2 ^ 24) (get_or a j 0) (get_or b j 0) (get_or c j 0) (get_or d j 0)) where
  abbrev rest : List ℕ
  rest = zip2 difference_of_words a (zip2 plus c d)

  abbrev raised : List ℕ
  raised = zip2 reduced (map (λ x. x * 2 ^ 32 % 2 ^ 64) (zip2 plus b c)) (map (λ x. x / 2 ^ 32) (zip2 plus b c))

  rest_long : length rest ≡ 8
  rest_long = length-zip2 difference_of_words a (zip2 plus c d) (la ∙ sym (added c d lc ld)) ∙ la

  rest_lane : (j : ℕ) → j < 8 → get_or rest j 0 ≡ (get_or a j 0 + P - (get_or c j 0 + get_or d j 0)) % P
  rest_lane j l = rest-at a c d j la lc ld l ∙ rest_is (get_or a j 0) (get_or b j 0) (get_or c j 0) (get_or d j 0) (small j l)

  rest_elements : Each1 (λ x. x < P) rest
  rest_elements =
      Each1-from_get_or (λ x. x < P) rest 0
      (λ j l. subst (λ x. x < P) (sym (rest_lane j (omega (arith, l, rest_long)))) (mod-lt (get_or a j 0 + P - (get_or c j 0 + get_or d j 0)) (lit< tt)))

  joined_lane : (j : ℕ) → j < 8 → get_or (zip2 sum rest raised) j 0 ≡ from_parts (get_or a j 0) (get_or b j 0) (get_or c j 0) (get_or d j 0) % P
  joined_lane j l =
      let s = zip2 plus b c in
      let long : length s ≡ 8 = added b c lb lc in
      let up : length (map (λ x. x * 2 ^ 32 % 2 ^ 64) s) ≡ 8 = length-map s (λ x. x * 2 ^ 32 % 2 ^ 64) ∙ long in
      let down : length (map (λ x. x / 2 ^ 32) s) ≡ 8 = length-map s (λ x. x / 2 ^ 32) ∙ long in
      let raised_long : length raised ≡ 8 = length-zip2 reduced (map (λ x. x * 2 ^ 32 % 2 ^ 64) s) (map (λ x. x / 2 ^ 32) s) (up ∙ sym down) ∙ up in
      zip-at sum rest raised j rest_long raised_long l ∙ ap₂ sum (rest_lane j l) (raised-at b c j lb lc l)
      ∙ joined_is (get_or a j 0) (get_or b j 0) (get_or c j 0) (get_or d j 0) (small j l)

pub sums-requires : goal.sums-requires
sums-requires c =
    let elements : Each1 (λ x. x < P) c.differences_of_words-rest.result =
    subst (Each1 (λ x. x < P)) (sym c.differences_of_words-rest.ensures)
    (rest_elements c.args.a c.args.b c.args.c c.args.d c.fits-a.0 c.fits-b.0 c.fits-c.0 c.fits-d.0 c.requires) in
    (omega arith, (elements, c.reductions.ensures.elements))

pub returns-clause-lanes : goal.returns-clause-lanes
returns-clause-lanes c = λ j l.
    ap (λ xs. get_or xs j 0)
    (c.sums.ensures.lanes ∙ ap₂ (zip2 sum) c.differences_of_words-rest.ensures (c.reductions.ensures.lanes ∙ ap₂ (zip2 reduced) c.raised_halves.ensures c.upper_halves.ensures))
    ∙ joined_lane c.args.a c.args.b c.args.c c.args.d c.fits-a.0 c.fits-b.0 c.fits-c.0 c.fits-d.0 c.requires j l
