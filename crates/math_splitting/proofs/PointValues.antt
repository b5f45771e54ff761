-- Sums of products with the powers of a point are values there.
use Rattle.std.proofs.Common.{◌≡◌, ◌∙◌, ℕ, suc, ◌+◌, ◌<◌, ◌≤◌, List, [], ◌∷◌, length, get_or, refl, ap, ap₂, arith}
use Rattle.math_theory.specs.Powers.{power}
use Rattle.math_theory.specs.Sums.{weighted_sum}
use Rattle.math_theory.specs.Values.{value_from}
use Rattle.math_fields.specs.declared.goldilocks.F.{F}
use Rattle.math_fields.specs.Elements.{product, residue, root_of, sum}
use Rattle.math_values.specs.Values.{ArePowersOf}
use Rattle.math_splitting.specs.Shards.{value_at_index}
use Rattle.math_splitting.proofs.SameCells.{nought}

weighted-from : (x : F) (i : ℕ) (column powers : List F) → length column ≤ length powers → ((j : ℕ) → j < length powers → get_or powers j nought ≡ power (residue 1) product x (i + j))
    → weighted_sum nought sum product column powers ≡ value_from nought sum product (residue 1) product x i column
weighted-from x i [] powers l h = refl
weighted-from x i (a ∷ column) [] l h = absurd (omega (arith, l))
weighted-from x i (a ∷ column) (p ∷ powers) l h =
    ap₂ sum
    (ap (product a) (h 0 (omega arith) ∙ ap (power (residue 1) product x) (omega arith)))
    (weighted-from x (suc i) column powers (omega (arith, l)) (λ j m. h (suc j) (omega (arith, m)) ∙ ap (power (residue 1) product x) (omega arith)))

-- the sum of the coefficients, each times its power of a point of the domain, is the value at its index
pub weighted-value : (lg i : ℕ) (x : F) (column powers : List F) → x ≡ power (residue 1) product (root_of lg) i → length column ≤ length powers → ArePowersOf x powers
    → weighted_sum nought sum product column powers ≡ value_at_index lg column i
weighted-value lg i x column powers e l h =
    weighted-from x 0 column powers l (λ j m. h j m ∙ ap (power (residue 1) product x) (omega arith)) ∙ ap (λ y. value_from nought sum product (residue 1) product y 0 column) e
