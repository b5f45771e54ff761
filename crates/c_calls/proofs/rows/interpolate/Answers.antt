use Rattle.std.proofs.Common.{arith, ◌≡◌, ◌∙◌, ◌^◌, ap, ap₂, replicate, true}
use Rattle.math_transforms.specs.DomainValues.{matrix_of}
use Rattle.c_calls.specs.WordElements.{numbers}
use Rattle.c_calls.proofs.WordMatrices.{has_domain, coefficients_of_words}
use Rattle.c_calls.proofs.rows.interpolate.Goals as goal

pub recover-requires : goal.recover-requires
recover-requires c = grind (arith, has_domain)

pub returns-clause-ok : goal.returns-clause-ok
returns-clause-ok c =
    let cells = c.args.cells.now in
    let is_words = c.from_parts-values.ensures.matrix ∙ c.matrix_of-matrix.ensures ∙ ap₂ (λ n xs. matrix_of n c.args.cols xs) c.size_of.ensures c.requires.are in
    let all = c.from_parts-values.ensures.filled ∙ c.in_ok-points.ensures ∙ ap (λ n. replicate (2 ^ n) true) c.from.ensures in
    let written : c.write_numbers.new.words ≡ numbers c.in_ok-recover.field-0.cells =
    c.write_numbers.ensures ∙ ap numbers (c.deref.ensures.value ∙ c.into_cells-coefficients.ensures ∙ ap (λ m. m.cells) c.data.ensures) in
    coefficients_of_words c.args.lg c.args.cols cells c.write_numbers.new.words c.from_parts-values.result c.in_ok-recover.field-0 c.requires.small c.requires.count c.requires.below
    is_words all c.in_ok-recover.ensures.size c.in_ok-recover.ensures.fits written
