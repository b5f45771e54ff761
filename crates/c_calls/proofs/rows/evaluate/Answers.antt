use Rattle.std.proofs.Common.{arith, ◌≡◌, ◌∙◌, ap, ap₂}
use Rattle.math_transforms.specs.DomainValues.{matrix_of}
use Rattle.c_calls.specs.WordElements.{numbers}
use Rattle.c_calls.proofs.WordMatrices.{has_domain, values_of_words}
use Rattle.c_calls.proofs.rows.evaluate.Goals as goal

pub evaluate-requires : goal.evaluate-requires
evaluate-requires c = grind (arith, has_domain)

pub returns-clause-ok : goal.returns-clause-ok
returns-clause-ok c =
    let cells = c.args.cells.now in
    let is_words = c.from_matrix-polynomials.ensures ∙ c.matrix_of-matrix.ensures ∙ ap₂ (λ n xs. matrix_of n c.args.cols xs) c.size_of.ensures c.requires.are in
    let written : c.write_numbers.new.words ≡ numbers c.in_ok-evaluate.field-0.matrix.cells =
    c.write_numbers.ensures ∙ ap numbers (c.deref.ensures.value ∙ c.into_cells-values.ensures ∙ ap (λ m. m.cells) c.data.ensures) in
    values_of_words c.args.lg c.args.cols cells c.write_numbers.new.words c.from_matrix-polynomials.result c.in_ok-evaluate.field-0.matrix c.requires.small c.requires.count c.requires.below
    is_words c.in_ok-evaluate.ensures.size c.in_ok-evaluate.ensures.values written
