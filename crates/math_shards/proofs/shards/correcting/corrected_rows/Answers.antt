use Rattle.std.proofs.Common.{◌≡◌, ◌∙◌, ◌≤◌, arith}
use Rattle.std.proofs.lemmas.Bool.{false≢true}
use Rattle.math_splitting.proofs.LeastDomains.{domain_is_small}
use Rattle.math_shards.specs.Correcting.{settled_indices}
use Rattle.math_shards.proofs.CorrectedShards.{corrected_of_data, least_is_positive, least_is_within, rows_are_domain}
use Rattle.math_shards.proofs.UnlikeRows.{corrected_with_positions}
use Rattle.math_shards.proofs.shards.correcting.corrected_rows.Goals as goal

pub corrected_polynomials-requires-clause-enough : goal.corrected_polynomials-requires-clause-enough
corrected_polynomials-requires-clause-enough c = omega (arith, c.in_ok-count_settled.ensures, c.if-branch-first.false)

pub returns-in_default-clause-err : goal.returns-in_default-clause-err
returns-in_default-clause-err c = grind arith

pub returns-in_default-2-clause-err : goal.returns-in_default-2-clause-err
returns-in_default-2-clause-err c =
    let k = rw c.in-Some.is at c.in_ok-polynomials.ensures.some in
    let enough : c.args.first.now.min ≤ settled_indices c.args.first.now.total c.args.shards.now = omega (arith, c.in_ok-count_settled.ensures, c.if-branch-first.false) in (
      (c.requires.sound, λ x. x),
      enough,
      λ words d.
          false≢true (rw c.in_default-2.is at (c.in_ok-data.ensures.none words d.each_word d.few
          (corrected_of_data k.lg c.args.first.now c.args.shards.now k.rows k.filled c.in-Some.polynomials k.wrong k.corrected words d))),
    )

pub evaluate-requires : goal.evaluate-requires
evaluate-requires c = grind (arith, least_is_positive, least_is_within, domain_is_small, rows_are_domain)

pub unlike_rows-requires-clause-rows : goal.unlike_rows-requires-clause-rows
unlike_rows-requires-clause-rows c i d l = grind arith

pub unlike_rows-requires-clause-cells : goal.unlike_rows-requires-clause-cells
unlike_rows-requires-clause-cells c i d l = grind arith

pub returns-clause-ok : goal.returns-clause-ok
returns-clause-ok c =
    let k = rw c.in-Some.is at c.in_ok-polynomials.ensures.some in
    let found = rw c.in-Some-2.is at c.in_ok-data.ensures.some in (
      found.0,
      found.1,
      corrected_with_positions k.lg c.args.first.now c.args.shards.now k.rows k.filled c.in-Some.polynomials k.wrong k.corrected found.0 found.2 c.in_ok-evaluate.field-0.matrix c.in_ok-evaluate.ensures.size
          c.in_ok-evaluate.ensures.values found.1.elements.each_word found.1.elements.few c.in_ok-left_out.left_out.items c.in_ok-left_out.ensures,
    )

pub data_of-requires : goal.data_of-requires
data_of-requires c = grind arith
