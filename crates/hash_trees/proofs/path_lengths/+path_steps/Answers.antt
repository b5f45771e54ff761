use Rattle.std.proofs.Common.{◌≡◌, ◌∙◌, suc, ◌+◌, ◌/◌, sym, ap, arith}
use Rattle.hash_trees.specs.Trees.{half}
use Rattle.hash_trees.proofs.CountedSteps.{steps_alone, steps_below, steps_one, steps_step}
use Rattle.hash_trees.proofs.path_lengths.+path_steps.Goals as goal

pub returns-then-total-eq1 : goal.returns-then-total-eq1
returns-then-total-eq1 t c = sym (steps_one c.args.total c.args.index c.requires (omega arith))

pub overflow_add-result : goal.overflow_add-result
overflow_add-result t c =
    let few = steps_below (half c.args.total) (half c.args.total) (c.args.index / 2) in
    let higher = rw c.half.ensures at c.path_steps-higher.ensures in
    omega (arith, few, higher)

pub returns-then-is_alone : goal.returns-then-is_alone
returns-then-is_alone t c =
    let higher = rw c.half.ensures at c.path_steps-higher.ensures in
    higher ∙ sym (steps_alone c.args.total c.args.index (omega (arith, c.requires)) c.requires (sym c.is_alone.ensures ∙ c.if-is_alone.true))

pub returns-else-is_alone : goal.returns-else-is_alone
returns-else-is_alone t c =
    let higher = rw c.half.ensures at c.path_steps-higher.ensures in
    let one : c.path_steps-higher.result + 1 ≡ suc c.path_steps-higher.result = omega arith in
    one ∙ ap suc higher ∙ sym (steps_step c.args.total c.args.index (omega (arith, c.requires)) c.requires (sym c.is_alone.ensures ∙ c.if-is_alone.false))
