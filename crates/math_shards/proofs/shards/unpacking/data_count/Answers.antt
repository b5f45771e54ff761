use Rattle.std.proofs.Common.{◌∙◌, ◌+◌, List, sym, ap, subst, arith}
use Rattle.std.specs.Int.{div_ceil}
use Rattle.std.specs.List.{All}
use Rattle.std.proofs.lemmas.Bool.{false≢true}
use Rattle.std.proofs.lemmas.List.{take_rest}
use Rattle.math_fields.specs.declared.goldilocks.F.{F}
use Rattle.math_fields.specs.Elements.{same}
use Rattle.math_splitting.proofs.SameCells.{nought}
use Rattle.math_shards.proofs.UnpackedWords.{data_of_repacked, marked_of_data}
use Rattle.math_shards.proofs.shards.unpacking.data_count.Goals as goal

pub returns-clause-some : goal.returns-clause-some
returns-clause-some c = grind (arith, data_of_repacked, take_rest)

pub returns-then-count-elements-clause-none : goal.returns-then-count-elements-clause-none
returns-then-count-elements-clause-none c = grind (arith, marked_of_data)

pub returns-then-div_ceil-width-clause-none : goal.returns-then-div_ceil-width-clause-none
returns-then-div_ceil-width-clause-none c = grind (arith, marked_of_data)

pub returns-then-not-are_repacked-clause-none : goal.returns-then-not-are_repacked-clause-none
returns-then-not-are_repacked-clause-none c = grind (arith, marked_of_data)

pub returns-then-not-are_zero-clause-none : goal.returns-then-not-are_zero-clause-none
returns-then-not-are_zero-clause-none c = λ words are.
    let filled = c.unpacked_word-count.result + 1 + c.div_ceil.result in
    let m = marked_of_data c.args.elements.now words c.unpacked_word-count.result filled c.args.min c.args.width c.requires.some c.requires.size c.unpacked_word-count.ensures (ap (λ n. c.unpacked_word-count.result + 1 + n) c.div_ceil.ensures) are in
    false≢true (sym c.if-not-are_zero.true ∙ c.are_zero.ensures.1
    (subst (λ (xs : List F). All (λ x. same x nought) xs) (sym (take_rest c.args.elements.now filled)) m.zeros))
