use Rattle.std.proofs.Common.{◌≡◌, ◌∙◌, ◌++◌, length, ap, arith}
use Rattle.math_codec.specs.Lengths.{length_spelling}
use Rattle.c_calls.proofs.WrittenWords.{length-spelled, polynomial_written}
use Rattle.c_calls.proofs.polynomials.encode.Goals as goal

pub returns-then-n-out-clause-none : goal.returns-then-n-out-clause-none
returns-then-n-out-clause-none c = grind (arith, length-spelled)

pub returns-clause-some : goal.returns-clause-some
returns-clause-some c = grind (arith, length-spelled)

pub returns-clause-written : goal.returns-clause-written
returns-clause-written c =
    let words = c.args.coefficients.now in
    let front : c.write_len.new.out.items ≡ length_spelling (length words) = c.in_ok-write_len.ensures.ok ∙ ap (λ xs. xs ++ length_spelling (length words)) c.new-front.ensures.items in
    polynomial_written c.len-from.result c.write_len.new.out.items words c.args.out.now c.copy_from_slice.new.self c.spell_words.new.bytes
    (omega (arith, c.len-from.ensures, c.write_len.new.out.ok)) (omega (arith, c.if-n-out.false)) front
    (c.copy_from_slice.ensures.after ∙ c.deref.ensures.value) c.spell_words.ensures
