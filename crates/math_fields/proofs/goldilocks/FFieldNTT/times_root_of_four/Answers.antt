use Rattle.std.proofs.Common.{◌≡◌, ◌%◌, ap, ◌∙◌, inl, inr, arith, lit<}
use Rattle.math_numbers.specs.Goldilocks.{P}
use Rattle.math_numbers.proofs.PowersModulo.{power_mod-by_squaring}
use Rattle.math_fields.specs.Elements.{number}
use Rattle.math_fields.proofs.goldilocks.FFieldNTT.times_root_of_four.Goals as goal

pub returns-else-rhs-clause-ok : goal.returns-else-rhs-clause-ok
returns-else-rhs-clause-ok c =
    let w : number c.args.rhs.now ≡ 18446462594437873665 =
    elim c.requires.root [
      | inl e ↦ absurd (c.if-rhs.false e)
      | inr e ↦ e ∙ ap (λ t. t % P) (power_mod-by_squaring 64 P 281474976710656 18446744069414584319 (lit< tt))
    ] in
    rw (c.neg.ensures, c.times_two_to_the_48-shifted.ensures, w) (omega (arith, c.args.self.now.below))
