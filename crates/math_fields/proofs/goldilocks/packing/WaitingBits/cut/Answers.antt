use Rattle.std.proofs.Common.{rules}
use Rattle.math_fields.proofs.BitFronts.{first-below, first-number, rest-below, rest-bits}
use Rattle.math_fields.proofs.goldilocks.packing.WaitingBits.cut.Goals as goal

pub invariant_of-rest : goal.invariant_of-rest
invariant_of-rest c = record {
  below = rest-below c.args.self.count c.args.more c.args.width c.args.self.value c.args.word c.args.self.below c.requires.low (search rules) (search rules);
  few = search rules;
}

pub returns-clause-first : goal.returns-clause-first
returns-clause-first c =
    first-number c.args.self.count c.args.more c.args.width c.args.self.value c.args.word c.args.self.below c.requires.low (search rules)

pub returns-clause-below : goal.returns-clause-below
returns-clause-below c =
    first-below c.args.self.count c.args.more c.args.width c.args.self.value c.args.word c.args.self.below c.requires.low (search rules)

pub returns-clause-rest : goal.returns-clause-rest
returns-clause-rest c = rest-bits c.args.self.count c.args.more c.args.width c.args.self.value c.args.word c.args.self.below c.requires.low (search rules)
