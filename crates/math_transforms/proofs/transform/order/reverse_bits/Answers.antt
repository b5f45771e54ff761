use Rattle.math_transforms.proofs.ReversedBits.{reversed-word}
use Rattle.math_transforms.proofs.transform.order.reverse_bits.Goals as goal

pub returns : goal.returns
returns c = rw c.reverse_bits.ensures (reversed-word c.args.lg c.args.i c.requires.small c.requires.below)
