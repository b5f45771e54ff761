-- The pieces of the format group to the right, and those of the line to the left.
use Rattle.std.proofs.Common.{append_assoc}
use Rattle.goldmath_commands.proofs.text.refusal_line.Goals as goal

pub returns-in-Invalid : goal.returns-in-Invalid
returns-in-Invalid c = rw c.in-Invalid.is (simp append_assoc c.format-in-Invalid.ensures.ok)
