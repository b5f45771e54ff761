use Rattle.std.proofs.Common.{length, sym, ap, ◌∙◌}
use Rattle.math_transforms.proofs.BitmapPoints.{length-truth_values}
use Rattle.math_transforms.proofs.vanishing_points.VanishingPoints.lg_size.Goals as goal

pub returns-clause-size : goal.returns-clause-size
returns-clause-size c = sym (ap length c.self.view_is) ∙ length-truth_values c.self.inside.lg_size c.self.inside.words.items c.self.invariant
