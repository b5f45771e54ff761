use Rattle.math_transforms.proofs.BitmapPoints.{shifted_word}
use Rattle.math_transforms.proofs.vanishing_points.full_word.Goals as goal

pub overflow_sub-result : goal.overflow_sub-result
overflow_sub-result c = (shifted_word c.args.lg_size c.min.result c.min.ensures).0

pub returns : goal.returns
returns c = (shifted_word c.args.lg_size c.min.result c.min.ensures).1
