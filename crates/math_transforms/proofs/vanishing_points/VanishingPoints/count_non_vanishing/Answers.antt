use Rattle.std.proofs.Common.{refl, ◌∙◌, arith}
use Rattle.std.proofs.lemmas.List.{take_all}
use Rattle.math_transforms.proofs.BitmapPoints.{count_true-words, count_fits}
use Rattle.math_transforms.proofs.vanishing_points.VanishingPoints.count_non_vanishing.Goals as goal

pub loop-word-init : goal.loop-word-init
loop-word-init c = (refl, rw c.deref-word-items.ensures.value (count_fits c.self.inside.lg_size c.self.inside.words.items c.self.invariant))

pub returns : goal.returns
returns c = grind (arith, take_all, count_true-words)
