use Rattle.std.proofs.Common.{◌≡◌, ◌<◌, ◌/◌, ◌%◌, ◌∙◌, arith}
use Rattle.std.proofs.lemmas.List.{get_or_read_under}
use Rattle.std.proofs.lemmas.Nat.Bits.{shr_and_one}
use Rattle.math_transforms.proofs.BitmapPoints.{is_one, truth_value_at, word_within}
use Rattle.math_transforms.proofs.vanishing_points.VanishingPoints.get.Goals as goal

pub index-requires : goal.index-requires
index-requires c = grind (arith, word_within)

pub returns : goal.returns
returns c = grind (arith, word_within, get_or_read_under, truth_value_at, is_one, shr_and_one)
