use Rattle.std.proofs.Common.{◌∙◌, ◌+◌, ◌%◌, ◌^◌, mod-eq_of_lt}
use Rattle.math_values.proofs.ColumnParts.{zip-at}
use Rattle.math_values.proofs.columns.plus.Goals as goal

pub returns : goal.returns
returns c = λ j l fits. zip-at (λ x y. (x + y) % 2 ^ 64) c.args.a c.args.b j c.fits-a.0 c.fits-b.0 l ∙ mod-eq_of_lt fits
