use Rattle.std.proofs.Common.{◌∙◌, ◌*◌, ◌%◌, ◌^◌, get_or}
use Rattle.math_values.proofs.ColumnParts.{times-exact, zip-at}
use Rattle.math_values.proofs.columns.times.Goals as goal

pub returns : goal.returns
returns c = λ j l low high. zip-at (λ x y. x * y % 2 ^ 64) c.args.a c.args.b j c.fits-a.0 c.fits-b.0 l ∙ times-exact (get_or c.args.a j 0) (get_or c.args.b j 0) low high
