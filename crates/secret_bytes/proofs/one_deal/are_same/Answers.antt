use Rattle.std.proofs.lemmas.Slice.Eq.{slice_eq-Decides}
use Rattle.secret_bytes.proofs.SettledShares.{element-Decides}
use Rattle.secret_bytes.proofs.one_deal.are_same.Goals as goal

pub returns : goal.returns
returns c = slice_eq-Decides element-Decides c.args.a.now c.args.b.now c.eq.result c.eq.ensures
