use Rattle.math_transforms.proofs.ReversedRows.{AreExchangedBelow}
use Rattle.math_transforms.proofs.transform.order.swap_rows.Given as goal

abbrev pub invariant-loop-k : goal.invariant-loop-k
invariant-loop-k g l = AreExchangedBelow g.F.Additive.zero l.cols l.i l.j l.initial.cells l.cells l.k
