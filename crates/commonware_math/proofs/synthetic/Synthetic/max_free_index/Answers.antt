use Rattle.std.proofs.Common.{◌≡◌}
use Rattle.commonware_math.proofs.FreeTerms.{greatest_from_last}
use Rattle.commonware_math.proofs.synthetic.Synthetic.max_free_index.Goals as goal

pub returns : goal.returns
returns g c =
    let terms : c.deref.result.now ≡ c.self.inside.free.items = c.deref.ensures.value in
    let last = rw terms at c.last_index.ensures in
    let greatest = greatest_from_last c.self.inside.free.items c.last_index.result c.self.invariant last.none last.last in
    rw (← c.self.view_is) record { none = greatest.0; some = greatest.1 }
