use Rattle.shard_format.proofs.CellsThatFit.{parts_fit, two_items, whole_fits}
use Rattle.shard_format.proofs.records.are_cells_that_fit.Goals as goal

pub returns : goal.returns
returns c =
    let h = c.args.header.now in
    let elements = c.args.elements.now in
    let cells = c.in-Some.cells.now in
    let stored = c.in-Some.stored.now in
    let first = c.first-item.result in
    let second = c.second-item.result in
    let two = two_items stored first second c.in-len2.len_at_least c.in-len2.len_below c.first-item.is c.second-item.is in (
      λ fits. whole_fits h c.args.block c.args.count elements cells stored first second c.in-Some.ensures.cases two (c.fits.ensures.0 fits),
      λ whole. c.fits.ensures.1 (parts_fit h c.args.block c.args.count elements cells stored first second c.in-Some.ensures.cases two whole),
    )
