use Rattle.std.proofs.Common.{arith}
use Rattle.std.proofs.lemmas.List.{length-take}
use Rattle.std.proofs.lemmas.Result.{err_from_is_err_and}
use Rattle.c_calls.proofs.AlikeShards.{rising_few}
use Rattle.c_calls.proofs.RootedLists.{not-of-sizes}
use Rattle.c_calls.proofs.roots.write_joined.Goals as goal

pub returns-in_err-found-clause-others : goal.returns-in_err-found-clause-others
returns-in_err-found-clause-others c = grind (arith, err_from_is_err_and, not-of-sizes)

pub slice_bounds-copy_from_slice-end : goal.slice_bounds-copy_from_slice-end
slice_bounds-copy_from_slice-end c = grind (arith, rising_few)

pub slice_bounds-copy_from_slice-end-2 : goal.slice_bounds-copy_from_slice-end-2
slice_bounds-copy_from_slice-end-2 c = grind (arith, rising_few, length-take)

pub copy_from_slice-requires : goal.copy_from_slice-requires
copy_from_slice-requires c = grind (arith, rising_few, length-take)
