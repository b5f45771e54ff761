use Rattle.hash_trees.proofs.BoundRecords.{only_leaves_are_under, only_records_are_shown, only_records_are_under, records_are_bound, roots_are_bound}
use Rattle.hash_trees.proofs.laws.roots_bind.Goals as goal

pub returns-clause-records : goal.returns-clause-records
returns-clause-records c = records_are_bound

pub returns-clause-roots : goal.returns-clause-roots
returns-clause-roots c = roots_are_bound

pub returns-clause-only : goal.returns-clause-only
returns-clause-only c = only_records_are_under

pub returns-clause-shown : goal.returns-clause-shown
returns-clause-shown c = only_records_are_shown

pub returns-clause-leaves : goal.returns-clause-leaves
returns-clause-leaves c = only_leaves_are_under
