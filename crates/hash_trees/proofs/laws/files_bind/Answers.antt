use Rattle.hash_trees.proofs.FileMessages.{file_records_are_bound, files_are_bound}
use Rattle.hash_trees.proofs.laws.files_bind.Goals as goal

pub returns-clause-files : goal.returns-clause-files
returns-clause-files c = files_are_bound

pub returns-clause-records : goal.returns-clause-records
returns-clause-records c = file_records_are_bound
