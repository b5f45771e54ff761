-- What a run ends with.
use Rattle.std.specs.Prelude.{ℕ}
use Rattle.shard_files.specs.declared.fault.Fault.{Fault}
use Rattle.shard_files.specs.declared.fault.Fault.TheVariants as faults
use Rattle.shardfile_commands.specs.declared.refusal.Reason.TheVariants as reasons
use Rattle.shardfile_commands.specs.declared.refusal.Refusal.{Refusal}
use Rattle.shardfile_commands.specs.declared.refusal.Refusal.TheVariants as refusals
use Rattle.shardfile_commands.specs.declared.status.Status.{Status}
use Rattle.shardfile_commands.specs.declared.status.Status.TheVariants.{Done, Refused, Usage, Lost, Unknown}

-- the number of a status
abbrev pub code_of : Status → ℕ
code_of Done = 0
code_of Refused = 1
code_of Usage = 2
code_of Lost = 3
code_of Unknown = 4

-- the status of a run of `check` or `repair` that a fault of shard files ends: one status for lost shards or blocks, and one for all else
abbrev pub judged_files : Fault → Status
judged_files (faults.NoShard _) = Lost
judged_files (faults.IsShard _ _) = Lost
judged_files (faults.Length _) = Lost
judged_files (faults.TooFew _ _ _) = Lost
judged_files (faults.Block _ _) = Lost
judged_files (faults.BlockRoot _) = Lost
judged_files (faults.NoRoot _ _) = Lost
judged_files (faults.NoPaths _) = Lost
judged_files _ = Unknown

-- the status of a run of `check` or `repair` that this refusal ends: one for lost shards or blocks, one for files that do not fit, one for
-- wrong usage, and one for all else
abbrev pub judged : Refusal → Status
judged (refusals.Usage _) = Usage
judged (refusals.Named _ reasons.Unsound) = Refused
judged (refusals.Named _ reasons.Stays) = Refused
judged (refusals.Named _ reasons.Strays) = Refused
judged (refusals.Named _ reasons.Lost) = Lost
judged (refusals.Files fault) = judged_files fault
judged _ = Unknown

-- the status of a run of another command that this refusal ends
abbrev pub refused : Refusal → Status
refused (refusals.Usage _) = Usage
refused _ = Refused
