-- Why memory and the numbers of a split are refused.
use Rattle.std.specs.Prelude.{ℕ, ⊤}
use Rattle.systematic_shards.specs.declared.Error.{Error}
use Rattle.systematic_shards.specs.declared.Error.TheVariants.{Memory, TooFew, Mismatch, Sizes, Index, Word, Conflict, Inconsistent}
use Rattle.systematic_shards.specs.Splits.{HaveRoom, IsSplit, width_of}

-- the error says that memory ran out
abbrev pub IsMemory : Error → Type 0
IsMemory (Memory e) = ⊤
IsMemory TooFew = ⊥
IsMemory Mismatch = ⊥
IsMemory Sizes = ⊥
IsMemory Index = ⊥
IsMemory Word = ⊥
IsMemory Conflict = ⊥
IsMemory Inconsistent = ⊥

-- what is wrong with the numbers of a split
abbrev pub IsSplitDue : ℕ → ℕ → ℕ → Error → Type 0
IsSplitDue least total size (Memory e) = ⊥
IsSplitDue least total size TooFew = ⊥
IsSplitDue least total size Mismatch = ¬ (IsSplit least total)
IsSplitDue least total size Sizes = IsSplit least total × ¬ (HaveRoom least total (width_of size least))
IsSplitDue least total size Index = ⊥
IsSplitDue least total size Word = ⊥
IsSplitDue least total size Conflict = ⊥
IsSplitDue least total size Inconsistent = ⊥
