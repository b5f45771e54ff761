-- Which headers belong to one split, and which split some headers give.
use Rattle.std.specs.Prelude.{◌≡◌, ℕ, ◌*◌, ◌/◌, ◌<◌, ◌≤◌, ◌^◌, min, Bool, ◌==◌, ◌&&◌, List, All, Contains, count_by, Option, Some, None, MatchOption, IfSome}
use Rattle.math_fields.specs.Elements.{number, same}
use Rattle.shard_format.specs.declared.header.Header.{Header}
use Rattle.shard_format.specs.Formats.{is_same_format}
use Rattle.shard_format.specs.declared.splits.Counted.{Counted}
use Rattle.shard_format.specs.declared.splits.Choice.{Choice}
use Rattle.shard_format.specs.declared.splits.Choice.TheVariants as choices

-- the greatest number of bytes of a block: at most 1 MiB, and TOTAL / MIN such blocks have 32 MiB at most
abbrev pub largest_block : ℕ → ℕ → ℕ
largest_block least most = min (2 ^ 20) (2 ^ 25 * least / most)

-- a split can have this header
pub record IsPossible (h : Header) : Type 0 where
  pub some : 1 ≤ h.min
  pub within : h.min ≤ h.total
  pub few : h.total ≤ 2 ^ 16
  pub index : h.index < h.total
  pub block : 1 ≤ h.block
  pub bounded : h.block ≤ largest_block h.min h.total

-- both are headers of shards of one file, split in one way, at one time, in one format: their keys are the same too
pub record AreOfOneSplit (g h : Header) : Type 0 where
  pub format : g.format ≡ h.format
  pub least : g.min ≡ h.min
  pub most : g.total ≡ h.total
  pub block : g.block ≡ h.block
  pub length : g.length ≡ h.length
  pub first_key : same g.keys.first h.keys.first
  pub second_key : same g.keys.second h.keys.second

-- a split can have this header, which is the header of the shard with this number in the split of the other header
pub record IsThatOf (h : Header) (n : ℕ) (s : Header) : Type 0 where
  pub possible : IsPossible h
  pub number : h.index ≡ n
  pub split : AreOfOneSplit h s

-- whether both are headers of shards of one file, split in one way, in one format, with the same keys
abbrev pub is_of_split : Header → Header → Bool
is_of_split g h =
    is_same_format g.format h.format && (g.min == h.min) && (g.total == h.total) && (g.block == h.block) && (g.length == h.length)
    && (number g.keys.first == number h.keys.first) && (number g.keys.second == number h.keys.second)

-- how many of the headers are of the split of this one
abbrev pub count_of_split : Header → List Header → ℕ
count_of_split h headers = count_by (λ g. is_of_split g h) headers

-- a split can have this header, and as many of the headers are of its split as give the file back
pub record IsEnough (headers : List Header) (h : Header) : Type 0 where
  pub possible : IsPossible h
  pub many : h.min ≤ count_of_split h headers

-- this is one of the headers, enough of its split are there, and more than of each other split of which enough are there
pub record IsMost (headers : List Header) (h : Header) : Type 0 where
  pub there : Contains headers h
  pub enough : IsEnough headers h
  pub most : All (λ g. IsEnough headers g → ¬ (AreOfOneSplit g h) → count_of_split g headers < count_of_split h headers) headers

-- these are two of the headers, of different splits; of both enough are there, and equally many, and no split of which enough are there has
-- more
pub record AreTied (headers : List Header) (g h : Header) : Type 0 where
  pub first_there : Contains headers g
  pub second_there : Contains headers h
  pub first_enough : IsEnough headers g
  pub second_enough : IsEnough headers h
  pub apart : ¬ (AreOfOneSplit h g)
  pub equal : count_of_split h headers ≡ count_of_split g headers
  pub most : All (λ f. IsEnough headers f → count_of_split f headers ≤ count_of_split g headers) headers

-- where a header is taken, P holds of it
abbrev pub IfTaken : Choice → (Header → Type 0) → Type 0
IfTaken (choices.Taken h) P = P h
IfTaken (choices.Tied g h) P = Unit {0}
IfTaken choices.None P = Unit {0}

-- where two are tied, P holds of them
abbrev pub IfTied : Choice → (Header → Header → Type 0) → Type 0
IfTied (choices.Taken h) P = Unit {0}
IfTied (choices.Tied g h) P = P g h
IfTied choices.None P = Unit {0}

-- where no header is taken and none are tied, P holds
abbrev pub IfNoSplit : Choice → Type 0 → Type 0
IfNoSplit (choices.Taken h) P = Unit {0}
IfNoSplit (choices.Tied g h) P = Unit {0}
IfNoSplit choices.None P = P

-- this is one of the headers, enough of its split are there, and the count is their number
pub record IsCounted (headers : List Header) (c : Counted) : Type 0 where
  pub there : Contains headers c.header
  pub enough : IsEnough headers c.header
  pub count : c.count ≡ count_of_split c.header headers

-- the header was counted, and of no header that was seen has its split more, as far as enough of it are there
pub record IsLargest (headers seen : List Header) (c : Counted) : Type 0 where
  pub counted : IsCounted headers c
  pub most : All (λ g. IsEnough headers g → count_of_split g headers ≤ c.count) seen

-- where a header was counted, it is the largest of those that were seen; and where none was, of no header that was seen are enough of its
-- split there
abbrev pub IsLargestOf : List Header → List Header → Option Counted → Type 0
IsLargestOf headers seen best = MatchOption best (All (λ g. ¬ (IsEnough headers g)) seen) (IsLargest headers seen)

-- where a header was counted, the count is the number of headers of its split
abbrev pub IsRightCount : List Header → Option Counted → Type 0
IsRightCount headers last = IfSome last (λ c. c.count ≡ count_of_split c.header headers)

-- the count, and 0 where none was counted
abbrev pub count_in : Option Counted → ℕ
count_in (Some c) = c.count
count_in None = 0

-- this header is of another split, of which enough are there, and as many as were counted
pub record IsRival (headers : List Header) (c : Counted) (h : Header) : Type 0 where
  pub there : Contains headers h
  pub enough : IsEnough headers h
  pub apart : ¬ (AreOfOneSplit h c.header)
  pub equal : count_of_split h headers ≡ c.count
