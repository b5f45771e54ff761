-- What a call answers: its status, and the text of a status.
use Rattle.std.specs.Prelude.{◌≡◌, ◌↔◌, ℕ, List, codes, Result, Ok, Err, ◌==◌, if◌then◌else◌}
use Rattle.math_codec.specs.Faults as faults
use Rattle.math_shards.specs.declared.shards.Error as shards
use Rattle.math_shards.specs.declared.shards.Error.TheVariants as errors
use Rattle.systematic_shards.specs.declared.Error as systematic
use Rattle.systematic_shards.specs.declared.Error.TheVariants as refusals
use Rattle.shard_roots.specs.declared.Error as roots
use Rattle.shard_roots.specs.declared.Error.TheVariants as rooted
use Rattle.c_calls.specs.declared.status.Status.{Status}
use Rattle.c_calls.specs.declared.status.Status.TheVariants.{Done, OutOfMemory, OutOfRange, WrongSize, TooFew, Mismatch, WrongIndex, Conflict, Inconsistent, EndOfBuffer, InvalidVarint, InvalidLength, ExtraData, Repeated, TooMany, WrongRoot}

-- the number of a status
abbrev pub code_of : Status → ℕ
code_of Done = 0
code_of OutOfMemory = 1
code_of OutOfRange = 2
code_of WrongSize = 3
code_of TooFew = 4
code_of Mismatch = 5
code_of WrongIndex = 6
code_of Conflict = 7
code_of Inconsistent = 8
code_of EndOfBuffer = 9
code_of InvalidVarint = 10
code_of InvalidLength = 11
code_of ExtraData = 12
code_of Repeated = 13
code_of TooMany = 14
code_of WrongRoot = 15

-- the call did what it says
abbrev pub done : ℕ
done = 0

-- memory ran out
abbrev pub out_of_memory : ℕ
out_of_memory = 1

-- a word is no element, or a byte that says whether a row is filled is neither 0 nor 1
abbrev pub out_of_range : ℕ
out_of_range = 2

-- a number of words, rows or columns is none that the call takes, or there is no room for the answer
abbrev pub wrong_size : ℕ
wrong_size = 3

-- fewer distinct indices of shards are there than `min`, or fewer rows are filled than coefficients are asked for
abbrev pub too_few : ℕ
too_few = 4

-- `min` and `total` are not such as shards have
abbrev pub mismatch : ℕ
mismatch = 5

-- an index is not below the total, or of weights not above the one before it
abbrev pub wrong_index : ℕ
wrong_index = 6

-- two shards have one index, and differ
abbrev pub conflict : ℕ
conflict = 7

-- there is no answer that fits: no data that have each of the shards, or no polynomial near the values
abbrev pub inconsistent : ℕ
inconsistent = 8

-- the bytes end within a polynomial
abbrev pub end_of_buffer : ℕ
end_of_buffer = 9

-- bytes follow the polynomial
abbrev pub extra_data : ℕ
extra_data = 12

-- a point is there twice
abbrev pub repeated : ℕ
repeated = 13

-- a block with a root has more than 2^16 shards
abbrev pub too_many : ℕ
too_many = 14

-- the data of the shards under a root have another root
abbrev pub wrong_root : ℕ
wrong_root = 15

-- the status says that the numbers are no split just where they are none, and that sizes are wrong just where the numbers are a split and
-- the sizes do not fit it
pub record TestsSizes (split sizes : Type 0) (status : ℕ) : Type 0 where
  pub numbers : status ≡ mismatch ↔ ¬ split
  pub size : status ≡ wrong_size ↔ split × ¬ sizes

-- the status of a read that meets this fault, or none
abbrev pub status_of_read : Result (Unit {0}) faults.Fault → ℕ
status_of_read (Ok x) = done
status_of_read (Err faults.EndOfBuffer) = end_of_buffer
status_of_read (Err faults.InvalidVarint) = 10
status_of_read (Err (faults.InvalidLength n)) = 11
status_of_read (Err (faults.Invalid kind text)) = out_of_range
status_of_read (Err (faults.ExtraData n)) = extra_data

-- the status of shards that give no data back, by what is wrong with them
abbrev pub status_of_shards : shards.Error → ℕ
status_of_shards (errors.Memory e) = out_of_memory
status_of_shards errors.TooFew = too_few
status_of_shards errors.Mismatch = mismatch
status_of_shards errors.Index = wrong_index
status_of_shards errors.Conflict = conflict
status_of_shards errors.Inconsistent = inconsistent

-- the status of rows of systematic shards that are refused, by what is wrong with them
abbrev pub status_of_rows : systematic.Error → ℕ
status_of_rows (refusals.Memory e) = out_of_memory
status_of_rows refusals.TooFew = too_few
status_of_rows refusals.Mismatch = mismatch
status_of_rows refusals.Sizes = wrong_size
status_of_rows refusals.Index = wrong_index
status_of_rows refusals.Word = out_of_range
status_of_rows refusals.Conflict = conflict
status_of_rows refusals.Inconsistent = inconsistent

-- the status of a commitment or a join under a root that is refused, by what is wrong: no data have shards of different masks
abbrev pub status_of_roots : roots.Error → ℕ
status_of_roots (rooted.Memory e) = out_of_memory
status_of_roots rooted.TooMany = too_many
status_of_roots rooted.Masks = inconsistent
status_of_roots (rooted.Rows e) = status_of_rows e
status_of_roots rooted.Root = wrong_root

-- the text of a status
abbrev pub text_of : ℕ → List ℕ
text_of n =
    if n == 0 then codes "done" else
    if n == 1 then codes "out of memory" else
    if n == 2 then codes "out of range" else
    if n == 3 then codes "wrong size" else
    if n == 4 then codes "too few" else
    if n == 5 then codes "mismatch" else
    if n == 6 then codes "wrong index" else
    if n == 7 then codes "unequal shards of one index" else
    if n == 8 then codes "nothing fits" else
    if n == 9 then codes "end of buffer" else
    if n == 10 then codes "invalid varint" else
    if n == 11 then codes "invalid length" else
    if n == 12 then codes "extra data" else
    if n == 13 then codes "repeated point" else
    if n == 14 then codes "more than 65536 shards" else
    if n == 15 then codes "the root of no data" else
    codes "no status"
