-- Where blocks and records lie.
use Rattle.std.proofs.Common.{◌≡◌, ◌≢◌, ◌∙◌, ℕ, zero, suc, ◌+◌, ◌-◌, ◌*◌, ◌/◌, ◌^◌, ◌<◌, ◌≤◌, ◌++◌, false, length, refl, sym, ap, ap₂, subst, arith, add-one, add-zero}
use Rattle.std.proofs.Math.Nat.{mul-le-mul_left, mul-le-mul_right, add-mul, mul-zero, one-mul, zero-mul, div-mul-le_self, lt-div-mul-add, min-eq_left, min-eq_right}
use Rattle.std.specs.Prelude.{min}
use Rattle.shard_format.specs.declared.formats.Format.{Format}
use Rattle.shard_format.specs.declared.formats.Format.TheVariants as formats
use Rattle.shard_format.specs.declared.header.Header.{Header}
use Rattle.shard_format.specs.Formats.{has_paths, header_size, version_of}
use Rattle.shard_format.specs.Headers.{beginning_spelling, fingerprints_spelling, header_spelling, header_words, keys_spelling, paths_spelling, split_spelling}
use Rattle.shard_format.specs.Records.{block_count, block_size, file_size, pair_size, pairs_size, path_size, record_size, record_place, records_end, RecordsFollow, RecordsEndWithFile, BlocksMakeFile, FileFits}

-- one more of the same size
more : (n size : ℕ) → (n + 1) * size ≡ n * size + size
more n size = add-mul n 1 size ∙ ap (λ k. n * size + k) (one-mul size)

-- so many blocks have all bytes
enough : (bytes block : ℕ) → 1 ≤ block → bytes ≤ (bytes + block - 1) / block * block
enough bytes block some =
    let above : bytes + block - 1 < (bytes + block - 1) / block * block + block = lt-div-mul-add some in
    omega (arith, above)

-- and so many blocks but one have not
needed : (bytes block n : ℕ) → 1 ≤ block → n < (bytes + block - 1) / block → n * block < bytes
needed bytes block n some below =
    let next : (n + 1) * block ≤ (bytes + block - 1) / block * block = mul-le-mul_right block (omega (arith, below)) in
    let within = div-mul-le_self (bytes + block - 1) block in
    omega (arith, next, within, more n block)

-- a header has as many bytes as its format says
header_length : (h : Header) → header_size h.format ≡ length (header_spelling h)
header_length h = sized h.format where
  sized : (f : Format) → header_size f ≡ length ((beginning_spelling (version_of f) h.index ++ (split_spelling h.min h.total h.block h.length ++ (keys_spelling h.keys ++ paths_spelling f))) ++ fingerprints_spelling h.keys (header_words h))
  sized formats.Cells = refl
  sized formats.Rows = refl
  sized formats.RowsWithPaths = refl

header_small : (f : Format) → header_size f ≤ 96
header_small formats.Cells = omega arith
header_small formats.Rows = omega arith
header_small formats.RowsWithPaths = omega arith

-- the place of the next record, behind this one and its path
next_place : (header size path number : ℕ) → header + (number + 1) * (size + path) ≡ header + number * (size + path) + size + path
next_place header size path number = let step = more number (size + path) in omega (arith, step)

pub follow : (h : Header) (words : ℕ) → RecordsFollow h words
follow h words = record {
  first = ap (λ n. header_size h.format + n) (zero-mul (record_size h words + path_size h)) ∙ omega (arith, header_length h);
  next = λ number. next_place (header_size h.format) (record_size h words) (path_size h) number;
}

pub blocks : (h : Header) → 1 ≤ h.block → BlocksMakeFile h
blocks h positive = record {
  whole = λ number below.
      let next = needed h.length h.block (number + 1) positive below in
      min-eq_left (omega (arith, next, more number h.block));
  last = λ number e.
      let here : number * h.block < h.length = needed h.length h.block number positive (omega (arith, e)) in
      let all : h.length ≤ (number + 1) * h.block = subst (λ n. h.length ≤ n * h.block) (sym e) (enough h.length h.block positive) in
      let rest : block_size h number ≡ h.length - number * h.block = min-eq_right (omega (arith, all, more number h.block)) in
      ap (λ n. number * h.block + n) rest ∙ omega (arith, here);
  some = λ number below.
      let here : number * h.block < h.length = needed h.length h.block number positive below in
      omega (arith, here, positive);
  none = λ number beyond.
      let here : block_count h * h.block ≤ number * h.block = mul-le-mul_right h.block beyond in
      let all = enough h.length h.block positive in
      let none : h.length - number * h.block ≡ 0 = omega (arith, here, all) in
      ap (λ n. min h.block n) none ∙ min-eq_right (omega arith);
}

-- where the records of some blocks end, of which there is one at least
ends : (h : Header) (words last number count : ℕ) → number + 1 ≡ count → records_end h words last count ≡ record_place h words number + record_size h last + path_size h
ends h words last number count e = ap (records_end h words last) (sym e ∙ add-one number)

-- there are pairs for all blocks but the last
pairs : (h : Header) (number : ℕ) → number + 1 ≡ block_count h → pairs_size h ≡ number * pair_size h
pairs h number e = ap (λ n. n * pair_size h) (let before : block_count h - 1 ≡ number = omega (arith, e) in before)

no_pairs : (h : Header) → block_count h ≡ 0 → pairs_size h ≡ 0
no_pairs h e = ap (λ n. (n - 1) * pair_size h) e ∙ zero-mul (pair_size h)

pub without_paths : (f : Format) → f ≢ formats.RowsWithPaths → has_paths f ≡ false
without_paths formats.Cells differ = refl
without_paths formats.Rows differ = refl
without_paths formats.RowsWithPaths differ = absurd (differ refl)

-- where records have no paths, neither paths nor pairs have a byte
pub no_path : (h : Header) → has_paths h.format ≡ false → path_size h ≡ 0
no_path h none = rw none refl

pub no_pair : (h : Header) → has_paths h.format ≡ false → pair_size h ≡ 0
no_pair h none = rw none refl

-- what stands at the end, in numbers
end_without : (place size path number pair end file : ℕ) → end ≡ place + size + path → file ≡ end + number * pair → path ≡ 0 → pair ≡ 0 → file ≡ place + size
end_without place size path number pair end file e f path_none pair_none =
    let nothing : number * pair ≡ 0 = ap (λ n. number * n) pair_none ∙ mul-zero number in
    omega (arith, e, f, path_none, nothing)

-- a record that is not the last ends with its path before all do
ends_within : (header size path last number before : ℕ) → number < before
    → header + number * (size + path) + size + path ≤ header + before * (size + path) + last + path
ends_within header size path last number before below =
    let places : (number + 1) * (size + path) ≤ before * (size + path) = mul-le-mul_right (size + path) (omega (arith, below)) in
    let step = more number (size + path) in
    omega (arith, places, step)

pub within : (h : Header) (words last : ℕ) → RecordsEndWithFile h words last
within h words last = record {
  end = λ number e. ends h words last number (block_count h) e;
  pairs = λ number e. ap (λ n. records_end h words last (block_count h) + n) (pairs h number e);
  without = λ other number e.
      let none = without_paths h.format other in
      end_without (record_place h words number) (record_size h last) (path_size h) number (pair_size h) (records_end h words last (block_count h)) (file_size h words last)
      (ends h words last number (block_count h) e) (ap (λ n. records_end h words last (block_count h) + n) (pairs h number e)) (no_path h none) (no_pair h none);
  empty = λ e. ap₂ (λ m n. m + n) (ap (records_end h words last) e ∙ header_length h) (no_pairs h e) ∙ add-zero (length (header_spelling h));
  within = λ number below.
      let before = block_count h - 1 in
      let end = ends h words last before (block_count h) (omega (arith, below)) in
      let inside = ends_within (header_size h.format) (record_size h words) (path_size h) (record_size h last) number before (omega (arith, below)) in
      subst (λ n. record_place h words number + record_size h words + path_size h ≤ n) (sym end) inside;
}

-- the bytes of so many records, where none has more than so many times the bytes of a block
bounded : (bytes block count size times : ℕ) → 1 ≤ block → count < (bytes + block - 1) / block → size ≤ times * block → count * size ≤ times * bytes
bounded bytes block count size times some below small =
    let each : count * size ≤ count * (times * block) = mul-le-mul_left count small in
    let here : count * block ≤ bytes = omega (arith, needed bytes block count some below) in
    let all : times * (count * block) ≤ times * bytes = mul-le-mul_left times here in
    let swapped : count * (times * block) ≡ times * (count * block) = grind arith in
    omega (arith, each, all, swapped)

-- and what the shard file has then, in numbers
all_below : (header size path pair last number block bytes : ℕ) → header ≤ 96 → number * (size + path + pair) ≤ bytes → last + path ≤ block → block < 2 ^ 62 → bytes < 2 ^ 63
    → header + number * (size + path) + last + path + number * pair < 2 ^ 64
all_below header size path pair last number block bytes h all rest small short =
    let parts : number * (size + path + pair) ≡ number * (size + path) + number * pair = grind arith in
    omega (arith, h, all, rest, small, short, parts)

file_below : (h : Header) (words last count times : ℕ) → record_size h last + path_size h ≤ times * h.block → times * h.block < 2 ^ 62 → times * h.length < 2 ^ 63
    → ((number : ℕ) → number + 1 ≡ count → number * (record_size h words + path_size h + pair_size h) ≤ times * h.length)
    → records_end h words last count + (count - 1) * pair_size h < 2 ^ 64
file_below h words last zero times rest small short places =
    let none : (0 - 1) * pair_size h ≡ 0 = zero-mul (pair_size h) in
    let header = header_small h.format in
    rw none (omega (arith, header))
file_below h words last (suc number) times rest small short places =
    let before : suc number - 1 ≡ number = omega arith in
    rw before (all_below (header_size h.format) (record_size h words) (path_size h) (pair_size h) (record_size h last) number (times * h.block) (times * h.length)
    (header_small h.format) (places number (add-one number)) rest small short)

pub fits : (h : Header) (words last : ℕ) → 1 ≤ h.block → FileFits h words last
fits h words last some times whole rest small short =
    file_below h words last (block_count h) times rest small short
    (λ number e. bounded h.length h.block number (record_size h words + path_size h + pair_size h) times some (omega (arith, e)) whole)
