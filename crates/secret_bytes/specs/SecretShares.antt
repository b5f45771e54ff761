-- Shares of secrets as bytes: the threshold, the index, the deal, and the list of the values.
use Rattle.std.specs.Prelude.{◌≡◌, ℕ, ◌<◌, ◌^◌, List, ◌++◌, Result, Ok}
use Rattle.std.specs.Int.{to_be_bytes, w64}
use Rattle.std.specs.List.{AllZip}
use Rattle.math_numbers.specs.Goldilocks.{P}
use Rattle.math_codec.specs.Faults.{Fault, ◌>>=◌}
use Rattle.math_codec.specs.Lengths.{length_spelling, length_at}
use Rattle.math_codec.specs.Lists.{list_spelling, scan_list, AdmitsList, ListGrows}
use Rattle.math_codec.specs.declared.codec.range.LengthRange.{LengthRange}
use Rattle.math_fields.specs.declared.goldilocks.F.{F}
use Rattle.math_fields.specs.Elements.{number, same}
use Rattle.math_fields.specs.ElementEncoding.{scan_element}
use Rattle.secret_bytes.specs.declared.share.SecretShare.{SecretShare}

-- an element is spelled by its number as a word
abbrev pub element_spelling : F → List ℕ
element_spelling a = to_be_bytes w64 (number a)

-- a share is spelled by its threshold and its index as lengths, its deal as a word, and the list of its values
abbrev pub share_spelling : SecretShare → List ℕ
share_spelling s = length_spelling s.threshold ++ (length_spelling s.index ++ (element_spelling s.deal ++ list_spelling element_spelling s.values.items))

-- both have the same threshold, index and deal, and the same values
pub record AreSameShares (s u : SecretShare) : Type 0 where
  pub threshold : s.threshold ≡ u.threshold
  pub index : s.index ≡ u.index
  pub deal : same s.deal u.deal
  pub values : AllZip same s.values.items u.values.items

-- the range of at most n values
abbrev pub at_most : ℕ → LengthRange
at_most n = record { low = 0; high = n }

-- the share has at most `most_values` values, each below P, its deal is below P, and its two numbers fit 32 bits
pub record AdmitsShare (most_values : ℕ) (s : SecretShare) : Type 0 where
  pub threshold_fits : s.threshold < 2 ^ 32
  pub index_fits : s.index < 2 ^ 32
  pub deal_fits : number s.deal < P
  pub values : AdmitsList (at_most most_values) (λ a. number a < P) s.values.items

-- what a read of a share leaves, or the first fault
unfoldable pub scan_share : ℕ → List ℕ → Result (List ℕ) Fault
scan_share most_values bytes = do
  threshold ← length_at bytes
  index ← length_at threshold.1
  deal ← scan_element index.1
  scan_list (at_most most_values) scan_element deal

-- a read of a share takes memory: its parts before are read, and the list of its values takes some
pub record ShareGrows (most_values : ℕ) (bytes : List ℕ) : Type 0 where
  pub threshold : ℕ × List ℕ
  pub index : ℕ × List ℕ
  pub deal : List ℕ
  pub threshold_read : length_at bytes ≡ Ok threshold
  pub index_read : length_at threshold.1 ≡ Ok index
  pub deal_read : scan_element index.1 ≡ Ok deal
  pub values : ListGrows (at_most most_values) scan_element (λ _. ⊥) deal
