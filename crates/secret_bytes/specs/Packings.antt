-- Bytes as numbers of fifty-six bits: how many there are, and then seven a number.
use Rattle.std.specs.Prelude.{◌≡◌, ℕ, zero, suc, ◌+◌, ◌*◌, ◌/◌, ◌%◌, ◌<◌, List, [], ◌∷◌, length, take, drop, map, min, ◌++◌, ◌-◌, All}
use Rattle.math_fields.specs.declared.goldilocks.F.{F}
use Rattle.math_fields.specs.Elements.{number}

-- these are bytes, and fewer than 2^32
pub record AreBytes (bytes : List ℕ) : Type 0 where
  pub each_byte : All (λ byte. byte < 256) bytes
  pub few : length bytes < 4294967296

-- the number that the bytes write, the lowest first
abbrev pub number_of_bytes : List ℕ → ℕ
number_of_bytes [] = 0
number_of_bytes (b ∷ bytes) = b + 256 * number_of_bytes bytes

-- k numbers of seven bytes each, as far as there are bytes
abbrev pub sevens : ℕ → List ℕ → List ℕ
sevens zero bytes = []
sevens (suc k) bytes = number_of_bytes (take 7 bytes) ∷ sevens k (drop 7 bytes)

-- how many numbers hold n bytes
abbrev pub number_count : ℕ → ℕ
number_count n = (n + 6) / 7

-- how many bytes there are, and then the bytes, seven a number
abbrev pub packed : List ℕ → List ℕ
packed bytes = length bytes ∷ sevens (number_count (length bytes)) bytes

-- the elements are the elements of these bytes
abbrev pub ArePackedBytes : List F → List ℕ → Type 0
ArePackedBytes elements bytes = AreBytes bytes × (map number elements ≡ packed bytes)

-- the k lowest bytes of a number
abbrev pub lowest_bytes : ℕ → ℕ → List ℕ
lowest_bytes zero n = []
lowest_bytes (suc k) n = n % 256 ∷ lowest_bytes k (n / 256)

-- what is left of a number without its lowest bytes
abbrev pub without_lowest : ℕ → ℕ → ℕ
without_lowest zero n = n
without_lowest (suc k) n = without_lowest k (n / 256)

-- the lowest seven bytes of each number, `left` bytes in all
abbrev pub unpacked : ℕ → List ℕ → List ℕ
unpacked left [] = []
unpacked left (n ∷ numbers) = lowest_bytes (min 7 left) n ++ unpacked (left - 7) numbers

-- no number has more than the bytes that are taken of it
abbrev pub AllFit : ℕ → List ℕ → Type 0
AllFit left [] = Unit {0}
AllFit left (n ∷ numbers) = (without_lowest (min 7 left) n ≡ 0) × AllFit (left - 7) numbers
