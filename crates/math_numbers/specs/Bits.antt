-- Lists of bits, the lowest first, and their cutting into pieces.
use Rattle.std.specs.Prelude.{◌≡◌, ℕ, zero, suc, ◌+◌, ◌-◌, ◌*◌, ◌/◌, ◌%◌, ◌<◌, List, [], ◌∷◌, ◌++◌, take, drop, length, refl}

-- the k lowest bits of n, the lowest first
unfoldable pub bits : ℕ → ℕ → List ℕ
bits zero n = []
bits (suc k) n = n % 2 ∷ bits k (n / 2)

pub bits-zero : (n : ℕ) → bits 0 n ≡ []
unfolding bits
bits-zero n = refl

pub bits-suc : (k n : ℕ) → bits (suc k) n ≡ n % 2 ∷ bits k (n / 2)
unfolding bits
bits-suc k n = refl

-- b is 0 or 1
abbrev pub IsBit : ℕ → Type 0
IsBit b = b < 2

-- the number that bits write, the lowest first
abbrev pub number : List ℕ → ℕ
number [] = 0
number (b ∷ bs) = b + 2 * number bs

-- the k lowest bits of each number, one after the other
abbrev pub joined : ℕ → List ℕ → List ℕ
joined k [] = []
joined k (n ∷ ns) = bits k n ++ joined k ns

-- the numbers that the first m pieces of k bits write; bits past the end of the list count as zeros
unfoldable pub pieces : ℕ → ℕ → List ℕ → List ℕ
pieces k zero bs = []
pieces k (suc m) bs = number (take k bs) ∷ pieces k m (drop k bs)

pub pieces-zero : (k : ℕ) (bs : List ℕ) → pieces k 0 bs ≡ []
unfolding pieces
pieces-zero k bs = refl

pub pieces-suc : (k m : ℕ) (bs : List ℕ) → pieces k (suc m) bs ≡ number (take k bs) ∷ pieces k m (drop k bs)
unfolding pieces
pieces-suc k m bs = refl

-- how many pieces of k bits hold n bits: n / k, rounded up
abbrev pub piece_count : ℕ → ℕ → ℕ
piece_count k n = (n + (k - 1)) / k

-- the numbers that pieces of k bits write, the last piece filled with zeros
abbrev pub cut : ℕ → List ℕ → List ℕ
cut k bs = pieces k (piece_count k (length bs)) bs

-- the j lowest bits of each number, joined and cut into pieces of k bits
abbrev pub repacked : ℕ → ℕ → List ℕ → List ℕ
repacked j k ns = cut k (joined j ns)

-- one zero word, but none where r is zero
abbrev pub zero_word_unless : ℕ → List ℕ
zero_word_unless zero = []
zero_word_unless (suc r) = 0 ∷ []
