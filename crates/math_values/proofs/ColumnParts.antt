-- Products of halves of words, summed in four words, and the remainder of these.
use Rattle.std.proofs.Common.{◌≡◌, ◌∙◌, ℕ, ◌+◌, ◌-◌, ◌*◌, ◌/◌, ◌%◌, ◌^◌, ◌<◌, ◌≤◌, List, length, get_or, sym, ap, ap₂, arith}
use Rattle.std.proofs.lemmas.Nat.{mul-le}
use Rattle.std.proofs.lemmas.Simd.{get_or-zip2}
use Rattle.std.specs.Simd.Lanes.{zip2}
use Rattle.math_numbers.specs.Goldilocks.{P}
use Rattle.math_lanes.specs.Words.{difference_of_words}
use Rattle.math_lanes.proofs.WordReductions.{difference_of_elements}
use Rattle.math_values.specs.ColumnSums.{ArePartsOf, from_parts}

-- lane j of an operation on two vectors
pub zip-at : (f : ℕ → ℕ → ℕ) (xs ys : List ℕ) (j : ℕ) → length xs ≡ 8 → length ys ≡ 8 → j < 8 → get_or (zip2 f xs ys) j 0 ≡ f (get_or xs j 0) (get_or ys j 0)
zip-at f xs ys j long other l = get_or-zip2 f xs ys j 0 0 0 (omega arith) (omega arith)

half_product : (a b : ℕ) → a < 2 ^ 32 → b < 2 ^ 32 → a * b ≤ 18446744065119617025
half_product a b h k = mul-le a b 4294967295 4294967295 (omega arith) (omega arith)

-- the product of two halves is a word
pub times-exact : (a b : ℕ) → a < 2 ^ 32 → b < 2 ^ 32 → a * b % 2 ^ 64 ≡ a * b
times-exact a b h k = word (a * b) (half_product a b h k)
  where
    word : (m : ℕ) → m ≤ 18446744065119617025 → m % 2 ^ 64 ≡ m
    word m l = omega arith

halves_distribute : (l h m u : ℕ)
    → (l + 4294967296 * h) * (m + 4294967296 * u) ≡ l * m + 4294967296 * (l * u + h * m) + 18446744073709551616 * (h * u)
halves_distribute l h m u = grind arith

-- four products by their halves
regrouped : (m n k o : ℕ) → m + 4294967296 * (n + k) + 18446744073709551616 * o
    ≡ from_parts (m % 2 ^ 32) (m / 2 ^ 32 + (n % 2 ^ 32 + k % 2 ^ 32)) (o % 2 ^ 32 + (n / 2 ^ 32 + k / 2 ^ 32)) (o / 2 ^ 32)
regrouped m n k o = omega arith

upper_below : (m : ℕ) → m ≤ 18446744065119617025 → m / 2 ^ 32 < 2 ^ 32
upper_below m h = omega arith

pub half_below : (m : ℕ) → m % 2 ^ 32 < 2 ^ 32
half_below m = omega arith

pub upper_half : (x : ℕ) → x < 2 ^ 64 → x / 2 ^ 32 < 2 ^ 32
upper_half x h = omega arith

-- the parts of the product of two words
module _ (x w : ℕ) (hx : x < 2 ^ 64) (hw : w < 2 ^ 64) where
  abbrev m : ℕ
  m = x % 2 ^ 32 * (w % 2 ^ 32)

  abbrev n : ℕ
  n = x % 2 ^ 32 * (w / 2 ^ 32)

  abbrev k : ℕ
  k = x / 2 ^ 32 * (w % 2 ^ 32)

  abbrev o : ℕ
  o = x / 2 ^ 32 * (w / 2 ^ 32)

  pub product_parts : from_parts (m % 2 ^ 32) (m / 2 ^ 32 + (n % 2 ^ 32 + k % 2 ^ 32)) (o % 2 ^ 32 + (n / 2 ^ 32 + k / 2 ^ 32)) (o / 2 ^ 32) ≡ x * w
  product_parts =
      let first : x ≡ x % 2 ^ 32 + 4294967296 * (x / 2 ^ 32) = omega arith in
      let second : w ≡ w % 2 ^ 32 + 4294967296 * (w / 2 ^ 32) = omega arith in
      sym (ap₂ (λ y z. y * z) first second ∙ halves_distribute (x % 2 ^ 32) (x / 2 ^ 32) (w % 2 ^ 32) (w / 2 ^ 32) ∙ regrouped m n k o)

  pub first_below : m / 2 ^ 32 < 2 ^ 32
  first_below = upper_below m (half_product (x % 2 ^ 32) (w % 2 ^ 32) (half_below x) (half_below w))

  pub second_below : n / 2 ^ 32 < 2 ^ 32
  second_below = upper_below n (half_product (x % 2 ^ 32) (w / 2 ^ 32) (half_below x) (upper_half w hw))

  pub third_below : k / 2 ^ 32 < 2 ^ 32
  third_below = upper_below k (half_product (x / 2 ^ 32) (w % 2 ^ 32) (upper_half x hx) (half_below w))

  pub fourth_below : o / 2 ^ 32 < 2 ^ 32
  fourth_below = upper_below o (half_product (x / 2 ^ 32) (w / 2 ^ 32) (upper_half x hx) (upper_half w hw))

-- parts that are added to others
pub parts-more : (n a b c d p q s t e f g h : ℕ) → n < 2 ^ 24 → ArePartsOf n a b c d → ArePartsOf 1 p q s t
    → (a + p < 2 ^ 64 → e ≡ a + p) → (b + q < 2 ^ 64 → f ≡ b + q) → (c + s < 2 ^ 64 → g ≡ c + s) → (d + t < 2 ^ 64 → h ≡ d + t)
    → ArePartsOf (n + 1) e f g h × (from_parts e f g h ≡ from_parts a b c d + from_parts p q s t)
parts-more n a b c d p q s t e f g h few (ha, hb, hc, hd) (hp, hq, hs, ht) first second third fourth =
    let one = first (omega arith) in
    let two = second (omega arith) in
    let three = third (omega arith) in
    let four = fourth (omega arith) in
    ((omega (arith, one), omega (arith, two), omega (arith, three), omega (arith, four)), omega (arith, one, two, three, four))

-- one product less is left
pub product-taken : (whole y rest : ℕ) → (whole + (y % P + rest) % P) % P ≡ (whole + y + rest) % P
product-taken whole y rest = omega arith

-- the words that are reduced
pub rest_is : (a b c d : ℕ) → ArePartsOf (2 ^ 24) a b c d → difference_of_words a ((c + d) % 2 ^ 64) ≡ (a + P - (c + d)) % P
rest_is a b c d (ha, hb, hc, hd) =
    let small : (c + d) % 2 ^ 64 ≡ c + d = omega arith in
    ap (difference_of_words a) small ∙ difference_of_elements a (c + d) (omega arith) (omega arith)

pub joined_is : (a b c d : ℕ) → ArePartsOf (2 ^ 24) a b c d
    → ((a + P - (c + d)) % P + ((b + c) % 2 ^ 64 * 2 ^ 32 % 2 ^ 64 + 2 ^ 64 * ((b + c) % 2 ^ 64 / 2 ^ 32)) % P) % P ≡ from_parts a b c d % P
joined_is a b c d (ha, hb, hc, hd) =
    let small : (b + c) % 2 ^ 64 ≡ b + c = omega arith in
    ap (λ r. ((a + P - (c + d)) % P + (r * 2 ^ 32 % 2 ^ 64 + 2 ^ 64 * (r / 2 ^ 32)) % P) % P) small ∙ omega arith
