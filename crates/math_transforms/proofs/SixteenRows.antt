-- Rows by sixteens: those whose numbers have the same bits, but for the two highest and the two lowest.
use Rattle.std.proofs.Common.{◌≡◌, ◌≢◌, ◌∙◌, ℕ, zero, suc, ◌+◌, ◌-◌, ◌*◌, ◌/◌, ◌%◌, ◌^◌, ◌<◌, ◌≤◌, reverse, refl, sym, ap, arith}
use Rattle.std.proofs.Math.Nat.{div-add-mod'}
use Rattle.std.proofs.lemmas.Nat.{div-mul-add, mod-mul-add, div_below, mul-le, pow_pos}
use Rattle.math_numbers.specs.Bits.{bits-zero, number}
use Rattle.math_theory.specs.BitReversal.{bit_reversed}
use Rattle.math_theory.proofs.transforms.BitOrder.{bit_reversed-suc, bit_reversed-below, bit_reversed-twice}
use Rattle.math_theory.proofs.domains.RootOrders.{power_of_two-suc}
use Rattle.math_transforms.proofs.ReversedBits.{reversed-high}
use Rattle.math_transforms.proofs.ReversedRows.{IsReversedBelow, reversed-stayed, reversed-exchanged}

reversed-none : (i : ℕ) → bit_reversed 0 i ≡ 0
reversed-none i = ap (λ t. number (reverse t)) (bits-zero i)

-- four bits in the opposite order
pub opposite-four : (t : ℕ) → t < 16 → bit_reversed 4 t ≡ t % 2 * 8 + t / 2 % 2 * 4 + t / 4 % 2 * 2 + t / 8
opposite-four t h =
    omega (arith, h, bit_reversed-suc 3 t, bit_reversed-suc 2 (t / 2), bit_reversed-suc 1 (t / 2 / 2), bit_reversed-suc 0 (t / 2 / 2 / 2), reversed-none (t / 2 / 2 / 2 / 2))

-- and the two highest the two lowest ones
reversed-highs : (k a l : ℕ) → a < 4 → l < 2 ^ k → bit_reversed (suc (suc k)) (a * 2 ^ k + l) ≡ 4 * bit_reversed k l + (a % 2 * 2 + a / 2)
reversed-highs k a l few below =
    let double : 2 ^ suc k ≡ 2 ^ k + 2 ^ k = power_of_two-suc k in
    let parts : a ≡ a / 2 * 2 + a % 2 = omega arith in
    let split : a * 2 ^ k ≡ a / 2 * 2 ^ suc k + a % 2 * 2 ^ k = ap (λ b. b * 2 ^ k) parts ∙ omega arith ∙ ap (λ p. a / 2 * p + a % 2 * 2 ^ k) (sym double) in
    let whole : a * 2 ^ k + l ≡ a / 2 * 2 ^ suc k + (a % 2 * 2 ^ k + l) = omega (arith, split) in
    let one : a % 2 * 2 ^ k ≤ 1 * 2 ^ k = mul-le (a % 2) (2 ^ k) 1 (2 ^ k) (omega arith) (omega arith) in
    rw whole
    (omega (arith, reversed-high (suc k) (a / 2) (a % 2 * 2 ^ k + l) (omega (arith, few)) (omega (arith, double, one, below)), reversed-high k (a % 2) l (omega arith) below))

module _ (k : ℕ) where
  -- the row that is the n-th to be visited: the sixteen of one middle, and then those of the next
  abbrev pub row_at : ℕ → ℕ
  row_at n = n % 16 / 4 * (4 * 2 ^ k) + (4 * (n / 16) + n % 4)

  -- when row r is visited
  abbrev pub turn_of : ℕ → ℕ
  turn_of r = 16 * (r % (4 * 2 ^ k) / 4) + (4 * (r / (4 * 2 ^ k)) + r % 4)

  -- when the row is visited with which the n-th one changes places
  abbrev pub partner : ℕ → ℕ
  partner n = 16 * bit_reversed k (n / 16) + bit_reversed 4 (n % 16)

  low-below : (n : ℕ) → n < 16 * 2 ^ k → 4 * (n / 16) + n % 4 < 4 * 2 ^ k
  low-below n h = omega (arith, h)

  pub row_at-below : (n : ℕ) → n < 16 * 2 ^ k → row_at n < 16 * 2 ^ k
  row_at-below n h = grind arith

  by_four : (a : ℕ) → a * (4 * 2 ^ k) ≡ 4 * (a * 2 ^ k)
  by_four a = omega arith

  pub turn_of-row : (n : ℕ) → n < 16 * 2 ^ k → turn_of (row_at n) ≡ n
  turn_of-row n h = grind (arith, div-mul-add, low-below, mod-mul-add, by_four)

  pub turn_of-below : (r : ℕ) → r < 16 * 2 ^ k → turn_of r < 16 * 2 ^ k
  turn_of-below r h = grind arith

  pub row_at-turn : (r : ℕ) → r < 16 * 2 ^ k → row_at (turn_of r) ≡ r
  row_at-turn r h = grind (arith, pow_pos, div_below, div-add-mod', by_four)

  partner-high : (n : ℕ) → partner n / 16 ≡ bit_reversed k (n / 16)
  partner-high n = let below : bit_reversed 4 (n % 16) < 16 = bit_reversed-below 4 (n % 16) in omega (arith, below)

  partner-low : (n : ℕ) → partner n % 16 ≡ bit_reversed 4 (n % 16)
  partner-low n = let below : bit_reversed 4 (n % 16) < 16 = bit_reversed-below 4 (n % 16) in omega (arith, below)

  pub partner-below : (n : ℕ) → partner n < 16 * 2 ^ k
  partner-below n = let below : bit_reversed 4 (n % 16) < 16 = bit_reversed-below 4 (n % 16) in omega (arith, below, bit_reversed-below k (n / 16))

  pub partner-twice : (n : ℕ) → n < 16 * 2 ^ k → partner (partner n) ≡ n
  partner-twice n h =
      rw (partner-high n, partner-low n, bit_reversed-twice k (n / 16) (omega (arith, h)), bit_reversed-twice 4 (n % 16) (let l : n % 16 < 16 = omega arith in l)) (omega arith)

  -- the row with which the n-th one changes places has the bits of its number in the opposite order
  pub row_at-partner : (n : ℕ) → n < 16 * 2 ^ k → row_at (partner n) ≡ bit_reversed (suc (suc (suc (suc k)))) (row_at n)
  row_at-partner n h =
      let a = n % 16 / 4 in
      let four = by_four a in
      let opposite = opposite-four (n % 16) (let l : n % 16 < 16 = omega arith in l) in
      let first : row_at n % 2 ≡ n % 2 = omega (arith, four) in
      let second : row_at n / 2 % 2 ≡ n % 4 / 2 = omega (arith, four) in
      let rest : row_at n / 2 / 2 ≡ a * 2 ^ k + n / 16 = omega (arith, four) in
      let steps = rw first at (bit_reversed-suc (suc (suc (suc k))) (row_at n)) in
      let steps_after = rw (second, rest) at (bit_reversed-suc (suc (suc k)) (row_at n / 2)) in
      let highs = reversed-highs k a (n / 16) (omega arith) (omega (arith, h)) in
      let quarter : 2 ^ suc (suc k) ≡ 4 * 2 ^ k = omega (arith, power_of_two-suc (suc k), power_of_two-suc k) in
      let half : 2 ^ suc (suc (suc k)) ≡ 8 * 2 ^ k = omega (arith, power_of_two-suc (suc (suc k)), quarter) in
      let at_first : (n % 2) * 2 ^ suc (suc (suc k)) ≡ 2 * (n % 2 * (4 * 2 ^ k)) = ap (λ p. (n % 2) * p) half ∙ omega arith in
      let at_second : (n % 4 / 2) * 2 ^ suc (suc k) ≡ n % 4 / 2 * (4 * 2 ^ k) = ap (λ p. (n % 4 / 2) * p) quarter in
      let high : partner n % 16 / 4 ≡ n % 2 * 2 + n % 4 / 2 = omega (arith, partner-low n, opposite) in
      let low : partner n % 4 ≡ a % 2 * 2 + a / 2 = omega (arith, partner-low n, opposite) in
      let left : partner n % 16 / 4 * (4 * 2 ^ k) ≡ 2 * (n % 2 * (4 * 2 ^ k)) + n % 4 / 2 * (4 * 2 ^ k) = ap (λ b. b * (4 * 2 ^ k)) high ∙ omega arith in
      omega (arith, left, low, partner-high n, steps, steps_after, highs, at_first, at_second)

-- the numbers of rows, of a quarter of them, and of the middles
pub record Sixteens (lg : ℕ) : Type 0 where
  pub bits : suc (suc (suc (suc (lg - 4)))) ≡ lg
  pub rows : 2 ^ lg ≡ 16 * 2 ^ (lg - 4)
  pub quarter : 2 ^ (lg - 2) ≡ 4 * 2 ^ (lg - 4)

pub sixteens : (lg : ℕ) → 4 ≤ lg → Sixteens lg
sixteens lg h =
    let k = lg - 4 in
    let bits : suc (suc (suc (suc k))) ≡ lg = omega arith in
    let two : suc (suc k) ≡ lg - 2 = omega arith in
    let quarter : 2 ^ suc (suc k) ≡ 4 * 2 ^ k = omega (arith, power_of_two-suc (suc k), power_of_two-suc k) in
    record {
      bits = bits;
      rows = ap (λ n. 2 ^ n) (sym bits) ∙ omega (arith, power_of_two-suc (suc (suc (suc k))), power_of_two-suc (suc (suc k)), quarter);
      quarter = ap (λ n. 2 ^ n) (sym two) ∙ quarter;
    }

-- row t around the middle, whose bits in the opposite order are those of the other middle, and the row with which it changes places
module _ (lg middle other t u quarter : ℕ) (many : 4 ≤ lg) (quarter_is : quarter ≡ 2 ^ (lg - 2)) (within : middle < 2 ^ (lg - 4)) (few : t < 16)
    (other_is : other ≡ bit_reversed (lg - 4) middle) (u_is : u ≡ bit_reversed 4 t) where
  abbrev visit : ℕ
  visit = 16 * middle + t

  abbrev here : ℕ
  here = t / 4 * quarter + (4 * middle + t % 4)

  abbrev there : ℕ
  there = u / 4 * quarter + (4 * other + u % 4)

  visit-below : visit < 16 * 2 ^ (lg - 4)
  visit-below = omega (arith, within, few)

  quarter-rows : quarter ≡ 4 * 2 ^ (lg - 4)
  quarter-rows = quarter_is ∙ (sixteens lg many).quarter

  partner-is : partner (lg - 4) visit ≡ 16 * other + u
  partner-is = grind arith

  here-is : row_at (lg - 4) visit ≡ here
  here-is = grind (arith, quarter-rows)

  pub opposite-few : u < 16
  opposite-few = let below : bit_reversed 4 t < 16 = bit_reversed-below 4 t in omega (arith, u_is, below)

  there-is : row_at (lg - 4) (partner (lg - 4) visit) ≡ there
  there-is = grind (arith, opposite-few, partner-is, quarter-rows)

  pub here-below : here < 2 ^ lg
  here-below = rw (← here-is, (sixteens lg many).rows) (row_at-below (lg - 4) visit visit-below)

  pub there-below : there < 2 ^ lg
  there-below = rw (← there-is, (sixteens lg many).rows) (row_at-below (lg - 4) (partner (lg - 4) visit) (partner-below (lg - 4) visit))

  same_turn : (m n : ℕ) → m < 16 * 2 ^ (lg - 4) → n < 16 * 2 ^ (lg - 4) → row_at (lg - 4) m ≡ row_at (lg - 4) n → m ≡ n
  same_turn m n l k e = sym (turn_of-row (lg - 4) m l) ∙ ap (turn_of (lg - 4)) e ∙ turn_of-row (lg - 4) n k

  pub here-apart : visit < 16 * other + u → here ≢ there
  here-apart l e = grind (arith, same_turn, visit-below, partner-below, here-is, there-is, partner-is)

  module _ {A : Type 0} (old now : ℕ → A) (h : IsReversedBelow (16 * 2 ^ (lg - 4)) (partner (lg - 4)) (λ n. old (row_at (lg - 4) n)) (λ n. now (row_at (lg - 4) n)) visit) where
    pub turn-stayed : 16 * other + u ≤ visit → IsReversedBelow (16 * 2 ^ (lg - 4)) (partner (lg - 4)) (λ n. old (row_at (lg - 4) n)) (λ n. now (row_at (lg - 4) n)) (visit + 1)
    turn-stayed l = reversed-stayed _ _ (partner-twice (lg - 4)) _ _ visit visit-below h (omega (arith, l, partner-is))

    pub turn-exchanged : visit < 16 * other + u → (new : ℕ → A) → new here ≡ now there → new there ≡ now here → ((r : ℕ) → r ≢ here → r ≢ there → new r ≡ now r)
        → IsReversedBelow (16 * 2 ^ (lg - 4)) (partner (lg - 4)) (λ n. old (row_at (lg - 4) n)) (λ n. new (row_at (lg - 4) n)) (visit + 1)
    turn-exchanged l new first second others =
        reversed-exchanged _ _ (partner-twice (lg - 4)) _ _ visit visit-below h (λ n. new (row_at (lg - 4) n)) (omega (arith, l, partner-is)) (partner-below (lg - 4) visit)
        (rw (here-is, there-is) first) (rw (here-is, there-is) second)
        (λ n m a b.
        others (row_at (lg - 4) n) (λ e. a (same_turn n visit m visit-below (e ∙ sym here-is)))
        (λ e. b (same_turn n (partner (lg - 4) visit) m (partner-below (lg - 4) visit) (e ∙ sym there-is))))

-- no row around the middle has to move where the other middle came before it
pub turns-stayed : {A : Type 0} (lg middle other : ℕ) → 4 ≤ lg → middle < 2 ^ (lg - 4) → other ≡ bit_reversed (lg - 4) middle → other < middle → (old now : ℕ → A)
    → IsReversedBelow (16 * 2 ^ (lg - 4)) (partner (lg - 4)) (λ n. old (row_at (lg - 4) n)) (λ n. now (row_at (lg - 4) n)) (16 * middle)
    → (m : ℕ) → m ≤ 16 → IsReversedBelow (16 * 2 ^ (lg - 4)) (partner (lg - 4)) (λ n. old (row_at (lg - 4) n)) (λ n. now (row_at (lg - 4) n)) (16 * middle + m)
turns-stayed lg middle other many within other_is before old now h zero l = let e : 16 * middle + 0 ≡ 16 * middle = omega arith in rw e h
turns-stayed lg middle other many within other_is before old now h (suc m) l =
    let next : 16 * middle + suc m ≡ 16 * middle + m + 1 = omega arith in
    let few : bit_reversed 4 m < 16 = bit_reversed-below 4 m in
    rw next
    (turn-stayed lg middle other m (bit_reversed 4 m) (2 ^ (lg - 2)) many refl within (omega (arith, l)) other_is refl old now
    (turns-stayed lg middle other many within other_is before old now h m (omega (arith, l))) (omega (arith, before, few)))

-- once all turns are over, each row has its place
pub turns-over : {A : Type 0} (lg : ℕ) → 4 ≤ lg → (old new : ℕ → A)
    → IsReversedBelow (16 * 2 ^ (lg - 4)) (partner (lg - 4)) (λ n. old (row_at (lg - 4) n)) (λ n. new (row_at (lg - 4) n)) (16 * 2 ^ (lg - 4))
    → (r : ℕ) → r < 2 ^ lg → new r ≡ old (bit_reversed lg r)
turns-over lg many old new h r l =
    let s = sixteens lg many in
    let k = lg - 4 in
    let below : r < 16 * 2 ^ k = rw (← s.rows) l in
    let turn = turn_of k r in
    let turn_below = turn_of-below k r below in
    let at : row_at k turn ≡ r = row_at-turn k r below in
    let other : row_at k (partner k turn) ≡ bit_reversed lg r = row_at-partner k turn turn_below ∙ ap (λ n. bit_reversed n (row_at k turn)) s.bits ∙ ap (bit_reversed lg) at in
    ap new (sym at) ∙ h.moved turn turn_below turn_below ∙ ap old other
