-- Words under a mask.
use Rattle.std.proofs.Common.{◌≡◌, ◌≢◌, ◌∙◌, inl, inr, ℕ, suc, ◌+◌, ◌-◌, ◌*◌, ◌/◌, ◌%◌, ◌<◌, ◌^◌, List, Bool, true, false, get_or, sym, ap, ap₂, true≢false, arith, bit_and, bit_xor}
use Rattle.std.proofs.lemmas.Bool.{cases_lt}
use Rattle.math_numbers.proofs.Pigeonhole.{pigeonhole}
use Rattle.std.proofs.lemmas.Nat.{xor_comm, xor_block, xor_lt, shr_split, and-not, shr_high, mod_low, shr_below, shl_whole, pow_pos, mod_below}
use Rattle.std.specs.Int.Bits.{and_self, xor_add_and, xor_assoc, xor_self, xor_zero_r}
use Rattle.math_numbers.specs.Goldilocks.{P}
use Rattle.systematic_shards.specs.Masks.{AreTaken, IsFree, IsFreeOf, IsLeastMask, UnmaskedIsMasked, complement, high_half, masked_number}

-- xor twice is nothing
pub xor-twice : (a m : ℕ) → bit_xor (bit_xor a m) m ≡ a
xor-twice a m = xor_assoc a m m ∙ ap (bit_xor a) (xor_self m) ∙ xor_zero_r a

-- a half of 32 bits xor its complement is all ones
xor-complement : (h : ℕ) → h < 2 ^ 32 → bit_xor (2 ^ 32 - 1 - h) h ≡ 2 ^ 32 - 1
xor-complement h l =
    let none : bit_and (2 ^ 32 - 1 - h) h ≡ 0 = omega (arith, and-not 32 h h l l, and_self h) in
    omega (arith, xor_add_and (2 ^ 32 - 1 - h) h, none, l)

-- so a half xor a number is all ones exactly where the number is its complement
pub ones-complement : (h m : ℕ) → h < 2 ^ 32 → bit_xor h m ≡ 2 ^ 32 - 1 → m ≡ 2 ^ 32 - 1 - h
ones-complement h m l e =
    sym (xor-twice m h) ∙ ap (λ x. bit_xor x h) (xor_comm m h ∙ e ∙ sym (xor-complement h l)) ∙ xor-twice (2 ^ 32 - 1 - h) h

pub complement-ones : (h m : ℕ) → h < 2 ^ 32 → m ≡ 2 ^ 32 - 1 - h → bit_xor h m ≡ 2 ^ 32 - 1
complement-ones h m l e = ap (bit_xor h) e ∙ xor_comm h (2 ^ 32 - 1 - h) ∙ xor-complement h l

pub half-below : (word : ℕ) → word < 2 ^ 64 → high_half word < 2 ^ 32
half-below word l = shr_below word 32 32 l

low-below : (word : ℕ) → word % 2 ^ 32 < 2 ^ 32
low-below word = mod_below word (2 ^ 32) (pow_pos 32)

-- xor with the mask in the high half
pub xor-mask : (word mask : ℕ) → mask < 2 ^ 32 → bit_xor word ((mask * 4294967296) % 18446744073709551616) ≡ masked_number mask word
xor-mask word mask l =
    let whole : (mask * 2 ^ 32) % 2 ^ 64 ≡ mask * 2 ^ 32 + 0 = omega (arith, shl_whole mask 32 32 64 l (omega arith)) in
    ap₂ (λ x y. bit_xor x y) (sym (shr_split word 32)) whole
    ∙ xor_block 32 (word / 2 ^ 32) mask (word % 2 ^ 32) 0 (low-below word) (pow_pos 32)
    ∙ ap (λ r. bit_xor (word / 2 ^ 32) mask * 2 ^ 32 + r) (xor_zero_r (word % 2 ^ 32))

-- under a mask that is free of it a word is below P - 1
pub masked-below : (word mask : ℕ) → word < 2 ^ 64 → mask < 2 ^ 32 → IsFreeOf mask word → masked_number mask word + 1 < P
masked-below word mask l m free =
    let h = bit_xor (high_half word) mask in
    let b : h < 2 ^ 32 = xor_lt 32 (high_half word) mask (half-below word l) m in
    omega (arith, b, free, low-below word)

-- masked twice a word is what it was
pub masked-twice : UnmaskedIsMasked
masked-twice mask word m l =
    let h = bit_xor (high_half word) mask in
    ap₂ (λ x y. bit_xor x mask * 2 ^ 32 + y) (shr_high h 32 (word % 2 ^ 32) (low-below word)) (mod_low h 32 (word % 2 ^ 32) (low-below word))
    ∙ ap (λ x. x * 2 ^ 32 + word % 2 ^ 32) (xor-twice (high_half word) mask)
    ∙ shr_split word 32

-- under mask 0 a word is as it is
pub mask-nothing : (word : ℕ) → masked_number 0 word ≡ word
mask-nothing word = ap (λ h. h * 2 ^ 32 + word % 2 ^ 32) (xor_zero_r (high_half word)) ∙ shr_split word 32

-- a word under a mask is a word
pub masked-word : (mask word : ℕ) → mask < 2 ^ 32 → word < 2 ^ 64 → masked_number mask word < 2 ^ 64
masked-word mask word m l =
    let h = bit_xor (high_half word) mask in
    let b : h < 2 ^ 32 = xor_lt 32 (high_half word) mask (half-below word l) m in
    omega (arith, b, low-below word)

module _ (n : ℕ) (word : ℕ → ℕ) (taken : List Bool) (T : AreTaken n word n taken) where
  taken-not-free : (m : ℕ) → get_or taken m false ≡ true → ¬ (IsFree n word m)
  taken-not-free m is free =
      let (t, l, e) = T.sound m is in
      free t l (complement-ones (high_half (word t)) m (half-below (word t) (T.fit t l)) (sym e))

  free-of-others : (m : ℕ) → ((t : ℕ) → t < n → complement (word t) ≢ m) → IsFree n word m
  free-of-others m h k l e = h k l (sym (ones-complement (high_half (word k)) m (half-below (word k) (T.fit k l)) e))

  -- the first place that is not taken is the least mask
  pub least-place : (m : ℕ) → m < n → get_or taken m false ≡ false → ((j : ℕ) → j < m → get_or taken j false ≡ true) → IsLeastMask n word m
  least-place m l open_there before = record {
    free = free-of-others m (λ t b e.
        true≢false (sym (T.complete t b (omega (arith, l, e))) ∙ ap (λ j. get_or taken j false) e ∙ open_there));
    least = λ j b. taken-not-free j (before j b);
  }

  -- where all places are taken, it is the number of the words: else one more numbers than words would be complements
  pub least-past : ((j : ℕ) → j < n → get_or taken j false ≡ true) → IsLeastMask n word n
  least-past all = record {
    free = free-of-others n (λ t b e.
        let pick : (i : ℕ) → (u : ℕ) × (i < suc n → (u < n) × (complement (word u) ≡ i)) =
        λ i. elim (cases_lt i n) as (λ _. (u : ℕ) × (i < suc n → (u < n) × (complement (word u) ≡ i))) [
          | inl before ↦ let (u, m, f) = T.sound i (all i before) in (u, λ _. (m, f))
          | inr after ↦ (t, λ c. (b, omega (arith, e, after, c)))
        ] in
        pigeonhole (suc n) n (λ i. (pick i).0) (omega arith) (λ i l. ((pick i).1 l).0)
        (λ i j before l same.
        let of_i = ((pick i).1 (omega (arith, before, l))).1 in
        let of_j = ((pick j).1 l).1 in
        omega (arith, before, of_i, of_j, ap (λ u. complement (word u)) same)));
    least = λ j b. taken-not-free j (all j b);
  }
