-- Bit-reversed order: the item at place i comes from the place whose bits are those of i in the opposite order, so that it is undone by itself.
use Rattle.std.proofs.Common.{◌≡◌, ℕ, zero, suc, ◌+◌, ◌-◌, ◌*◌, ◌/◌, ◌%◌, ◌<◌, ◌^◌, List, [], ◌∷◌, ◌++◌, length, map, take, drop, reverse, replicate, get_or, refl, sym, ◌∙◌, ap, ap₂, subst, arith, length-drop, append-nil, pow-suc}
use Rattle.std.proofs.Math.Nat.{mod-eq_of_lt}
use Rattle.std.proofs.lemmas.Nat.{pow_pos}
use Rattle.std.specs.List.{All}
use Rattle.std.proofs.lemmas.List.{reverse-append, reverse-reverse, length-reverse, length-take-le, get_or-take, get_or-drop, ext_get_or, take-map, drop-map}
use Rattle.std.proofs.lemmas.List.Elements.{All-head, All-tail, All-push, All-same}
use Rattle.math_numbers.specs.Bits.{bits, bits-zero, bits-suc, number, IsBit}
use Rattle.math_theory.specs.BitReversal.{interleaved, bit_reversed, bit_reversed_order}
use Rattle.math_numbers.proofs.BitLists.{length-bits, number-bits, bits-number, bits-are_bits}
use Rattle.math_theory.proofs.transforms.EvenOddItems.{length-interleaved, get_or-interleaved_even, get_or-interleaved_odd, map-interleaved}
use Rattle.math_theory.proofs.domains.RootOrders.{power_of_two-suc}

reverse-cons : {A : Type 0} (x : A) (xs : List A) → reverse (x ∷ xs) ≡ reverse xs ++ (x ∷ [])
reverse-cons x xs = reverse-append (x ∷ []) xs

all-reverse : {A : Type 0} (P : A → Type 0) (xs : List A) → All P xs → All P (reverse xs)
all-reverse P [] h = h
all-reverse P (x ∷ xs) h =
    All-same P (reverse (x ∷ xs)) (reverse xs ++ (x ∷ [])) (reverse-cons x xs) (All-push P (reverse xs) x (all-reverse P xs (All-tail P x xs h)) (All-head P x xs h))

number-push : (bs : List ℕ) (b : ℕ) → number (bs ++ (b ∷ [])) ≡ b * 2 ^ length bs + number bs
number-push [] b = omega arith
number-push (c ∷ bs) b =
    let p : 2 ^ suc (length bs) ≡ 2 ^ length bs * 2 = pow-suc 2 (length bs) in
    ap (λ t. c + 2 * t) (number-push bs b) ∙ omega (arith, ap (λ t. b * t) p)

pub bit_reversed-suc : (lg i : ℕ) → bit_reversed (suc lg) i ≡ (i % 2) * 2 ^ lg + bit_reversed lg (i / 2)
bit_reversed-suc lg i =
    ap (λ l. number (reverse l)) (bits-suc lg i) ∙ ap number (reverse-cons (i % 2) (bits lg (i / 2))) ∙ number-push (reverse (bits lg (i / 2))) (i % 2)
    ∙ ap (λ t. (i % 2) * 2 ^ t + bit_reversed lg (i / 2)) (length-reverse (bits lg (i / 2)) ∙ length-bits lg (i / 2))

number-below : (bs : List ℕ) → All IsBit bs → number bs < 2 ^ length bs
number-below [] h = omega arith
number-below (b ∷ bs) h =
    let p : 2 ^ suc (length bs) ≡ 2 ^ length bs * 2 = pow-suc 2 (length bs) in
    let small : b < 2 = All-head IsBit b bs h in
    omega (arith, p, number-below bs (All-tail IsBit b bs h))

pub bit_reversed-below : (lg i : ℕ) → bit_reversed lg i < 2 ^ lg
bit_reversed-below lg i =
    let l : length (reverse (bits lg i)) ≡ lg = length-reverse (bits lg i) ∙ length-bits lg i in
    subst (λ t. bit_reversed lg i < 2 ^ t) l (number-below (reverse (bits lg i)) (all-reverse IsBit (bits lg i) (bits-are_bits lg i)))

-- the opposite order of the opposite order is the order itself
pub bit_reversed-twice : (lg i : ℕ) → i < 2 ^ lg → bit_reversed lg (bit_reversed lg i) ≡ i
bit_reversed-twice lg i h =
    let bs = reverse (bits lg i) in
    let l : length bs ≡ lg = length-reverse (bits lg i) ∙ length-bits lg i in
    let e : bits lg (number bs) ≡ bs = bits-number lg bs (all-reverse IsBit (bits lg i) (bits-are_bits lg i)) (omega arith)
    ∙ ap (λ t. bs ++ replicate t 0) (let z : lg - length bs ≡ 0 = omega arith in z) ∙ append-nil bs in
    ap (λ t. number (reverse t)) e ∙ ap number (reverse-reverse (bits lg i)) ∙ number-bits lg i ∙ mod-eq_of_lt h

module _ {A : Type 0} where
  pub length-low : (lg : ℕ) (items : List A) → length items ≡ 2 ^ suc lg → length (take (2 ^ lg) items) ≡ 2 ^ lg
  length-low lg items h = length-take-le (2 ^ lg) items (omega (arith, power_of_two-suc lg))

  pub length-high : (lg : ℕ) (items : List A) → length items ≡ 2 ^ suc lg → length (drop (2 ^ lg) items) ≡ 2 ^ lg
  length-high lg items h = omega (arith, power_of_two-suc lg, length-drop (2 ^ lg) items)

  pub length-bit_reversed_order : (lg : ℕ) (items : List A) → length items ≡ 2 ^ lg → length (bit_reversed_order lg items) ≡ 2 ^ lg
  length-bit_reversed_order zero items h = h
  length-bit_reversed_order (suc lg) items h =
      length-interleaved (bit_reversed_order lg (take (2 ^ lg) items)) (bit_reversed_order lg (drop (2 ^ lg) items))
      ∙ omega (
        arith,
        length-bit_reversed_order lg (take (2 ^ lg) items) (length-low lg items h),
        length-bit_reversed_order lg (drop (2 ^ lg) items) (length-high lg items h),
        power_of_two-suc lg,
      )

  same_length : (lg : ℕ) (items : List A) → length items ≡ 2 ^ suc lg → length (bit_reversed_order lg (take (2 ^ lg) items)) ≡ length (bit_reversed_order lg (drop (2 ^ lg) items))
  same_length lg items h = length-bit_reversed_order lg (take (2 ^ lg) items) (length-low lg items h) ∙ sym (length-bit_reversed_order lg (drop (2 ^ lg) items) (length-high lg items h))

  module _ (d : A) (lg : ℕ) (items : List A) (h : length items ≡ 2 ^ suc lg)
      (below : (part : List A) (j : ℕ) → length part ≡ 2 ^ lg → j < 2 ^ lg → get_or (bit_reversed_order lg part) j d ≡ get_or part (bit_reversed lg j) d) where
    -- the place with lowest bit b and the bits of j above it
    place : (b j i : ℕ) → i ≡ (j + j) + b → b < 2 → j < 2 ^ lg → get_or (bit_reversed_order (suc lg) items) i d ≡ get_or items (b * 2 ^ lg + bit_reversed lg j) d
    place zero j i e l m =
        ap (λ t. get_or (bit_reversed_order (suc lg) items) t d) (let q : i ≡ j + j = omega (arith, e) in q)
        ∙ get_or-interleaved_even d (bit_reversed_order lg (take (2 ^ lg) items)) (bit_reversed_order lg (drop (2 ^ lg) items)) j (same_length lg items h)
        ∙ below (take (2 ^ lg) items) j (length-low lg items h) m ∙ get_or-take (2 ^ lg) items (bit_reversed lg j) d (bit_reversed-below lg j)
        ∙ ap (λ t. get_or items t d) (let q : bit_reversed lg j ≡ 0 * 2 ^ lg + bit_reversed lg j = omega arith in q)
    place (suc zero) j i e l m =
        ap (λ t. get_or (bit_reversed_order (suc lg) items) t d) (let q : i ≡ suc (j + j) = omega (arith, e) in q)
        ∙ get_or-interleaved_odd d (bit_reversed_order lg (take (2 ^ lg) items)) (bit_reversed_order lg (drop (2 ^ lg) items)) j (same_length lg items h)
        ∙ below (drop (2 ^ lg) items) j (length-high lg items h) m ∙ get_or-drop (2 ^ lg) items (bit_reversed lg j) d
        ∙ ap (λ t. get_or items t d) (let q : 2 ^ lg + bit_reversed lg j ≡ 1 * 2 ^ lg + bit_reversed lg j = omega arith in q)
    place (suc (suc b)) j i e l m = absurd (omega arith)

  -- the item at place i comes from the place whose bits are those of i in the opposite order
  pub get_or-bit_reversed_order : (d : A) (lg : ℕ) (items : List A) (i : ℕ) → length items ≡ 2 ^ lg → i < 2 ^ lg → get_or (bit_reversed_order lg items) i d ≡ get_or items (bit_reversed lg i) d
  get_or-bit_reversed_order d zero items i h l =
      ap (λ t. get_or items t d) (let e : i ≡ bit_reversed 0 i = (let z : i ≡ 0 = omega arith in z) ∙ sym (ap (λ t. number (reverse t)) (bits-zero i)) in e)
  get_or-bit_reversed_order d (suc lg) items i h l =
      place d lg items h (λ part j p q. get_or-bit_reversed_order d lg part j p q) (i % 2) (i / 2) i (omega arith) (omega arith) (omega (arith, power_of_two-suc lg))
      ∙ ap (λ t. get_or items t d) (sym (bit_reversed-suc lg i))

  -- two lists of 2 ^ lg items in bit-reversed order twice
  bit_reversed_order-twice_by : (d : A) (lg : ℕ) (items : List A) → length items ≡ 2 ^ lg → bit_reversed_order lg (bit_reversed_order lg items) ≡ items
  bit_reversed_order-twice_by d lg items h =
      let l : length (bit_reversed_order lg items) ≡ 2 ^ lg = length-bit_reversed_order lg items h in
      let m : length (bit_reversed_order lg (bit_reversed_order lg items)) ≡ 2 ^ lg = length-bit_reversed_order lg (bit_reversed_order lg items) l in
      ext_get_or d (bit_reversed_order lg (bit_reversed_order lg items)) items (m ∙ sym h) (λ i k.
      get_or-bit_reversed_order d lg (bit_reversed_order lg items) i l (omega arith)
      ∙ get_or-bit_reversed_order d lg items (bit_reversed lg i) h (bit_reversed-below lg i)
      ∙ ap (λ t. get_or items t d) (bit_reversed-twice lg i (omega arith)))

  -- bit-reversed order is undone by itself
  pub bit_reversed_order-twice : (lg : ℕ) (items : List A) → length items ≡ 2 ^ lg → bit_reversed_order lg (bit_reversed_order lg items) ≡ items
  bit_reversed_order-twice lg [] h = let p : 0 < 2 ^ lg = pow_pos lg in absurd (omega (arith, h, p))
  bit_reversed_order-twice lg (a ∷ items) h = bit_reversed_order-twice_by a lg (a ∷ items) h

pub bit_reversed_order-map : {A B : Type 0} (f : A → B) (lg : ℕ) (items : List A) → bit_reversed_order lg (map f items) ≡ map f (bit_reversed_order lg items)
bit_reversed_order-map f zero items = refl
bit_reversed_order-map f (suc lg) items =
    ap₂ (λ x y. interleaved (bit_reversed_order lg x) (bit_reversed_order lg y)) (take-map f (2 ^ lg) items) (drop-map f (2 ^ lg) items)
    ∙ ap₂ interleaved (bit_reversed_order-map f lg (take (2 ^ lg) items)) (bit_reversed_order-map f lg (drop (2 ^ lg) items))
    ∙ sym (map-interleaved f (bit_reversed_order lg (take (2 ^ lg) items)) (bit_reversed_order lg (drop (2 ^ lg) items)))
