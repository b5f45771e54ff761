-- Rows put in bit-reversed order, each pair exchanged once.
use Rattle.std.proofs.Common.{◌≡◌, ◌≢◌, ◌∙◌, inl, inr, ℕ, zero, suc, ◌+◌, ◌-◌, ◌*◌, ◌/◌, ◌%◌, ◌^◌, ◌<◌, ◌≤◌, List, get_or, refl, sym, ap, subst, arith}
use Rattle.std.proofs.lemmas.Bool.{cases_lt}
use Rattle.std.proofs.lemmas.Nat.{div-mul-add}
use Rattle.math_numbers.specs.Bits.{bits-zero, number}
use Rattle.math_theory.specs.BitReversal.{bit_reversed}
use Rattle.math_theory.proofs.transforms.BitOrder.{bit_reversed-suc, bit_reversed-below}
use Rattle.std.proofs.Common.{reverse}

-- zero has zero bits alone
pub reversed-zero : (k : ℕ) → bit_reversed k 0 ≡ 0
reversed-zero zero = ap (λ t. number (reverse t)) (bits-zero 0)
reversed-zero (suc k) = bit_reversed-suc k 0 ∙ omega (arith, reversed-zero k)

-- counting up by one, where the lowest bit is zero
next-even : (lg i : ℕ) → bit_reversed (suc lg) i < 2 ^ lg → bit_reversed (suc lg) (i + 1) ≡ bit_reversed (suc lg) i + 2 ^ lg
next-even lg i h = grind (arith, cases_lt, bit_reversed-suc)

-- and where it is one
next-odd : (lg i : ℕ) → 2 ^ lg ≤ bit_reversed (suc lg) i → (i % 2 ≡ 1) × (bit_reversed lg (i / 2) ≡ bit_reversed (suc lg) i - 2 ^ lg) × (bit_reversed (suc lg) (i + 1) ≡ bit_reversed lg (i / 2 + 1))
next-odd lg i h = elim (cases_lt (i % 2) 1) [
  | inl even ↦ let e : i % 2 ≡ 0 = omega (arith, even) in let old = rw e at (bit_reversed-suc lg i) in absurd (omega (arith, old, h, bit_reversed-below lg (i / 2)))
  | inr odd ↦
      let e : i % 2 ≡ 1 = omega (arith, odd) in
      let f : (i + 1) % 2 ≡ 0 = omega (arith, e) in
      let g : (i + 1) / 2 ≡ i / 2 + 1 = omega (arith, e) in
      let old = rw e at (bit_reversed-suc lg i) in
      let new = rw (f, g) at (bit_reversed-suc lg (i + 1)) in
      (e, omega (arith, old), omega (arith, new))
]

-- the same of numbers of lg bits, lg being positive
pub next-with_zero : (lg i : ℕ) → 0 < lg → bit_reversed lg i < 2 ^ (lg - 1) → bit_reversed lg (i + 1) ≡ bit_reversed lg i + 2 ^ (lg - 1)
next-with_zero zero i some h = absurd (omega arith)
next-with_zero (suc lg) i some h = let e : suc lg - 1 ≡ lg = omega arith in rw e (next-even lg i (rw e at h))

pub next-with_one : (lg i : ℕ) → 0 < lg → 2 ^ (lg - 1) ≤ bit_reversed lg i
    → (i % 2 ≡ 1) × (bit_reversed (lg - 1) (i / 2) ≡ bit_reversed lg i - 2 ^ (lg - 1)) × (bit_reversed lg (i + 1) ≡ bit_reversed (lg - 1) (i / 2 + 1))
next-with_one zero i some h = absurd (omega arith)
next-with_one (suc lg) i some h = let e : suc lg - 1 ≡ lg = omega arith in rw e (next-odd lg i (rw e at h))

-- what holds once the rows below i have their places
pub record IsReversedBelow {A : Type 0} (count : ℕ) (other : ℕ → ℕ) (old new : ℕ → A) (i : ℕ) : Type 0 where
  pub moved : (r : ℕ) → r < count → r < i → new r ≡ old (other r)
  pub moved_by : (r : ℕ) → r < count → other r < i → new r ≡ old (other r)
  pub kept : (r : ℕ) → r < count → i ≤ r → i ≤ other r → new r ≡ old r

module _ {A : Type 0} (count : ℕ) (other : ℕ → ℕ) (twice : (r : ℕ) → r < count → other (other r) ≡ r) (old now : ℕ → A) (i : ℕ) (within : i < count) (h : IsReversedBelow count other old now i) where
  pair : (r : ℕ) → r < count → other r ≡ i → r ≡ other i
  pair r l e = sym (twice r l) ∙ ap other e

  -- row i has its place
  pub reversed-stayed : other i ≤ i → IsReversedBelow count other old now (i + 1)
  reversed-stayed l = grind arith

  module _ (new : ℕ → A) (above : i < other i) (within_other : other i < count) (first : new i ≡ now (other i)) (second : new (other i) ≡ now i)
      (others : (r : ℕ) → r < count → r ≢ i → r ≢ other i → new r ≡ now r) where
    -- rows i and other i are exchanged
    pub reversed-exchanged : IsReversedBelow count other old new (i + 1)
    reversed-exchanged = grind arith

-- cells of different rows stand at different places
pub places-apart : (r i c a b : ℕ) → a < c → b < c → r ≢ i → r * c + a ≢ i * c + b
places-apart r i c a b l m h e = h (sym (div-mul-add r c a l) ∙ ap (λ p. p / c) e ∙ div-mul-add i c b m)

-- the first n cells of rows i and j are exchanged
pub record AreExchangedBelow {A : Type 0} (d : A) (c i j : ℕ) (old new : List A) (n : ℕ) : Type 0 where
  pub first : (k : ℕ) → k < n → get_or new (i * c + k) d ≡ get_or old (j * c + k) d
  pub second : (k : ℕ) → k < n → get_or new (j * c + k) d ≡ get_or old (i * c + k) d
  pub kept : (p : ℕ) → ((k : ℕ) → k < n → p ≢ i * c + k) → ((k : ℕ) → k < n → p ≢ j * c + k) → get_or new p d ≡ get_or old p d

module _ {A : Type 0} (d : A) (c i j : ℕ) (old : List A) where
  pub exchanged-none : AreExchangedBelow d c i j old old 0
  exchanged-none = record { first = λ k l. absurd (omega arith); second = λ k l. absurd (omega arith); kept = λ p h k. refl }

  -- and the next cells of both
  pub exchanged-more : (n : ℕ) (now new : List A) → i ≢ j → n < c → AreExchangedBelow d c i j old now n
      → get_or new (i * c + n) d ≡ get_or now (j * c + n) d → get_or new (j * c + n) d ≡ get_or now (i * c + n) d
      → ((p : ℕ) → p ≢ i * c + n → p ≢ j * c + n → get_or new p d ≡ get_or now p d) → AreExchangedBelow d c i j old new (n + 1)
  exchanged-more n now new apart within h at_first at_second others = record {
    first = λ k l. elim (cases_lt k n) [
      | inl below ↦ others (i * c + k) (λ e. absurd (omega (arith, e, below))) (places-apart i j c k n (omega (arith, below, within)) within apart) ∙ h.first k below
      | inr above ↦
          let e : n ≡ k = omega (arith, l, above) in
          subst (λ k. get_or new (i * c + k) d ≡ get_or old (j * c + k) d) e
          (at_first ∙ h.kept (j * c + n) (λ q b. places-apart j i c n q within (omega (arith, b, within)) (λ f. apart (sym f))) (λ q b f. absurd (omega (arith, f, b))))
    ];
    second = λ k l. elim (cases_lt k n) [
      | inl below ↦ others (j * c + k) (places-apart j i c k n (omega (arith, below, within)) within (λ f. apart (sym f))) (λ e. absurd (omega (arith, e, below))) ∙ h.second k below
      | inr above ↦
          let e : n ≡ k = omega (arith, l, above) in
          subst (λ k. get_or new (j * c + k) d ≡ get_or old (i * c + k) d) e
          (at_second ∙ h.kept (i * c + n) (λ q b f. absurd (omega (arith, f, b))) (λ q b. places-apart i j c n q within (omega (arith, b, within)) apart))
    ];
    kept = λ p a b. others p (a n (omega arith)) (b n (omega arith)) ∙ h.kept p (λ q m. a q (omega (arith, m))) (λ q m. b q (omega (arith, m)));
  }

  -- once all cells of both are exchanged, the rows are, and no other row is changed
  pub exchanged-rows : (new : List A) → i ≢ j → AreExchangedBelow d c i j old new c → record {
    first : (k : ℕ) → k < c → get_or new (i * c + k) d ≡ get_or old (j * c + k) d;
    second : (k : ℕ) → k < c → get_or new (j * c + k) d ≡ get_or old (i * c + k) d;
    others : (r k : ℕ) → r ≢ i → r ≢ j → k < c → get_or new (r * c + k) d ≡ get_or old (r * c + k) d;
  }
  exchanged-rows new apart h = record {
    first = h.first;
    second = h.second;
    others = λ r k a b l. h.kept (r * c + k) (λ q m. places-apart r i c k q l m a) (λ q m. places-apart r j c k q l m b);
  }
