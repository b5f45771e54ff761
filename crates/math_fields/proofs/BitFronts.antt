-- The first of some bits, and the bits after them.
use Rattle.std.proofs.Common.{◌≡◌, ℕ, zero, suc, ◌+◌, ◌-◌, ◌*◌, ◌/◌, ◌%◌, ◌^◌, ◌<◌, ◌≤◌, bit_and, List, [], ◌∷◌, ◌++◌, take, drop, length, inl, inr, sym, ap, subst, ◌∙◌, arith, pow-suc, length-append, append_assoc, append-nil, mod-eq_of_lt, add_comm, lit<}
use Rattle.std.proofs.Math.Nat.{mod-lt, pow-le-pow_right}
use Rattle.std.proofs.Math.Pow.{mod-mod-pow}
use Rattle.std.proofs.lemmas.Nat.{and_mask, pow_pos, shr-shr, shr_high}
use Rattle.std.proofs.lemmas.Nat.Bits.{ones_shr}
use Rattle.std.proofs.lemmas.List.{take_at, drop_at, take_all, drop_all, length-take, length-take-le, take-append-drop}
use Rattle.std.proofs.lemmas.List.Elements.{All-nil, All-cons, All-head, All-tail, All-take, All-drop}
use Rattle.std.proofs.lemmas.Bool.{cases_lt}
use Rattle.std.specs.List.{All}
use Rattle.math_numbers.specs.Bits.{bits, bits-zero, number, IsBit, pieces, pieces-zero, pieces-suc, cut}
use Rattle.math_numbers.proofs.BitLists.{length-bits, bits-add, bits-append, number-bits, above_below, append_below}
use Rattle.math_numbers.proofs.BitPieces.{cut-first}

-- the first k of the bits of a number below 2 ^ l write its remainder by 2 ^ k
pub number-take-bits : (k l n : ℕ) → n < 2 ^ l → number (take k (bits l n)) ≡ n % 2 ^ k
number-take-bits k l n h =
    elim (cases_lt l k) as (λ _. number (take k (bits l n)) ≡ n % 2 ^ k) [
      | inl short ↦
          let long : length (bits l n) ≡ l = length-bits l n in
          let m : 2 ^ l ≤ 2 ^ k = pow-le-pow_right (lit< tt) (omega arith) in
          ap number (take_all k (bits l n) (omega arith)) ∙ number-bits l n ∙ mod-eq_of_lt h ∙ sym (mod-eq_of_lt (omega arith))
      | inr full ↦
          let e : l ≡ k + (l - k) = omega arith in
          ap (λ t. number (take k (bits t n))) e ∙ ap (λ t. number (take k t)) (bits-add k (l - k) n)
          ∙ ap number (take_at (bits k n) (bits (l - k) (n / 2 ^ k)) k (length-bits k n)) ∙ number-bits k n
    ]

-- the bits after the first k are those of the quotient by 2 ^ k
pub drop-bits : (k l n : ℕ) → drop k (bits l n) ≡ bits (l - k) (n / 2 ^ k)
drop-bits k l n =
    elim (cases_lt l k) as (λ _. drop k (bits l n) ≡ bits (l - k) (n / 2 ^ k)) [
      | inl short ↦
          let long : length (bits l n) ≡ l = length-bits l n in
          let z : l - k ≡ 0 = omega arith in
          drop_all k (bits l n) (omega arith) ∙ sym (bits-zero (n / 2 ^ k)) ∙ ap (λ t. bits t (n / 2 ^ k)) (sym z)
      | inr full ↦
          let e : l ≡ k + (l - k) = omega arith in
          ap (λ t. drop k (bits t n)) e ∙ ap (drop k) (bits-add k (l - k) n) ∙ drop_at (bits k n) (bits (l - k) (n / 2 ^ k)) k (length-bits k n)
    ]

pub length-both : (c m v x : ℕ) → length (bits c v ++ bits m x) ≡ c + m
length-both c m v x = omega (arith, length-append (bits c v) (bits m x), length-bits c v, length-bits m x)

-- The c bits of v, and above them the m bits of a word x: the first w of both, and the bits after those.
module _ (c m w v x : ℕ) (v-below : v < 2 ^ c) (x-below : x < 2 ^ m) where
  abbrev both : ℕ
  both = (v + x * 2 ^ c % 2 ^ 64) % 2 ^ 64

  wrapped : (a b : ℕ) → (a + b % 2 ^ 64) % 2 ^ 64 ≡ (a + b) % 2 ^ 64
  wrapped a b = omega arith

  masked : w ≤ 64 → bit_and both ((2 ^ 64 - 1) / 2 ^ (64 - w)) ≡ both % 2 ^ w
  masked h =
      let e : 64 - (64 - w) ≡ w = omega arith in
      ap (bit_and both) (ones_shr 64 (64 - w) (omega arith) ∙ ap (λ t. 2 ^ t - 1) e) ∙ and_mask both w

  pub first-below : w ≤ 64 → bit_and both ((2 ^ 64 - 1) / 2 ^ (64 - w)) < 2 ^ w
  first-below h = subst (λ t. t < 2 ^ w) (sym (masked h)) (mod-lt both (pow_pos w))

  pub first-number : w ≤ 64 → bit_and both ((2 ^ 64 - 1) / 2 ^ (64 - w)) ≡ number (take w (bits c v ++ bits m x))
  first-number h =
      let e : 64 ≡ (64 - w) + w = omega arith in
      masked h ∙ ap (λ t. t % 2 ^ w) (wrapped v (x * 2 ^ c)) ∙ ap (λ t. (v + x * 2 ^ c) % 2 ^ t % 2 ^ w) e ∙ mod-mod-pow (v + x * 2 ^ c) (64 - w) w
      ∙ sym (number-take-bits w (c + m) (v + x * 2 ^ c) (append_below c m v x v-below x-below)) ∙ ap (λ l. number (take w l)) (sym (bits-append c m v x v-below))

  pub rest-below : c ≤ w → w ≤ c + m → x / 2 ^ (w - c) < 2 ^ (c + m - w)
  rest-below l r = let e : m - (w - c) ≡ c + m - w = omega arith in subst (λ t. x / 2 ^ (w - c) < 2 ^ t) e (above_below x (w - c) m x-below)

  pub rest-bits : c ≤ w → bits (c + m - w) (x / 2 ^ (w - c)) ≡ drop w (bits c v ++ bits m x)
  rest-bits l =
      let e : w ≡ c + (w - c) = omega arith in
      let above : (v + x * 2 ^ c) / 2 ^ c ≡ x = ap (λ t. t / 2 ^ c) (add_comm v (x * 2 ^ c)) ∙ shr_high x c v v-below in
      let high : (v + x * 2 ^ c) / 2 ^ w ≡ x / 2 ^ (w - c) = ap (λ t. (v + x * 2 ^ c) / 2 ^ t) e ∙ sym (shr-shr (v + x * 2 ^ c) c (w - c)) ∙ ap (λ t. t / 2 ^ (w - c)) above in
      ap (bits (c + m - w)) (sym high) ∙ sym (drop-bits w (c + m) (v + x * 2 ^ c)) ∙ ap (drop w) (sym (bits-append c m v x v-below))

-- The first piece of k bits, or of all where fewer wait and no more follow, and what is cut after it.
pub cut-waiting : (k : ℕ) (waiting more : List ℕ) → 0 < k → 0 < length waiting → (length waiting < k → more ≡ [])
    → cut k (waiting ++ more) ≡ number (take k waiting) ∷ cut k (drop k waiting ++ more)
cut-waiting k waiting more positive some last =
    elim (cases_lt (length waiting) k) as (λ _. cut k (waiting ++ more) ≡ number (take k waiting) ∷ cut k (drop k waiting ++ more)) [
      | inl short ↦
          ap (λ l. cut k (waiting ++ l)) (last short) ∙ ap (cut k) (append-nil waiting) ∙ cut-first k positive waiting some
          ∙ ap (λ l. number (take k waiting) ∷ cut k l) (sym (append-nil (drop k waiting))) ∙ ap (λ l. number (take k waiting) ∷ cut k (drop k waiting ++ l)) (sym (last short))
      | inr full ↦
          let long : length (take k waiting) ≡ k = length-take-le k waiting full in
          let after : List ℕ = drop k waiting ++ more in
          let parts : waiting ++ more ≡ take k waiting ++ after = ap (λ l. l ++ more) (sym (take-append-drop k waiting)) ∙ append_assoc (take k waiting) (drop k waiting) more in
          cut-first k positive (waiting ++ more) (omega (arith, length-append waiting more)) ∙ ap (λ l. number (take k l) ∷ cut k (drop k l)) parts
          ∙ ap (λ l. number l ∷ cut k (drop k (take k waiting ++ after))) (take_at (take k waiting) after k long)
          ∙ ap (λ l. number (take k waiting) ∷ cut k l) (drop_at (take k waiting) after k long)
    ]

pub number_below : (k : ℕ) (bs : List ℕ) → All IsBit bs → length bs ≤ k → number bs < 2 ^ k
number_below k [] h l = pow_pos k
number_below zero (b ∷ bs) h l = absurd (omega arith)
number_below (suc k) (b ∷ bs) h l =
    let bit : b < 2 = All-head IsBit b bs h in
    let rest : number bs < 2 ^ k = number_below k bs (All-tail IsBit b bs h) (omega arith) in
    let p : 2 ^ suc k ≡ 2 ^ k * 2 = pow-suc 2 k in
    omega arith

-- pieces of k bits write numbers below 2 ^ k
pub pieces_below : (k m : ℕ) (bs : List ℕ) → All IsBit bs → All (λ n. n < 2 ^ k) (pieces k m bs)
pieces_below k zero bs h = subst (All (λ n. n < 2 ^ k)) (sym (pieces-zero k bs)) (All-nil (λ n. n < 2 ^ k))
pieces_below k (suc m) bs h =
    let few : length (take k bs) ≤ k = omega (arith, length-take k bs) in
    subst (All (λ n. n < 2 ^ k)) (sym (pieces-suc k m bs))
    (All-cons (λ n. n < 2 ^ k) (number (take k bs)) (pieces k m (drop k bs)) (number_below k (take k bs) (All-take IsBit k bs h) few) (pieces_below k m (drop k bs) (All-drop IsBit k bs h)))
