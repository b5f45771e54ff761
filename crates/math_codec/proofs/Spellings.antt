-- The groups of a length are its one spelling.
use Rattle.std.proofs.Common.{sym, ◌≡◌, ℕ, zero, suc, ◌+◌, ◌*◌, ◌/◌, ◌%◌, ◌^◌, ◌<◌, List, [], ◌∷◌, refl, ap, ◌∙◌, arith, inl, inr}
use Rattle.std.proofs.Math.Nat.{pow-succ'}
use Rattle.std.proofs.lemmas.Bool.{cases_lt}
use Rattle.std.proofs.lemmas.Nat.{div_below}
use Rattle.math_codec.specs.Lengths.{groups, length_spelling, SpellsFrom, SpellsLength}
use Rattle.math_codec.proofs.Groups.{one_group_below, groups-last, groups-marked}

-- a byte before a spelling of what is above its seven bits
pub spells_before : (place n byte : ℕ) (bytes : List ℕ) → byte ≡ 128 + n % 128 → place < 4 → SpellsFrom (place + 1) (n / 128) bytes → SpellsFrom place n (byte ∷ bytes)
spells_before place n byte [] e lt h = absurd h
spells_before place n byte (next ∷ after) e lt h = (e, lt, h)

pub groups_spell : (more place n : ℕ) → place + more ≡ 4 → (n ≡ 0 → place ≡ 0) → n < 16 * 128 ^ more → SpellsFrom place n (groups more n)
unfolding groups
groups_spell zero place n sum zeros lt = (refl, record { clear = omega arith; zero_first = zeros; fifth = λ e. omega arith })
groups_spell (suc more) place n sum zeros lt =
    elim (cases_lt n 128) [
      | inl below ↦
          rw (groups-last more n below) (refl, record { clear = below; zero_first = zeros; fifth = λ e. absurd (omega arith) })
      | inr above ↦
          let high : n / 128 < 16 * 128 ^ more = div_below n 128 (16 * 128 ^ more) (omega arith) (omega (arith, pow-succ' 128 more)) in
          let others : SpellsFrom (place + 1) (n / 128) (groups more (n / 128)) = groups_spell more (place + 1) (n / 128) (omega arith) (λ e. absurd (omega arith)) high in
          rw (groups-marked (suc more) more n refl above) (spells_before place n (128 + n % 128) (groups more (n / 128)) refl (omega arith) others)
    ]

-- what is spelled behind a first byte is not zero
pub spelled_positive : (place n : ℕ) (bytes : List ℕ) → 0 < place → SpellsFrom place n bytes → 0 < n
spelled_positive place n [] pos h = absurd h
spelled_positive place n (byte ∷ []) pos h =
    elim (cases_lt 0 n) [
      | inl some ↦ some
      | inr none ↦ absurd (omega (arith, h.1.zero_first (omega arith)))
    ]
spelled_positive place n (byte ∷ next ∷ after) pos h = omega (arith, spelled_positive (place + 1) (n / 128) (next ∷ after) (omega arith) h.2)

pub spelled_by_groups : (more place n : ℕ) (bytes : List ℕ) → place + more ≡ 4 → SpellsFrom place n bytes → bytes ≡ groups more n
unfolding groups
spelled_by_groups more place n [] sum h = absurd h
spelled_by_groups zero place n (byte ∷ []) sum h = ap (λ (b : ℕ). b ∷ []) h.0
spelled_by_groups (suc more) place n (byte ∷ []) sum h = ap (λ (b : ℕ). b ∷ []) h.0 ∙ sym (groups-last more n h.1.clear)
spelled_by_groups zero place n (byte ∷ next ∷ after) sum h = absurd (omega (arith, h.1))
spelled_by_groups (suc more) place n (byte ∷ next ∷ after) sum h =
    let above : 0 < n / 128 = spelled_positive (place + 1) (n / 128) (next ∷ after) (omega arith) h.2 in
    let others : (next ∷ after) ≡ groups more (n / 128) = spelled_by_groups more (place + 1) (n / 128) (next ∷ after) (omega arith) h.2 in
    ap (λ (b : ℕ). b ∷ next ∷ after) h.0 ∙ ap (λ (x : List ℕ). (128 + n % 128) ∷ x) others ∙ sym (groups-marked (suc more) more n refl (omega arith))

pub spelled_below : (more place n : ℕ) (bytes : List ℕ) → place + more ≡ 4 → SpellsFrom place n bytes → n < 16 * 128 ^ more
spelled_below more place n [] sum h = absurd h
spelled_below zero place n (byte ∷ []) sum h = let fifth = h.1.fifth (omega arith) in omega arith
spelled_below (suc more) place n (byte ∷ []) sum h = one_group_below (suc more) n (omega arith) h.1.clear
spelled_below zero place n (byte ∷ next ∷ after) sum h = absurd (omega (arith, h.1))
spelled_below (suc more) place n (byte ∷ next ∷ after) sum h =
    let high : n / 128 < 16 * 128 ^ more = spelled_below more (place + 1) (n / 128) (next ∷ after) (omega arith) h.2 in
    omega (arith, pow-succ' 128 more)

pub length_spelled : (n : ℕ) → n < 2 ^ 32 → SpellsLength n (length_spelling n)
length_spelled n lt = groups_spell 4 0 n refl (λ e. refl) (omega arith)

pub only_spelling : (n : ℕ) (bytes : List ℕ) → SpellsLength n bytes → bytes ≡ length_spelling n
only_spelling n bytes h = spelled_by_groups 4 0 n bytes refl h

pub length_below : (n : ℕ) (bytes : List ℕ) → SpellsLength n bytes → n < 2 ^ 32
length_below n bytes h = omega (arith, spelled_below 4 0 n bytes refl h)
