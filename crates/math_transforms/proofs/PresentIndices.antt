-- The indices of points as truth values, and as a rising list.
use Rattle.std.proofs.Common.{◌≡◌, inl, inr, ℕ, zero, suc, ◌+◌, ◌-◌, ◌*◌, ◌/◌, ◌<◌, ◌≤◌, ◌^◌, List, [], ◌∷◌, ◌++◌, Bool, true, false, length, take, get_or, refl, sym, ◌∙◌, ap, ap₂, subst, arith, append-nil, ◌⊎◌, Some}
use Rattle.std.proofs.Math.ListN.{set}
use Rattle.std.proofs.lemmas.Bool.{cases_eq, cases_lt}
use Rattle.std.proofs.lemmas.List.{length-append, length-map, length-take-le, take_more, get_or_default, get_or-set_same, get_or-set_other}
use Rattle.std.proofs.lemmas.List.Kept.{AllPairs-from_increasing}
use Rattle.std.proofs.lemmas.List.Elements.{Contains-push, Contains-push_cases, Contains-append_left}
use Rattle.std.proofs.lemmas.List.FromFn.{length-range_with_len, get_or-range_with_len}
use Rattle.std.proofs.lemmas.Nat.{leading_length, pow_pos}
use Rattle.std.proofs.Math.Seq.{take-length}
use Rattle.std.proofs.Math.Pow.{pow_mono}
use Rattle.std.specs.Int.{IsNextPowerOfTwo}
use Rattle.std.specs.Int.Count.{count_leading_zeros}
use Rattle.std.specs.Prelude.{max}
use Rattle.std.specs.List.{All, AllPairs, Contains, range_with_len, slice_get}
use Rattle.std.specs.Map.{keys_of, values_of}
use Rattle.math_theory.specs.Recovery.{count_true, filled_items, filled_places}
use Rattle.math_theory.proofs.recovery.FilledItems.{length-filled_items}
use Rattle.math_theory.proofs.domains.FilledProducts.{filled_place, filled_place-true, filled_items-place}
use Rattle.math_theory.proofs.lists.ListMaps.{range-append}
use Rattle.math_theory.proofs.domains.RootOrders.{power_of_two-suc}
use Rattle.math_transforms.specs.DomainValues.{HasDomain}
use Rattle.math_transforms.specs.RootWeights.{AreIndicesBelow, AreRising, AreTrueAt}

filled_items-append : {A : Type 0} (xs ys : List A) (bs cs : List Bool) → length xs ≡ length bs → filled_items (xs ++ ys) (bs ++ cs) ≡ filled_items xs bs ++ filled_items ys cs
filled_items-append [] ys [] cs h = refl
filled_items-append [] ys (b ∷ bs) cs h = absurd (omega (arith, h))
filled_items-append (x ∷ xs) ys [] cs h = absurd (omega (arith, h))
filled_items-append (x ∷ xs) ys (true ∷ bs) cs h = ap (λ rest. x ∷ rest) (filled_items-append xs ys bs cs (omega (arith, h)))
filled_items-append (x ∷ xs) ys (false ∷ bs) cs h = filled_items-append xs ys bs cs (omega (arith, h))

-- the indices of the first i truth values, and of one more
places-next : (filled : List Bool) (i : ℕ) → i < length filled
    → filled_items (range_with_len 0 (i + 1)) (take (i + 1) filled) ≡ filled_items (range_with_len 0 i) (take i filled) ++ filled_items (i ∷ []) (get_or filled i false ∷ [])
places-next filled i l =
    ap₂ filled_items (range-append 0 i 1) (take_more filled i false l)
    ∙ filled_items-append (range_with_len 0 i) (range_with_len (0 + i) 1) (take i filled) (get_or filled i false ∷ []) (length-range_with_len 0 i ∙ sym (length-take-le i filled (omega arith)))
    ∙ ap (λ n. filled_items (range_with_len 0 i) (take i filled) ++ filled_items (range_with_len n 1) (get_or filled i false ∷ [])) (let e : 0 + i ≡ i = omega arith in e)

-- an index below the total is added
pub true_at-push : (total i : ℕ) (xs : List ℕ) (filled : List Bool) → i < total → i < length filled → AreTrueAt total xs filled → AreTrueAt total (xs ++ (i ∷ [])) (set filled i true)
true_at-push total i xs filled b l h j =
    elim (cases_eq j i) [
      | inl e ↦ (
        λ z. (subst (Contains (xs ++ (i ∷ []))) (sym e) (Contains-push xs i), omega arith),
        λ z. ap (λ k. get_or (set filled i true) k false) e ∙ get_or-set_same filled i true false l,
      )
      | inr o ↦
          let same : get_or (set filled i true) j false ≡ get_or filled j false = get_or-set_other filled i j true false o in (
            λ z. let r = (h j).0 (sym same ∙ z) in (Contains-append_left xs (i ∷ []) j r.0, r.1),
            λ z. same ∙ elim (Contains-push_cases xs i j z.0) [
              | inl c ↦ (h j).1 (c, z.1)
              | inr e ↦ absurd (o (sym e))
            ],
          )
    ]

-- and another is passed over
pub true_at-skip : (total i : ℕ) (xs : List ℕ) (filled : List Bool) → total ≤ i → AreTrueAt total xs filled → AreTrueAt total (xs ++ (i ∷ [])) filled
true_at-skip total i xs filled b h j = (
  λ z. let r = (h j).0 z in (Contains-append_left xs (i ∷ []) j r.0, r.1),
  λ z. elim (Contains-push_cases xs i j z.0) [
    | inl c ↦ (h j).1 (c, z.1)
    | inr e ↦ absurd (omega (arith, e, z.1))
  ],
)

-- the lg of a number rounded up to a power of two
pub lg-rounded_up : (n r : ℕ) → 0 < n → n - 1 < 2 ^ r → 2 ^ r ≤ 2 * (n - 1) + 1 → IsNextPowerOfTwo n (2 ^ r)
lg-rounded_up n r p a b = ((r, refl), omega arith, omega arith)

not_below : (n a b : ℕ) → 0 < n → n ≤ 2 ^ a → 2 ^ b / 2 < max 1 n → a < b → ⊥
not_below n a b p h k l =
    let double : 2 ^ b ≡ 2 ^ (b - 1) + 2 ^ (b - 1) = ap (λ m. 2 ^ m) (let e : b ≡ suc (b - 1) = omega arith in e) ∙ power_of_two-suc (b - 1) in
    let above : 2 ^ a ≤ 2 ^ (b - 1) = pow_mono (omega arith) in
    omega arith

-- there is one such lg
pub lg-only : (n a b : ℕ) → 0 < n → IsNextPowerOfTwo n (2 ^ a) → IsNextPowerOfTwo n (2 ^ b) → a ≡ b
lg-only n a b p h k = grind (arith, cases_eq, cases_lt, not_below)

pub lg-of_total : (n : ℕ) → 0 < n → n < 4294967296 → IsNextPowerOfTwo n (2 ^ (32 - count_leading_zeros 32 (n - 1)))
lg-of_total n p l =
    let (m, e, a, b) = leading_length 32 (n - 1) (omega arith) in
    subst (λ r. IsNextPowerOfTwo n (2 ^ r)) (let f : m ≡ 32 - count_leading_zeros 32 (n - 1) = omega arith in f) (lg-rounded_up n m p a b)

-- the index of a true value is one more, and that of a false one is none
pub places-true : (out new : List ℕ) (filled : List Bool) (i : ℕ) → i < length filled → get_or filled i false ≡ true → out ≡ filled_items (range_with_len 0 i) (take i filled) → new ≡ out ++ (i ∷ [])
    → new ≡ filled_items (range_with_len 0 (i + 1)) (take (i + 1) filled)
places-true out new filled i l t h e = e ∙ ap (λ xs. xs ++ (i ∷ [])) h ∙ sym (places-next filled i l ∙ ap (λ b. filled_items (range_with_len 0 i) (take i filled) ++ filled_items (i ∷ []) (b ∷ [])) t)

pub places-false : (out : List ℕ) (filled : List Bool) (i : ℕ) → i < length filled → get_or filled i false ≡ false → out ≡ filled_items (range_with_len 0 i) (take i filled)
    → out ≡ filled_items (range_with_len 0 (i + 1)) (take (i + 1) filled)
places-false out filled i l t h =
    h ∙ sym (append-nil (filled_items (range_with_len 0 i) (take i filled)))
    ∙ sym (places-next filled i l ∙ ap (λ b. filled_items (range_with_len 0 i) (take i filled) ++ filled_items (i ∷ []) (b ∷ [])) t)

-- all places are looked at
pub places-all : (out : List ℕ) (filled : List Bool) (i : ℕ) → i ≡ length filled → out ≡ filled_items (range_with_len 0 i) (take i filled) → out ≡ filled_places filled
places-all out filled i e h = h ∙ ap (λ n. filled_items (range_with_len 0 n) (take n filled)) e ∙ ap (filled_items (range_with_len 0 (length filled))) (take-length filled)

append-of_none : {B : Type 0} (xs ys : List B) → length ys ≡ 0 → xs ++ ys ≡ xs
append-of_none xs [] z = append-nil xs
append-of_none xs (y ∷ ys) z = absurd (omega (arith, z))

-- the pairs that are put away have the first keys and values; where one list is at its end, both are
pub parts-all : {K A : Type 0} (keys : List K) (values : List A) (pairs : List (K × A)) (more_keys : List K) (more_values : List A) → length values ≡ length keys
    → keys_of pairs ++ more_keys ≡ keys → values_of pairs ++ more_values ≡ values → (length more_keys ≡ 0) ⊎ (length more_values ≡ 0) → (keys_of pairs ≡ keys) × (values_of pairs ≡ values)
parts-all keys values pairs more_keys more_values n k v ends = grind (arith, length-append, length-map, append-of_none)

pub read : (filled : List Bool) (i : ℕ) (b : Bool) → slice_get filled i ≡ Some b → get_or filled i false ≡ b
read [] i b e = cc
read (c ∷ filled) zero b e = cc
read (c ∷ filled) (suc i) b e = read filled i b e

-- the places of the true values: how many they are, which, and that they are below the length
pub length-places : (filled : List Bool) → length (filled_places filled) ≡ count_true filled
length-places filled = length-filled_items (range_with_len 0 (length filled)) filled (sym (length-range_with_len 0 (length filled)))

pub place-number : (filled : List Bool) (k : ℕ) → k < count_true filled → get_or (filled_places filled) k 0 ≡ filled_place filled k
place-number filled k l = grind (arith, filled_items-place, length-range_with_len, get_or-range_with_len, filled_place, filled_place-true)

pub places-below : (filled : List Bool) → All (λ place. place < length filled) (filled_places filled)
places-below filled k d l =
    let m : k < count_true filled = omega (arith, l, length-places filled) in
    subst (λ i. i < length filled) (sym (place-number filled k m) ∙ get_or_default (filled_places filled) k 0 d l) (filled_place-true filled k m).0

strictly : (a b : ℕ) → a < b → 2 ^ a ≡ 2 ^ b → ⊥
strictly a b l e =
    let double : 2 ^ suc a ≡ 2 ^ a + 2 ^ a = power_of_two-suc a in
    let above : 2 ^ suc a ≤ 2 ^ b = pow_mono (omega arith) in
    let positive : 0 < 2 ^ a = pow_pos a in
    omega arith

-- the exponent of a power of two
pub exponent-only : (a b : ℕ) → 2 ^ a ≡ 2 ^ b → a ≡ b
exponent-only a b e =
    elim (cases_eq a b) [
      | inl h ↦ h
      | inr o ↦ elim (cases_lt a b) [
        | inl l ↦ absurd (strictly a b l e)
        | inr m ↦ absurd (strictly b a (omega (arith, o)) (sym e))
      ]
    ]

pub domain-of : (greatest n lg : ℕ) → n ≡ 2 ^ lg → lg ≤ greatest → HasDomain greatest n
domain-of greatest n lg e l = λ k h. let f : k ≡ lg = exponent-only k lg (sym h ∙ e) in omega arith

-- each item is below all later ones
abbrev Rises : List ℕ → Type 0
Rises xs = AllPairs (λ x y. x < y) xs

tail : (x : ℕ) (xs : List ℕ) → Rises (x ∷ xs) → Rises xs
tail x xs h = λ i j d l m. h (suc i) (suc j) d (omega arith) (omega arith)

-- a member of a rising list is its first item, or above it and a member of the others
member : (i x : ℕ) (xs : List ℕ) → Contains (x ∷ xs) i → (i ≡ x) ⊎ Contains xs i
member i x xs (zero, l, e) = inl (sym e)
member i x xs (suc k, l, e) = inr (k, omega arith, e)

above : (i x : ℕ) (xs : List ℕ) → Rises (x ∷ xs) → Contains xs i → x < i
above i x xs h (k, l, e) =
    let less : x < get_or xs k i = h 0 (suc k) i (omega arith) (omega arith) in
    omega (arith, e, less)

-- rising lists with the same members are the same
rising-once : (xs ys : List ℕ) → Rises xs → Rises ys → ((i : ℕ) → Contains xs i → Contains ys i) → ((i : ℕ) → Contains ys i → Contains xs i) → xs ≡ ys
rising-once [] [] h k there back = refl
rising-once [] (y ∷ ys) h k there back = let found = back y (0, omega arith, refl) in absurd (omega (arith, found.1))
rising-once (x ∷ xs) [] h k there back = let found = there x (0, omega arith, refl) in absurd (omega (arith, found.1))
rising-once (x ∷ xs) (y ∷ ys) h k there back =
    let heads : x ≡ y = elim (member x y ys (there x (0, omega arith, refl))) [
      | inl e ↦ e
      | inr c ↦ elim (member y x xs (back y (0, omega arith, refl))) [
        | inl e ↦ sym e
        | inr d ↦ let a = above x y ys k c in let b = above y x xs h d in absurd (omega (arith, a, b))
      ]
    ] in
    ap₂ (λ z zs. z ∷ zs) heads
    (rising-once xs ys (tail x xs h) (tail y ys k)
    (λ i c. elim (member i y ys (there i (suc c.0, omega (arith, c.1), c.2))) [
      | inl e ↦ let a = above i x xs h c in absurd (omega (arith, a, e, heads))
      | inr d ↦ d
    ])
    (λ i c. elim (member i x xs (back i (suc c.0, omega (arith, c.1), c.2))) [
      | inl e ↦ let a = above i y ys k c in absurd (omega (arith, a, e, heads))
      | inr d ↦ d
    ]))

-- the indices that are found are those that were given
pub indices-given : (total : ℕ) (indices found : List ℕ) → AreRising total indices → AreIndicesBelow total indices found → found ≡ indices
indices-given total indices found rising h =
    rising-once found indices (AllPairs-from_increasing found h.rise) (AllPairs-from_increasing indices rising.0) (λ i c. ((h.exactly i).0 c).0) (λ i c. (h.exactly i).1 (c, member-below i c))
  where
    member-below : (i : ℕ) → Contains indices i → i < total
    member-below i c = let below = rising.1 c.0 i c.1 in omega (arith, below, c.2)
