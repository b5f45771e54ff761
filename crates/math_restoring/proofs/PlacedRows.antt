-- Rows of products that are placed in the order of a tree, and columns that are taken from the first rows of a room.
use Rattle.std.proofs.Common.{◌≡◌, ◌≢◌, ◌∙◌, inl, inr, ℕ, ◌+◌, ◌*◌, ◌<◌, ◌≤◌, ◌^◌, List, ◌++◌, length, take, drop, get_or, sym, ap, arith}
use Rattle.std.specs.List.{All}
use Rattle.std.proofs.lemmas.Bool.{cases_lt}
use Rattle.std.proofs.lemmas.List.{length-drop, length-take-le}
use Rattle.std.proofs.lemmas.Nat.{mul-add-lt}
use Rattle.math_fields.specs.declared.goldilocks.F.{F}
use Rattle.math_fields.specs.Elements.{number, product, same}
use Rattle.math_transforms.proofs.WrittenCells.{row-within}
use Rattle.math_transforms.proofs.WrittenRows.{part-read, put-after, put-before, put-within}
use Rattle.math_restoring.specs.Restored.{AreDistinct, ArePlacesOf, AreTaken}
use Rattle.math_restoring.proofs.CombinedColumns.{nought}
use Rattle.math_transforms.proofs.ReversedBits.{reversed-only}

-- the places of distinct indices are distinct
pub distinct-places : (lg : ℕ) (indices places : List ℕ) → All (λ i. i < 2 ^ lg) indices → AreDistinct indices → ArePlacesOf lg indices places → AreDistinct places
distinct-places lg indices places below distinct are i j a b e =
    let here : j < length indices = omega (arith, b, are.count) in
    let there : i < length indices = omega (arith, a, here) in
    distinct i j a here
    (reversed-only lg (get_or indices i 0) (get_or indices j 0) (below i 0 there) (below j 0 here) (sym (are.each i there) ∙ e ∙ are.each j here))

-- the products of the first t rows stand at their places, and the cells at other places are zero
pub record ArePlacedBefore (n : ℕ) (places : List ℕ) (factors : List F) (c : ℕ) (cell : ℕ → ℕ → F) (t : ℕ) (room : List F) : Type 0 where
  pub placed : (s k : ℕ) → s < t → k < c → same (get_or room (get_or places s 0 * c + k) nought) (product (cell s k) (get_or factors (get_or places s 0) nought))
  pub others : (p k : ℕ) → p < n → k < c → ((s : ℕ) → s < t → get_or places s 0 ≢ p) → same (get_or room (p * c + k) nought) nought

-- A row more.
module _ (n : ℕ) (places : List ℕ) (factors : List F) (c : ℕ) (cell : ℕ → ℕ → F) (t now m : ℕ) (room row : List F) (e : m ≡ c) (is : now ≡ get_or places t 0)
    (distinct : AreDistinct places) (l : t < length places) (inside : now * c + c ≤ length room) (long : length row ≡ m)
    (made : (k : ℕ) → k < c → same (get_or row k nought) (product (cell t k) (get_or factors (get_or places t 0) nought))) where
  abbrev pub placed : List F
  placed = take (now * c) room ++ (row ++ drop m (drop (now * c) room))

  -- the row lies within the room
  placed_fits : now * c + m ≤ length room
  placed_fits = omega (arith, e, inside)

  -- a cell at another place is as it was
  elsewhere : (p k : ℕ) → (now ≢ p) → k < c → get_or placed (p * c + k) nought ≡ get_or room (p * c + k) nought
  elsewhere p k apart b = elim (cases_lt p now) as (λ _. get_or placed (p * c + k) nought ≡ get_or room (p * c + k) nought) [
    | inl low ↦ put-before nought room row (now * c) m placed_fits long (p * c + k) (omega (arith, mul-add-lt p c k now low b))
    | inr high ↦
        let more : now < p = omega (arith, high, apart) in
        put-after nought room row (now * c) m placed_fits long (p * c + k) (omega (arith, row-within now p c more, e))
  ]

  -- its products stand at its place, and the others are as they were
  pub placed-more : ArePlacedBefore n places factors c cell t room → ArePlacedBefore n places factors c cell (t + 1) placed
  placed-more h = record {
    placed = λ s k a b. elim (cases_lt s t)
        as (λ _. same (get_or placed (get_or places s 0 * c + k) nought) (product (cell s k) (get_or factors (get_or places s 0) nought))) [
          | inl before ↦
              ap number (elsewhere (get_or places s 0) k (λ same_place. distinct s t before l (sym same_place ∙ is)) b)
              ∙ h.placed s k before b
          | inr o ↦
              let same_row : s ≡ t = omega (arith, a, o) in
              let here : get_or placed (get_or places t 0 * c + k) nought ≡ get_or row k nought =
              ap (λ q. get_or placed (q * c + k) nought) (sym is) ∙ put-within nought room row (now * c) m placed_fits long k (omega (arith, b, e)) in
              rw same_row (ap number here ∙ made k b)
        ];
    others = λ p k a b apart. ap number (elsewhere p k (λ same_place. apart t (omega arith) (sym is ∙ same_place)) b) ∙ h.others p k a b (λ s before. apart s (omega (arith, before)));
  }

-- row i gets c cells of row i of the room, from column `from` on
module _ (width from c i n m : ℕ) (room initial cells : List F) (e : n ≡ c) (q : m ≡ c) (within : from + c ≤ width)
    (inside : i * width + width ≤ length cells) (there : i * c + c ≤ length room) where
  abbrev taken_row : List F
  taken_row = take m (drop (i * c) room)

  abbrev pub taken : List F
  taken = take (i * width + from) cells ++ (taken_row ++ drop n (drop (i * width + from) cells))

  taken_long : length taken_row ≡ n
  taken_long = length-take-le m (drop (i * c) room) (omega (arith, q, there, length-drop (i * c) room)) ∙ (omega (arith, e, q))

  taken_fits : i * width + from + n ≤ length cells
  taken_fits = omega (arith, e, within, inside)

  -- a cell of a row before it is as it was
  earlier : (j k : ℕ) → j < i → k < width → get_or taken (j * width + k) nought ≡ get_or cells (j * width + k) nought
  earlier j k before b =
      put-before nought cells taken_row (i * width + from) n taken_fits taken_long (j * width + k) (omega (arith, mul-add-lt j width k i before b))

  -- the rows so far, and this one
  pub taken-more : AreTaken width from c i room initial cells → ((p : ℕ) → i * width ≤ p → get_or cells p nought ≡ get_or initial p nought)
      → AreTaken width from c (i + 1) room initial taken
  taken-more h left = record {
    written = λ j k a b. elim (cases_lt j i) [
      | inl before ↦ earlier j (from + k) before (omega (arith, b, within)) ∙ h.written j k before b
      | inr o ↦
          let same_row : j ≡ i = omega (arith, a, o) in
          let place : i * width + from + k ≡ i * width + (from + k) = omega arith in
          rw same_row (ap (λ p. get_or taken p nought) (sym place) ∙ put-within nought cells taken_row (i * width + from) n taken_fits taken_long k (omega (arith, b, e))
          ∙ part-read nought room (i * c) m k (omega (arith, q, b)))
    ];
    before = λ j k a b. elim (cases_lt j i) [
      | inl before ↦ earlier j k before (omega (arith, b, within)) ∙ h.before j k before b
      | inr o ↦
          let same_row : j ≡ i = omega (arith, a, o) in
          rw same_row (put-before nought cells taken_row (i * width + from) n taken_fits taken_long (i * width + k) (omega (arith, b)) ∙ left (i * width + k) (omega arith))
    ];
    after = λ j k a b l. elim (cases_lt j i) [
      | inl before ↦ earlier j k before l ∙ h.after j k before b l
      | inr o ↦
          let same_row : j ≡ i = omega (arith, a, o) in
          rw same_row (put-after nought cells taken_row (i * width + from) n taken_fits taken_long (i * width + k) (omega (arith, b, e)) ∙ left (i * width + k) (omega arith))
    ];
  }

  -- the rows after it are as they were
  pub untaken-more : ((p : ℕ) → i * width ≤ p → get_or cells p nought ≡ get_or initial p nought) → (p : ℕ) → (i + 1) * width ≤ p → get_or taken p nought ≡ get_or initial p nought
  untaken-more left p l =
      let next : (i + 1) * width ≡ i * width + width = omega arith in
      put-after nought cells taken_row (i * width + from) n taken_fits taken_long p (omega (arith, next, e, within, l)) ∙ left p (omega (arith, next, l))
