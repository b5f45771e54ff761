-- Cells and rows of cells that are written one after the other.
use Rattle.std.proofs.Common.{◌≡◌, ◌∙◌, ℕ, ◌+◌, ◌*◌, ◌-◌, ◌<◌, ◌≤◌, List, ◌++◌, length, take, drop, get_or, sym, ap, arith}
use Rattle.std.proofs.Math.ListN.{set}
use Rattle.std.proofs.lemmas.Bool.{cases_eq, cases_lt}
use Rattle.std.proofs.lemmas.Grind.{get_or-set_at}
use Rattle.std.proofs.lemmas.List.{get_or-set_other, get_or_append_left, get_or-append-add, get_or-take, get_or-drop, length-take-le}
use Rattle.std.proofs.lemmas.Nat.{mul-add-lt}

module _ {A : Type 0} (d : A) (P : ℕ → A → Type 0) (initial cells : List A) (i : ℕ) (x : A) where
  -- what holds of the cells so far, and of one cell more that is written
  pub written-done : i < length cells → ((k : ℕ) → k < i → P k (get_or cells k d)) → P i x → (k : ℕ) → k < i + 1 → P k (get_or (set cells i x) k d)
  written-done l h here k m = grind (arith, cases_eq, get_or-set_at, get_or-set_other)

  -- the cells after it are as they were
  pub written-rest : ((k : ℕ) → i ≤ k → get_or cells k d ≡ get_or initial k d) → (k : ℕ) → i + 1 ≤ k → get_or (set cells i x) k d ≡ get_or initial k d
  written-rest h k m = let o : k ≡ i → ⊥ = omega arith in get_or-set_other cells i k x d o ∙ h k (omega arith)

-- n items are written over those of a list, from the place `from` on
module _ {A : Type 0} (d : A) (cells items : List A) (from n : ℕ) (within : from + n ≤ length cells) (long : length items ≡ n) where
  abbrev put : List A
  put = take from cells ++ (items ++ drop n (drop from cells))

  front-long : length (take from cells) ≡ from
  front-long = length-take-le from cells (omega arith)

  at_from : (k : ℕ) → get_or put (from + k) d ≡ get_or (items ++ drop n (drop from cells)) k d
  at_from k = ap (λ m. get_or put (m + k) d) (sym front-long) ∙ get_or-append-add (take from cells) (items ++ drop n (drop from cells)) k d

  pub put-before : (j : ℕ) → j < from → get_or put j d ≡ get_or cells j d
  put-before j l = get_or_append_left (take from cells) (items ++ drop n (drop from cells)) d j (omega (arith, front-long)) ∙ get_or-take from cells j d l

  pub put-within : (k : ℕ) → k < n → get_or put (from + k) d ≡ get_or items k d
  put-within k l = at_from k ∙ get_or_append_left items (drop n (drop from cells)) d k (omega (arith, long))

  pub put-after : (j : ℕ) → from + n ≤ j → get_or put j d ≡ get_or cells j d
  put-after j l =
      let k = j - (from + n) in
      let at : from + (n + k) ≡ j = omega (arith, l) in
      let moved : get_or put (from + (n + k)) d ≡ get_or cells (from + (n + k)) d =
      at_from (n + k) ∙ ap (λ m. get_or (items ++ drop n (drop from cells)) (m + k) d) (sym long) ∙ get_or-append-add items (drop n (drop from cells)) k d
      ∙ get_or-drop n (drop from cells) k d ∙ get_or-drop from cells (n + k) d in
      rw at at moved

-- the n items of a list from the place `from` on
pub part-read : {A : Type 0} (d : A) (cells : List A) (from n k : ℕ) → k < n → get_or (take n (drop from cells)) k d ≡ get_or cells (from + k) d
part-read d cells from n k l = get_or-take n (drop from cells) k d l ∙ get_or-drop from cells k d

-- row i of n cells is written among the cells
module _ {A : Type 0} (d : A) (P : ℕ → ℕ → A → Type 0) (initial cells row : List A) (i c n : ℕ) (e : n ≡ c) (within : i * c + c ≤ length cells) (long : length row ≡ n) where
  abbrev new : List A
  new = take (i * c) cells ++ (row ++ drop n (drop (i * c) cells))

  inside : i * c + n ≤ length cells
  inside = omega (arith, e, within)

  -- what it was
  pub row-read : (k : ℕ) → k < c → get_or (take n (drop (i * c) cells)) k d ≡ get_or cells (i * c + k) d
  row-read k l = part-read d cells (i * c) n k (omega (arith, e))

  -- what holds of the rows so far, and of this one
  pub row-done : ((j k : ℕ) → j < i → k < c → P j k (get_or cells (j * c + k) d)) → ((k : ℕ) → k < c → P i k (get_or row k d)) → (j k : ℕ) → j < i + 1 → k < c → P j k (get_or new (j * c + k) d)
  row-done h here j k l m = grind (arith, cases_lt, put-before, mul-add-lt, put-within)

  -- the rows after it are as they were
  pub row-rest : ((j : ℕ) → i * c ≤ j → get_or cells j d ≡ get_or initial j d) → (j : ℕ) → (i + 1) * c ≤ j → get_or new j d ≡ get_or initial j d
  row-rest h j l = grind (arith, put-after)
