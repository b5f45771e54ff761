-- Cells that are copied one after the other.
use Rattle.std.proofs.Common.{◌≡◌, ℕ, ◌+◌, ◌<◌, List, length, get_or, set, arith}
use Rattle.std.proofs.lemmas.Bool.{cases_lt}
use Rattle.std.proofs.lemmas.List.{get_or_default, get_or-set_same, get_or-set_other}

-- the first n cells are copies
abbrev pub AreCopiedBelow : {A : Type 0} → (A → A → Type 0) → A → List A → List A → ℕ → Type 0
AreCopiedBelow same d items copies n = (q : ℕ) → q < n → same (get_or copies q d) (get_or items q d)

pub copied-more : {A : Type 0} (same : A → A → Type 0) (d : A) (items now : List A) (n : ℕ) (x y : A) → n < length items → n < length now → y ≡ get_or items n y → same x y
    → AreCopiedBelow same d items now n → AreCopiedBelow same d items (set now n x) (n + 1)
copied-more same d items now n x y l m is s h q b = grind (arith, cases_lt, get_or-set_other, get_or-set_same, get_or_default)
