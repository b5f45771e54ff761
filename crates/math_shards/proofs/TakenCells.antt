-- The first cells of a matrix, row by row.
use Rattle.std.proofs.Common.{◌≡◌, ◌∙◌, ℕ, zero, suc, ◌+◌, ◌*◌, ◌≤◌, List, [], ◌++◌, take, drop, refl, sym, ap, arith}
use Rattle.std.proofs.Math.Seq.{take-add}
use Rattle.std.specs.List.{flat_map}
use Rattle.math_transforms.specs.Matrices.{pieces}

-- the first n of r rows, joined, are the first n * c cells
joined_rows : {A : Type 0} (n r c : ℕ) (cells : List A) → n ≤ r → flat_map (λ row. row) (take n (pieces r c cells)) ≡ take (n * c) cells
joined_rows zero r c cells h = let e : 0 * c ≡ 0 = omega arith in rw e refl
joined_rows (suc n) zero c cells h = absurd (omega arith)
joined_rows (suc n) (suc r) c cells h =
    let e : c + n * c ≡ suc n * c = omega arith in
    ap (λ l. take c cells ++ l) (joined_rows n r c (drop c cells) (omega arith)) ∙ sym (take-add c (n * c) cells) ∙ ap (λ m. take m cells) e

-- nothing, and then the first n of the rows
pub joined_from_rows : {A : Type 0} (n r c : ℕ) (cells before : List A) (left : List (List A)) → n ≤ r → before ≡ [] → left ≡ take n (pieces r c cells)
    → before ++ flat_map (λ row. row) left ≡ take (n * c) cells
joined_from_rows n r c cells before left h e f = rw (e, f) (joined_rows n r c cells h)
