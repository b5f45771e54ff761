-- Values of columns of rows of cells: of combined columns, of rows after others, and of one row.
use Rattle.std.proofs.Common.{◌≡◌, ◌∙◌, ℕ, ◌+◌, ◌*◌, ◌<◌, List, [], ◌∷◌, length, take, get_or, refl, sym, ap₂, arith}
use Rattle.std.proofs.lemmas.List.{ext_get_or, get_or-take, length-map}
use Rattle.std.proofs.lemmas.Nat.{mul-add-lt}
use Rattle.math_theory.specs.OverRing as OverRing
use Rattle.math_theory.proofs.polynomials.Coefficients.{coefficient-multiple, coefficient-sum, length-sum}
use Rattle.math_theory.proofs.polynomials.Values.{value-horner, value-multiple, value-sum}
use Rattle.math_theory.proofs.rings.Normal.{ring, ◌⊕◌, ◌⊗◌, 𝟘, v0, v1}
use Rattle.math_fields.specs.declared.goldilocks.F.{F}
use Rattle.math_fields.specs.Elements.{residue, sum, product}
use Rattle.math_transforms.specs.DomainValues.{matrix_of}
use Rattle.math_transforms.specs.Matrices.{column_of}
use Rattle.math_transforms.proofs.DomainSteps.{column-cell}
use Rattle.math_transforms.proofs.MatrixRows.{length-column}
use Rattle.math_values.proofs.ElementRing.{elements}

-- zero
abbrev pub nought : F
nought = residue 0

-- column k of n rows of c cells
abbrev pub column : ℕ → ℕ → ℕ → List F → List F
column n c k cells = column_of nought (matrix_of n c cells) k

-- the value of a list of coefficients
abbrev pub at : F → List F → F
at x p = OverRing.value elements x p

-- multiples of two lists of coefficients, added
abbrev pub combined : F → F → List F → List F → List F
combined u v p q = OverRing.polynomial_sum elements (OverRing.polynomial_multiple elements p u) (OverRing.polynomial_multiple elements q v)

-- their number, where the lists are of one length
pub combined-length : (u v : F) (p q : List F) → length q ≡ length p → length (combined u v p q) ≡ length p
combined-length u v p q e =
    length-sum sum (OverRing.polynomial_multiple elements p u) (OverRing.polynomial_multiple elements q v)
    ∙ omega (arith, e, length-map p (λ a. product a u), length-map q (λ a. product a v))

-- one of them
pub combined-item : (u v : F) (p q : List F) (i : ℕ) → get_or (combined u v p q) i nought ≡ sum (product (get_or p i nought) u) (product (get_or q i nought) v)
combined-item u v p q i = coefficient-sum elements _ _ i ∙ ap₂ sum (coefficient-multiple elements p u i) (coefficient-multiple elements q v i)

-- their value
pub combined-value : (u v x : F) (p q : List F) → at x (combined u v p q) ≡ sum (product (at x p) u) (product (at x q) v)
combined-value u v x p q = value-sum elements x _ _ ∙ ap₂ sum (value-multiple elements x p u) (value-multiple elements x q v)

-- a column whose cells are as they were
pub column_kept : (n c k : ℕ) (old new : List F) → k < c → ((r : ℕ) → r < n → get_or new (r * c + k) nought ≡ get_or old (r * c + k) nought) → column n c k new ≡ column n c k old
column_kept n c k old new l h =
    let long : length (column n c k new) ≡ n = length-column nought (matrix_of n c new) k in
    ext_get_or nought (column n c k new) (column n c k old) (long ∙ sym (length-column nought (matrix_of n c old) k))
    (λ r b. let inside : r < n = omega (arith, b, long) in
    column-cell nought n c k r new inside l ∙ h r inside ∙ sym (column-cell nought n c k r old inside l))

-- columns of cells that are the same ones are one
pub columns-equal : (n c k : ℕ) (xs ys : List F) → k < c → ((j : ℕ) → j < n * c → get_or xs j nought ≡ get_or ys j nought) → column n c k xs ≡ column n c k ys
columns-equal n c k xs ys l h = column_kept n c k ys xs l (λ r b. h (r * c + k) (let m : r * c + k < c * n = mul-add-lt r c k n b l in omega (arith, m)))

-- the value of a column of one row is the cell
pub one_row : (c k : ℕ) (x : F) (p : List F) → k < c → at x (column 1 c k p) ≡ get_or p k nought
one_row c k x p l =
    value-horner elements x (column 1 c k p)
    ∙ ring elements (get_or (take c p) k nought ∷ x ∷ []) (v0 ⊕ (v1 ⊗ 𝟘)) v0 refl
    ∙ get_or-take c p k nought l
