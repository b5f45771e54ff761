-- Sums of products of words and elements, as whole numbers, and their remainders.
use Rattle.std.proofs.Common.{◌≡◌, ◌∙◌, ℕ, suc, ◌+◌, ◌*◌, ◌<◌, ◌≤◌, List, [], ◌∷◌, length, map, drop, get_or, refl, sym, ap, ap₂, arith}
use Rattle.std.proofs.lemmas.List.{drop_more}
use Rattle.math_theory.specs.Sums.{weighted_sum}
use Rattle.math_theory.specs.Values.{value_from}
use Rattle.math_fields.specs.declared.goldilocks.F.{F}
use Rattle.math_fields.specs.Elements.{number, residue, sum, product}
use Rattle.math_fields.proofs.ElementNumbers.{residue-number}
use Rattle.math_values.specs.Products.{products}
use Rattle.math_values.proofs.BlockValues.{power_of, residue-joined}

-- the products from place i on
pub products-more : (words : List ℕ) (weights : List F) (i w : ℕ) (p : F) → i < length words → i < length weights → get_or words i 0 ≡ w → p ≡ get_or weights i p
    → products (drop i words) (drop i weights) ≡ w * number p + products (drop (i + 1) words) (drop (i + 1) weights)
products-more words weights i w p l m e f =
    ap₂ products (drop_more words i 0 l ∙ ap (λ b. b ∷ drop (i + 1) words) e) (drop_more weights i p m ∙ ap (λ b. b ∷ drop (i + 1) weights) (sym f))

-- the residue of a product and of more behind it
residue-front : (a b rest : ℕ) → residue (a * b + rest) ≡ sum (product (residue a) (residue b)) (residue rest)
residue-front a b rest =
    let front : F = product (residue a) (residue b) in
    ap residue (omega arith) ∙ sym (residue-joined rest a b) ∙ ap residue (let commuted : number (residue rest) + number front ≡ number front + number (residue rest) = omega arith in commuted)

-- the residue of the products of numbers is the sum of the products of elements
pub residue-products : (elements weights : List F) → residue (products (map number elements) weights) ≡ weighted_sum (residue 0) sum product elements weights
residue-products [] weights = refl
residue-products (a ∷ elements) [] = refl
residue-products (a ∷ elements) (w ∷ weights) =
    residue-front (number a) (number w) (products (map number elements) weights)
    ∙ ap₂ sum (ap₂ product (residue-number a) (residue-number w)) (residue-products elements weights)

-- the residue of the products of words and of the powers from power i on is the value of these coefficients, from power i on
pub value-from : (x : F) (i : ℕ) (words : List ℕ) (powers : List F) → length words ≤ length powers → ((j : ℕ) → j < length powers → get_or powers j (residue 0) ≡ power_of x (i + j))
    → residue (products words powers) ≡ value_from (residue 0) sum product (residue 1) product x i (map residue words)
value-from x i [] powers l h = refl
value-from x i (w ∷ words) [] l h = absurd (omega arith)
value-from x i (w ∷ words) (p ∷ powers) l h =
    residue-front w (number p) (products words powers)
    ∙ ap₂ sum
    (ap (product (residue w)) (residue-number p ∙ h 0 (omega arith) ∙ ap (power_of x) (omega arith)))
    (value-from x (suc i) words powers (omega arith) (λ j m. h (suc j) (omega arith) ∙ ap (power_of x) (omega arith)))
