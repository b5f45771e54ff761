-- Values of polynomials block by block, and words that are P or more.
use Rattle.std.proofs.Common.{◌≡◌, ◌∙◌, ℕ, ◌+◌, ◌*◌, ◌%◌, ◌<◌, ◌≤◌, ◌↔◌, Bool, true, false, leb, List, [], ◌∷◌, ◌++◌, All, length, map, take, drop, get_or, refl, subst, sym, ap, ap₂, arith}
use Rattle.std.specs.Int.{from_bool}
use Rattle.std.proofs.Math.Nat.{mod-add-mod, add-mod-mod}
use Rattle.std.proofs.lemmas.Bool.{leb-true, leb-false}
use Rattle.std.proofs.lemmas.List.{length-append, length-take-le, take_all, take-take, drop-take, drop-map, take-map, take-append-drop}
use Rattle.std.proofs.lemmas.List.Elements.{All-append, All-drop, All-get_or, All-more, All-take}
use Rattle.std.proofs.lemmas.List.Folds.{map_fixed}
use Rattle.std.proofs.lemmas.Nat.{mul-mod}
use Rattle.math_numbers.specs.Goldilocks.{P}
use Rattle.math_theory.specs.Laws.{IsMonoid}
use Rattle.math_theory.specs.Powers.{power}
use Rattle.math_theory.proofs.polynomials.BuiltPolynomials.{value-joined}
use Rattle.math_fields.specs.declared.goldilocks.F.{F}
use Rattle.math_fields.specs.Elements.{number, residue, same, sum, product, goldilocks}
use Rattle.math_fields.specs.ElementLaws.{equality, group, commutes, ring}
use Rattle.math_base.specs.Polynomials.{value_in_ring}
use Rattle.math_base.proofs.PlaceByPlace.{each_place_next}
use Rattle.math_base.proofs.SquareAndMultiply.{power-add}
use Rattle.math_fields.proofs.ElementNumbers.{same_number, residue-number}
use Rattle.math_values.specs.Values.{ArePowersOf}

abbrev value_of : List F → F → F
value_of coefficients x = value_in_ring goldilocks coefficients x

abbrev pub power_of : F → ℕ → F
power_of x n = power (residue 1) product x n

-- a sum and a product of elements is the residue of that sum and product
pub residue-joined : (a t b : ℕ) → sum (residue a) (product (residue t) (residue b)) ≡ residue (a + t * b)
residue-joined a t b = same_number _ _ (ap (λ y. (a % P + y) % P) (sym (mul-mod t b P)) ∙ mod-add-mod a P (t * b % P) ∙ add-mod-mod a (t * b) P)

-- a test counts one at most
pub from_bool-le : (b : Bool) → from_bool b ≤ 1
from_bool-le true = omega arith
from_bool-le false = omega arith

module _ {A : Type 0} (word : A → ℕ) where
  abbrev pub IsBelow : A → Type 0
  IsBelow a = word a < P

  -- of the first i items, so many are P or more as words
  pub record AreCounted (items : List A) (i above : ℕ) : Type 0 where
    pub none : above ≡ 0 → All IsBelow (take i items)
    pub all : All IsBelow items → above ≡ 0

  pub none-counted : (items : List A) → AreCounted items 0 0
  none-counted items = record { none = λ e k d l. absurd (omega arith); all = λ h. refl }

  -- one item more
  pub counted-more : (items : List A) (i above : ℕ) (a : A) → i < length items → a ≡ get_or items i a → AreCounted items i above
      → AreCounted items (i + 1) (above + from_bool (leb P (word a)))
  counted-more items i above a l e h = by_test (leb P (word a)) refl
    where
      by_test : (b : Bool) → leb P (word a) ≡ b → AreCounted items (i + 1) (above + from_bool b)
      by_test true t = record {
        none = λ z. absurd (omega arith);
        all = λ hs. let small : word (get_or items i a) < P = All-get_or IsBelow items i a l hs in
            let here : word a < P = rw e small in absurd (omega (arith, here, leb-true P (word a) t));
      }
      by_test false t = record {
        none = λ z. All-more IsBelow items i a l (h.none (omega arith)) (let here : word a < P = leb-false P (word a) t in rw (← e) here);
        all = λ hs. let z = h.all hs in omega arith;
      }

-- a list as far as the end of a block
take-block : {A : Type 0} (xs : List A) (from size : ℕ) → take from xs ++ take size (drop from xs) ≡ take (from + size) xs
take-block xs from size =
    ap₂ (λ a b. a ++ b) (sym (take-take from (from + size) xs (omega arith))) (sym (drop-take from size xs)) ∙ take-append-drop from (take (from + size) xs)

-- further items are counted
pub counted-block : {A : Type 0} (word : A → ℕ) (items : List A) (from size above more : ℕ)
    → ((more ≡ 0 → All (IsBelow word) (take size (drop from items))) × (All (IsBelow word) (take size (drop from items)) → more ≡ 0))
    → AreCounted word items from above → AreCounted word items (from + size) (above + more)
counted-block word items from size above more h before = record {
  none = λ z.
      rw (← take-block items from size)
      (All-append (IsBelow word) (take from items) (take size (drop from items)) (before.none (omega arith)) (h.0 (omega arith)));
  all = λ hs.
      let front = before.all hs in
      let rest = h.1 (All-take (IsBelow word) size (drop from items) (All-drop (IsBelow word) from items hs)) in
      omega (arith, front, rest);
}

-- all items are counted
pub whole-counted : {A : Type 0} (word : A → ℕ) (items : List A) (i above : ℕ) → length items ≤ i → AreCounted word items i above → (above ≡ 0) ↔ All (IsBelow word) items
whole-counted word items i above l h = (λ z. subst (λ xs. All (IsBelow word) xs) (take_all i items l) (h.none z), h.all)

-- a block of a list, as elements
pub map-block : {A : Type 0} (f : A → F) (xs : List A) (from size n : ℕ) → n ≡ size → map f (take n (drop from xs)) ≡ take size (drop from (map f xs))
map-block f xs from size n e = rw (e, drop-map f from xs, take-map f size (drop from xs)) refl

-- a block behind other coefficients
pub value-block : (x factor : F) (coefficients : List F) (from size : ℕ) → from ≤ length coefficients → factor ≡ power_of x from
    → sum (value_of (take from coefficients) x) (product factor (value_of (take size (drop from coefficients)) x)) ≡ value_of (take (from + size) coefficients) x
value-block x factor coefficients from size l hf =
    let front = take from coefficients in
    let block = take size (drop from coefficients) in
    ap (λ q. sum (value_of front x) (product q (value_of block x))) hf
    ∙ sym (same_number _ _ (value-joined equality group commutes ring x front block from (length-take-le from coefficients l)))
    ∙ ap (λ xs. value_of xs x) (take-block coefficients from size)

-- elements are the elements of their numbers
pub residues-of-numbers : (items : List F) → map (λ a. residue (number a)) items ≡ items
residues-of-numbers items = map_fixed (λ a. residue (number a)) items (λ k d l. residue-number (get_or items k d))

-- one power more
pub powers-push : (x : F) (xs ys : List F) (n : ℕ) (p : F) → length xs ≡ n → ArePowersOf x xs → p ≡ power_of x n → ys ≡ xs ++ (p ∷ []) → ArePowersOf x ys
powers-push x xs ys n p e h hp hy =
    rw hy (λ k l.
    each_place_next (residue 0) (λ i a. a ≡ power_of x i) xs n p e (λ i m. h i (omega arith)) hp k
    (omega (arith, length-append xs (p ∷ []))))

-- the power at which the next block begins
pub power-block : (x factor step : F) (from size : ℕ) → factor ≡ power_of x from → step ≡ power_of x size → product factor step ≡ power_of x (from + size)
power-block x factor step from size hf hs = ap₂ product hf hs ∙ sym (same_number _ _ (power-add equality products x from size))
  where
    products : IsMonoid same (residue 1) product
    products = record { respects = commutes.respects; commutative = commutes.commutative; associative = commutes.associative; identity = ring.identity }

-- items counted in two parts
pub counted-parts : {A : Type 0} (word : A → ℕ) (items : List A) (from size above more : ℕ) → AreCounted word items from above → AreCounted word (drop from items) size more
    → AreCounted word items (from + size) (above + more)
counted-parts word items from size above more before behind = record {
  none = λ z.
      rw (← take-block items from size)
      (All-append (IsBelow word) (take from items) (take size (drop from items)) (before.none (omega arith)) (behind.none (omega arith)));
  all = λ hs.
      let front = before.all hs in
      let rest = behind.all (All-drop (IsBelow word) from items hs) in
      omega (arith, front, rest);
}
