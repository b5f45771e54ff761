-- The elements of the field, all of them in one list.
use Rattle.std.proofs.Common.{◌≡◌, ◌∙◌, ℕ, ◌+◌, ◌%◌, ◌<◌, List, length, get_or, map, sym, ap, subst, arith, mod-eq_of_lt}
use Rattle.std.specs.List.{Contains, range_with_len}
use Rattle.std.proofs.lemmas.List.{length-map}
use Rattle.std.proofs.lemmas.List.FromFn.{get_or-range_with_len, length-range_with_len}
use Rattle.math_numbers.specs.Goldilocks.{P}
use Rattle.math_fields.specs.declared.goldilocks.F.{F}
use Rattle.math_fields.specs.Elements.{number, residue, same, goldilocks}
use Rattle.math_fields.proofs.ElementNumbers.{residue-number}
use Rattle.shared_secret.specs.Explanations.{AreAllElements}
use Rattle.shared_secret.proofs.ListsOfElements.{contains-map, pairs-map}

number-at : (n i d : ℕ) → i < n → get_or (range_with_len 0 n) i d ≡ i
number-at n i d l = let e : 0 + i ≡ i = omega arith in get_or-range_with_len 0 n i d l ∙ e

pub all-elements : (n : ℕ) → n ≡ P → (elements : List F) × AreAllElements goldilocks elements × (length elements ≡ n)
all-elements n e =
    let numbers = range_with_len 0 n in
    let count : length numbers ≡ n = length-range_with_len 0 n in (
      map residue numbers,
      record {
        every = λ a.
            let below : number a < n = subst (λ m. number a < m) (sym e) a.below in
            let some : Contains numbers (number a) = (number a, omega (arith, below, count), number-at n (number a) (number a) below) in
            (residue (number a), contains-map residue numbers (number a) some, ap number (sym (residue-number a)));
        apart = pairs-map (λ x y. ¬ (same x y)) residue numbers
            (λ i j d l m s.
            let below : j < n = omega (arith, m, count) in
            let j_below : j < P = omega (arith, below, e) in
            let i_below : i < P = omega (arith, l, j_below) in
            let first : get_or numbers i d % P ≡ i = ap (λ x. x % P) (number-at n i d (omega (arith, l, below))) ∙ mod-eq_of_lt i_below in
            let second : get_or numbers j d % P ≡ j = ap (λ x. x % P) (number-at n j d below) ∙ mod-eq_of_lt j_below in
            let equal : i ≡ j = sym first ∙ s ∙ second in
            omega (arith, equal, l));
      },
      length-map numbers residue ∙ count,
    )
