-- Elements of the Goldilocks field, of which same ones are one, as a commutative ring with plain equations.
use Rattle.std.proofs.Common.{inl, inr, ap}
use mathlib.Core.HLevel.{Discrete, hedberg}
use Rattle.std.proofs.lemmas.Bool.{cases_eq}
use Rattle.math_theory.specs.Rings.{CommutativeRing}
use Rattle.math_fields.specs.declared.goldilocks.F.{F}
use Rattle.math_fields.specs.ElementLaws.{group, commutes, ring}
use Rattle.math_fields.specs.Elements.{number, residue, sum, negative, product}
use Rattle.math_fields.proofs.ElementNumbers.{same_number}

-- two elements are one or not
pub elements_discrete : Discrete F
elements_discrete a b = elim (cases_eq (number a) (number b)) [ inl e ↦ yes (same_number a b e) | inr n ↦ no (λ p. n (ap number p)) ]

-- so they are a set
pub elements_set : IsSet F
elements_set = hedberg elements_discrete

-- they are a commutative ring
abbrev pub elements : CommutativeRing F
elements = record {
  is_set = elements_set;
  zero = residue 0;
  sum = sum;
  negative = negative;
  product = product;
  one = residue 1;
  sum_comm = λ a b. same_number _ _ (group.commutative a b);
  sum_assoc = λ a b c. same_number _ _ (group.associative a b c);
  sum_zero = λ a. same_number _ _ (group.identity a);
  sum_negative = λ a. same_number _ _ (group.inverse a);
  product_comm = λ a b. same_number _ _ (commutes.commutative a b);
  product_assoc = λ a b c. same_number _ _ (commutes.associative a b c);
  product_one = λ a. same_number _ _ (ring.identity a);
  distributive = λ a b c. same_number _ _ (ring.distributive a b c);
}
