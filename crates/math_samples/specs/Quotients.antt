-- Quotients a over b modulo 97, and their operations.
use Rattle.std.specs.Prelude.{◌≡◌, ◌⊎◌, ℕ, ◌+◌, ◌-◌, ◌*◌, ◌%◌, ◌<◌, ◌≤◌, List, [], ◌∷◌, get_or, Option, Some}
use Rattle.rand_core.specs.Stream.{Stream, next_u64}
use Rattle.std.proofs.Common.{lit<, inl, inr}
use Rattle.std.proofs.lemmas.Bool.{cases_lt}
use Rattle.math_samples.specs.ModulusLaws.{remainder_below, product_above}
use Rattle.math_samples.specs.declared.quotients.Quotient.{Quotient}
use Rattle.math_samples.specs.declared.quotients.TheConstants.{MODULUS}

-- a, of the quotient a over b
abbrev pub numerator_of : Quotient → ℕ
numerator_of q = q.numerator

-- b, of the quotient a over b
abbrev pub denominator_of : Quotient → ℕ
denominator_of q = q.denominator

-- a over b is the same as c over d where the cross products a d and c b have the same remainder by 97
abbrev pub same : Quotient → Quotient → Type 0
same q r = numerator_of q * denominator_of r % MODULUS ≡ numerator_of r * denominator_of q % MODULUS

-- the remainder of n by 97, over the remainder of the product of both denominators
abbrev pub over_both : ℕ → Quotient → Quotient → Quotient
over_both n q r = record {
  numerator = n % MODULUS;
  denominator = denominator_of q * denominator_of r % MODULUS;
  numerator_below = remainder_below n;
  denominator_below = remainder_below (denominator_of q * denominator_of r);
  denominator_above = product_above (denominator_of q) (denominator_of r) q.denominator_above q.denominator_below r.denominator_above r.denominator_below;
}

-- the remainder of n by 97, over one
abbrev pub whole : ℕ → Quotient
whole n = record { numerator = n % MODULUS; denominator = 1; numerator_below = remainder_below n; denominator_below = lit< tt; denominator_above = lit< tt }

-- a d + c b over b d, as remainders by 97
abbrev pub sum : Quotient → Quotient → Quotient
sum q r = over_both (numerator_of q * denominator_of r + numerator_of r * denominator_of q) q r

-- the remainder of 97 - a by 97, over b
abbrev pub negative : Quotient → Quotient
negative q = record q { numerator = (MODULUS - numerator_of q) % MODULUS; numerator_below = remainder_below (MODULUS - numerator_of q) }

-- a c over b d, as remainders by 97
abbrev pub product : Quotient → Quotient → Quotient
product q r = over_both (numerator_of q * numerator_of r) q r

-- b over a where a is above zero, and zero where it is not
abbrev pub inverse_by : (q : Quotient) → (0 < numerator_of q) ⊎ (numerator_of q ≤ 0) → Quotient
inverse_by q (inl above) = record {
  numerator = denominator_of q;
  denominator = numerator_of q;
  numerator_below = q.denominator_below;
  denominator_below = q.numerator_below;
  denominator_above = above;
}
inverse_by q (inr none) = whole 0

-- b over a, and zero where a is zero
abbrev pub inverse : Quotient → Quotient
inverse q = inverse_by q (cases_lt 0 (numerator_of q))

-- a over the remainder of 2 b by 97
abbrev pub half : Quotient → Quotient
half q = record q {
  denominator = denominator_of q * 2 % MODULUS;
  denominator_below = remainder_below (denominator_of q * 2);
  denominator_above = product_above (denominator_of q) 2 q.denominator_above q.denominator_below (lit< tt) (lit< tt);
}

-- numbers of order 1, 2, 4, 8, 16 and 32 modulo 97
abbrev pub roots : List ℕ
roots = 1 ∷ 96 ∷ 22 ∷ 64 ∷ 8 ∷ 28 ∷ []

-- the number of order 2^lg, for lg up to 5
abbrev pub root : ℕ → ℕ
root lg = get_or roots lg 1

-- a number that is no power of any of these modulo 97
abbrev pub shift : ℕ
shift = 5

-- the root of unity of order 2^lg
abbrev pub root_of : ℕ → Quotient
root_of lg = whole (root lg)

-- the remainder of the next word by 97, over one, and the stream after that word
abbrev pub sample_of : Stream → Option Quotient × Stream
sample_of source = (Some (whole (next_u64 source).0), (next_u64 source).1)
