-- The elements of the Goldilocks field and their operations: the operations on whole numbers, and then the remainder by P.
use Rattle.std.specs.Prelude.{◌≡◌, ℕ, ◌+◌, ◌*◌, ◌%◌, ◌<◌, Option, None, true}
use Rattle.std.specs.Option.{option_map}
use Rattle.std.proofs.Common.{lit<}
use Rattle.std.proofs.Math.Nat.{mod-lt}
use Rattle.math_numbers.specs.Goldilocks.{P}
use Rattle.math_numbers.specs.Residues as Residues
use Rattle.rand_core.specs.Stream.{Stream}
use Rattle.math_fields.specs.Roots.{root, shift}
use Rattle.math_base.specs.Members.{RingOf}
use Rattle.math_base.specs.Samples.{first_below}
use Rattle.math_fields.specs.declared.goldilocks.F.{F}

-- the number from 0 to P - 1 that an element is
abbrev pub number : F → ℕ
number a = a.value

pub remainder_below : (n : ℕ) → n % P < P
remainder_below n = mod-lt n (lit< tt)

-- the remainder of a number by P, as an element
abbrev pub residue : ℕ → F
residue n = record { value = n % P; below = remainder_below n }

-- both are the same number
abbrev pub same : F → F → Type 0
same a b = number a ≡ number b

-- the remainder of the sum
abbrev pub sum : F → F → F
sum a b = residue (number a + number b)

-- the remainder of P less the number
abbrev pub negative : F → F
negative a = Residues.negative P number residue a

-- the remainder of the product
abbrev pub product : F → F → F
product a b = residue (number a * number b)

-- the remainder of the power P - 2, which is the inverse of an element other than zero
abbrev pub inverse : F → F
inverse a = Residues.inverse P number residue a

-- the operations of the field, as those of a ring
abbrev pub goldilocks : RingOf F
goldilocks = record { product = product; debug_output = λ a. None; same = same; NEVER_REFUSES = true; zero = residue 0; sum = sum; negative = negative; one = residue 1 }

-- the root of unity of order 2^lg
abbrev pub root_of : ℕ → F
root_of lg = residue (root lg)

-- what shifts a domain to a coset
abbrev pub shift_of : F
shift_of = residue shift

-- the remainder of the product with the inverse of two
abbrev pub half_of : F → F
half_of a = residue (number a * 9223372034707292161)

-- the first of the next 64 words that is below P, as an element, and the stream after the words that were looked at
abbrev pub sample_of : Stream → Option F × Stream
sample_of source = (option_map residue (first_below 64 source).0, (first_below 64 source).1)
