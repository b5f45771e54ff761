-- Elements that bytes hash to.
use Rattle.std.specs.Prelude.{ℕ, ◌+◌, List, sum}
use Rattle.math_fields.specs.Elements.{residue}
use Rattle.math_fields.specs.declared.goldilocks.F.{F}
use Rattle.math_samples.specs.ByteSums.{remainder_of_sum}
use Rattle.math_samples.specs.Quotients.{whole}
use Rattle.math_samples.specs.declared.quotients.Quotient.{Quotient}

-- the remainder by 97 of the sum of all bytes of the separator and of the message, over one
abbrev pub hash : List ℕ → List ℕ → Quotient
hash separator message = whole (sum separator + sum message)

-- the remainders by 97 of the sums of both byte lists, added
abbrev pub element_of : List ℕ → List ℕ → F
element_of separator message = residue (remainder_of_sum separator + remainder_of_sum message)
