-- The record of a ring's ghost members, from each of them.
use Rattle.std.proofs.Common.{ℕ, List, Bool, Option}
use Rattle.math_base.specs.Members.{RingOf}

abbrev pub ring_members : {A : Type 0} → (A → A → A) → (A → Option (List ℕ)) → (A → A → Type 0) → Bool → A → (A → A → A) → (A → A) → A → RingOf A
ring_members product debug_output same never zero_of sum negative one =
    record { product = product; debug_output = debug_output; same = same; NEVER_REFUSES = never; zero = zero_of; sum = sum; negative = negative; one = one }
