-- Values drawn from a source of random words.
use Rattle.std.specs.Prelude.{ℕ, zero, suc, List, [], ◌∷◌, Option, Some, None, nat_lt, if◌then◌else◌}
use Rattle.std.specs.Option.{option_map}
use Rattle.math_numbers.specs.Goldilocks.{P}
use Rattle.rand_core.specs.Stream.{Stream, next_u64}

-- the first of the next n words that is below P, where there is one, and the stream after the words that were looked at
unfoldable pub first_below : ℕ → Stream → Option ℕ × Stream
first_below zero source = (None, source)
first_below (suc n) source = if nat_lt (next_u64 source).0 P then (Some (next_u64 source).0, (next_u64 source).1) else first_below n (next_u64 source).1

-- a sample in front of the samples that the stream after it gives, where all are there
unfoldable pub before_samples : {T : Type 0} → Option T × Stream → (Stream → Option (List T) × Stream) → Option (List T) × Stream
before_samples (None, source) rest = (None, source)
before_samples (Some x, source) rest = (option_map (λ xs. x ∷ xs) (rest source).0, (rest source).1)

-- the next n samples in order, where each is there, and the stream after the words that were looked at
unfoldable pub samples : {T : Type 0} → (Stream → Option T × Stream) → ℕ → Stream → Option (List T) × Stream
samples sample zero source = (Some [], source)
samples sample (suc n) source = before_samples (sample source) (samples sample n)
