use Rattle.std.proofs.Common.{◌≡◌, ℕ, ◌<◌, length, get_or}
use Rattle.math_theory.specs.BitReversal.{bit_reversed}
use Rattle.math_restoring.proofs.restoring.places_of.Given as goal

-- the places of the indices so far
abbrev pub invariant-loop-t : goal.invariant-loop-t
invariant-loop-t l = record {
  count : length l.places.items ≡ l.t;
  each : (s : ℕ) → s < l.t → get_or l.places.items s 0 ≡ bit_reversed l.lg (get_or l.indices s 0);
}
