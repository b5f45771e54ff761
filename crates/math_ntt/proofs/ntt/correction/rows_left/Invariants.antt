use Rattle.std.proofs.Common.{◌≡◌, ◌↔◌, ℕ, ◌<◌, ◌^◌, false, true, length, get_or}
use Rattle.std.specs.List.{Contains}
use Rattle.math_ntt.proofs.ntt.correction.rows_left.Given as goal

-- the rows of the list so far, without those at wrong places
abbrev pub invariant-loop-j : goal.invariant-loop-j
invariant-loop-j l = record {
  size : length l.out ≡ 2 ^ l.lg;
  filled : (i : ℕ) → (get_or l.out i false ≡ true) ↔ (j : ℕ) × (j < l.j-counter) × (get_or l.rows j 0 ≡ i) × ¬ (Contains l.wrong j);
}
