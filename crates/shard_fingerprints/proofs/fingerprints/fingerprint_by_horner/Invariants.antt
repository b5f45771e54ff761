use Rattle.std.proofs.Common.{◌≡◌, ◌≤◌, length, drop}
use Rattle.math_fields.specs.Elements.{number}
use Rattle.shard_fingerprints.specs.Fingerprints.{fingerprint}
use Rattle.shard_fingerprints.proofs.fingerprints.fingerprint_by_horner.Given as goal

-- the fingerprint of the words from place i on
abbrev pub invariant-loop-i : goal.invariant-loop-i
invariant-loop-i l = record {
  value : number l.value ≡ number (fingerprint (drop l.i l.words) l.key);
  within : l.i ≤ length l.words;
}

abbrev pub decreases-loop-i : goal.decreases-loop-i
decreases-loop-i l = l.i

-- the same
abbrev pub invariant-loop-i-2 : goal.invariant-loop-i-2
invariant-loop-i-2 l = record {
  value : number l.value ≡ number (fingerprint (drop l.i l.words) l.key);
  within : l.i ≤ length l.words;
}

abbrev pub decreases-loop-i-2 : goal.decreases-loop-i-2
decreases-loop-i-2 l = l.i
