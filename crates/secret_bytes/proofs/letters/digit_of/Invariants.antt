use Rattle.std.proofs.Common.{◌≢◌, ◌<◌, ℕ}
use Rattle.secret_bytes.specs.Letters.{letter}
use Rattle.secret_bytes.proofs.letters.digit_of.Given as goal

-- no number so far stands for the byte
abbrev pub invariant-loop-digit : goal.invariant-loop-digit
invariant-loop-digit l = (d : ℕ) → d < l.digit → l.byte ≢ letter d
