-- Four words at a time.
use Rattle.std.specs.Prelude.{List, [], ◌∷◌}
use Rattle.math_fields.specs.declared.goldilocks.F.{F}
use Rattle.math_fields.specs.Elements.{same, sum, product}
use Rattle.shard_fingerprints.specs.declared.fingerprints.Powers.{Powers}

-- these are the key, its square, and the square of its square
pub record AreKeyPowers (key : F) (powers : Powers) : Type 0 where
  pub first : same powers.key key
  pub second : same powers.square (product powers.key powers.key)
  pub fourth : same powers.fourth (product powers.square powers.square)

-- by Horner's rule: each word in front of the value so far times the key, from the last to the first
abbrev pub words_before : F → List F → F → F
words_before key [] value = value
words_before key (word ∷ words) value = sum word (product (words_before key words value) key)
