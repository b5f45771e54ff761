-- What the refusals of a map say, carried from a call within it to the whole.
use Rattle.math_codec.specs.declared.ordered.error.Error.{Error}
use Rattle.math_codec.specs.declared.ordered.error.Error.TheVariants as errors
use Rattle.math_codec.specs.OrderedFaults.{IfDuplicateKey, IfDuplicateValue}

pub IfDuplicateKey-then : (e : Error) (P Q : Type 0) → (P → Q) → IfDuplicateKey e P → IfDuplicateKey e Q
IfDuplicateKey-then (errors.Memory x) P Q f h = tt
IfDuplicateKey-then errors.DuplicateKey P Q f h = f h
IfDuplicateKey-then errors.DuplicateValue P Q f h = tt

pub IfDuplicateValue-then : (e : Error) (P Q : Type 0) → (P → Q) → IfDuplicateValue e P → IfDuplicateValue e Q
IfDuplicateValue-then (errors.Memory x) P Q f h = tt
IfDuplicateValue-then errors.DuplicateKey P Q f h = tt
IfDuplicateValue-then errors.DuplicateValue P Q f h = f h
