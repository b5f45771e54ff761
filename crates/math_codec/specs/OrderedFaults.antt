-- What the refusals of a map say.
use Rattle.std.specs.Prelude.{Result, IfErr}
use Rattle.math_codec.specs.declared.ordered.error.Error.{Error}
use Rattle.math_codec.specs.declared.ordered.error.Error.TheVariants as errors

-- P holds if the error is `DuplicateKey`
abbrev pub IfDuplicateKey : Error → Type 0 → Type 0
IfDuplicateKey (errors.Memory e) P = Unit {0}
IfDuplicateKey errors.DuplicateKey P = P
IfDuplicateKey errors.DuplicateValue P = Unit {0}

-- P holds if the error is `DuplicateValue`
abbrev pub IfDuplicateValue : Error → Type 0 → Type 0
IfDuplicateValue (errors.Memory e) P = Unit {0}
IfDuplicateValue errors.DuplicateKey P = Unit {0}
IfDuplicateValue errors.DuplicateValue P = P

-- where the call refuses with `DuplicateKey`, P holds
abbrev pub OnDuplicateKey : {X : Type 0} → Result X Error → Type 0 → Type 0
OnDuplicateKey result P = IfErr result (λ e. IfDuplicateKey e P)

-- where the call refuses with `DuplicateValue`, P holds
abbrev pub OnDuplicateValue : {X : Type 0} → Result X Error → Type 0 → Type 0
OnDuplicateValue result P = IfErr result (λ e. IfDuplicateValue e P)
