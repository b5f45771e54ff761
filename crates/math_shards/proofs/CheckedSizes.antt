-- Sizes that a checked product says to be small enough.
use Rattle.std.proofs.Common.{◌≡◌, true, Option, Some, None}
use Rattle.std.specs.Option.{SomeIff, is_some}
use Rattle.std.proofs.lemmas.Bool.{false≢true}

-- where there is a value exactly if P holds, and there is one, P holds
pub holds_where_some : {X : Type 0} (P : Type 0) (x : X) (o : Option X) → is_some o ≡ true → SomeIff o P x → P
holds_where_some P x None some h = absurd (false≢true some)
holds_where_some P x (Some y) some h = h.0
