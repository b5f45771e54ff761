-- What `take` hands on of an iterator.
use Rattle.std.proofs.Common.{◌≡◌, ◌+◌, List, [], ◌∷◌, length, Option, ap, arith}
use Rattle.std.specs.Iterator.{Yields}
use Rattle.std.specs.Iterator.Adapters.{take_steps, take_source, take_count}
use Rattle.std.specs.declared.iter.Take.{Take}

-- a run over the first items of a source is a run of the source, and the count goes down by one an item
pub take-yields : {S A : Type 0} (steps : S → Option A → S → Type 0) (s t : Take S) (items : List A)
    → Yields (take_steps steps) s items t → Yields steps (take_source s) items (take_source t) × (length items + take_count t ≡ take_count s)
take-yields steps s t [] h = (ap take_source h, omega (arith, ap take_count h))
take-yields steps s t (x ∷ items) h =
    let k = take-yields steps h.0 t items h.2 in
    ((take_source h.0, h.1.0, k.0), omega (arith, h.1.1, k.1))
