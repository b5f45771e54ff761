-- The items that an iterator has given, with one more.
use Rattle.std.proofs.Common.{◌≡◌, List, [], ◌∷◌, ◌++◌, Option, Some, length, map-id, sym, refl, subst, ◌∙◌}
use Rattle.std.specs.Iterator.{Yields, Drains}
use Rattle.std.specs.declared.vec.IntoIter.{IntoIter}
use Rattle.std.specs.Vec.Iter.{into_iter_items, into_iter_len, into_iter_steps}
use Rattle.std.proofs.lemmas.Iterator.{items_from_drains}
use Rattle.std.proofs.lemmas.Iterator.Adapters.{YieldsList-from_vec}

pub yields_more : {S A : Type 0} (steps : S → Option A → S → Type 0) (s : S) (xs : List A) (t : S) (x : A) (u : S) → Yields steps s xs t → steps t (Some x) u → Yields steps s (xs ++ x ∷ []) u
yields_more steps s [] t x u given step = (u, subst (λ k. steps k (Some x) u) (sym given) step, refl)
yields_more steps s (y ∷ xs) t x u given step = (given.0, given.1, yields_more steps given.0 xs t x u given.2 step)

-- what a vector's iterator gives from its start to its end
pub vec_items : {A Z : Type 0} (s : IntoIter A Z) (xs all : List A) → Drains (into_iter_steps {X = A} {Z = Z}) s xs → into_iter_items s ≡ all → into_iter_len s ≡ length all → xs ≡ all
vec_items s xs all drained is long = sym (map-id xs) ∙ items_from_drains xs (drained.1.0, drained.1.1, λ _. (drained.0, drained.1.2)) (YieldsList-from_vec {s = s} all is long)
