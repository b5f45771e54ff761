use Rattle.c_calls.proofs.weights.write_weights_at_roots.Goals as goal
use Rattle.std.proofs.Common.{arith, ◌∙◌, ℕ, List, sym, ap, subst}
use Rattle.std.proofs.lemmas.List.{length-map}
use Rattle.c_calls.specs.WordElements.{numbers}
use Rattle.c_calls.specs.WordWeights.{AreWordWeightsAtRoots}

pub write_numbers-requires : goal.write_numbers-requires
write_numbers-requires c = grind (arith, length-map)

pub returns-clause-ok : goal.returns-clause-ok
returns-clause-ok c =
    subst (λ (ws : List ℕ). AreWordWeightsAtRoots c.args.x c.args.total.value c.args.indices.now ws) (sym (c.write_numbers.ensures ∙ ap numbers c.deref.ensures.value)) c.in_ok-found.ensures
