use Rattle.std.proofs.Common.{◌≡◌, ◌∙◌, ◌+◌, ◌*◌, ◌^◌, ◌≤◌, ℕ, List, ap, subst, sym}
use Rattle.std.specs.Prelude.{slice_get}
use Rattle.sha2.specs.Sha512.{sha512_256}
use Rattle.hash_trees.specs.declared.descent.Node.{Node}
use Rattle.hash_trees.specs.Binding.{IsLeafUnder}
use Rattle.hash_trees.specs.Descents.{IsWay, first_leaf, pair_place}
use Rattle.hash_trees.proofs.WaysDown.{first_ends, first_index, last_is_first, leaf_index, leaf_under, of_first}
use Rattle.hash_trees.proofs.descent.Descent.next.Goals as goal

pub returns-clause-leaf : goal.returns-clause-leaf
returns-clause-leaf c =
    let way = subst (λ w. IsWay sha512_256 w) c.self.view_is c.self.invariant.0 in
    let last = rw c.deref.ensures.value at (c.copied.ensures ∙ c.last.ensures.value) in
    let first = last ∙ sym (last_is_first c.self.inside.waiting.items) ∙ ap (λ w. slice_get w.nodes 0) c.self.view_is in
    of_first
    (λ (node : Node). node.level ≡ 0 → (others : List (List ℕ)) × IsLeafUnder sha512_256 c.args.self.now.count node.place node.digest others c.args.self.now.top)
    c.args.self.now.nodes c.copied.result first (λ node later e. leaf_under sha512_256 c.args.self.now node later way e)

pub returns-clause-leaves : goal.returns-clause-leaves
returns-clause-leaves c =
    let way = subst (λ w. IsWay sha512_256 w) c.self.view_is c.self.invariant.0 in
    let last = rw c.deref.ensures.value at (c.copied.ensures ∙ c.last.ensures.value) in
    let first = last ∙ sym (last_is_first c.self.inside.waiting.items) ∙ ap (λ w. slice_get w.nodes 0) c.self.view_is in
    of_first (λ (node : Node). (1 ≤ node.leaves) × (first_leaf c.args.self.now + node.leaves ≤ c.args.self.now.count)) c.args.self.now.nodes c.copied.result first
    (λ node later e. let ends = first_ends sha512_256 c.args.self.now node later way e in (ends.0, ends.1))

pub returns-clause-pairs : goal.returns-clause-pairs
returns-clause-pairs c =
    let way = subst (λ w. IsWay sha512_256 w) c.self.view_is c.self.invariant.0 in
    let last = rw c.deref.ensures.value at (c.copied.ensures ∙ c.last.ensures.value) in
    let first = last ∙ sym (last_is_first c.self.inside.waiting.items) ∙ ap (λ w. slice_get w.nodes 0) c.self.view_is in
    of_first (λ (node : Node). pair_place c.args.self.now + node.leaves ≤ c.args.self.now.count) c.args.self.now.nodes c.copied.result first
    (λ node later e. (first_ends sha512_256 c.args.self.now node later way e).2)

pub returns-clause-index : goal.returns-clause-index
returns-clause-index c =
    let way = subst (λ w. IsWay sha512_256 w) c.self.view_is c.self.invariant.0 in
    let last = rw c.deref.ensures.value at (c.copied.ensures ∙ c.last.ensures.value) in
    let first = last ∙ sym (last_is_first c.self.inside.waiting.items) ∙ ap (λ w. slice_get w.nodes 0) c.self.view_is in
    of_first (λ (node : Node). node.level ≡ 0 → (node.place ≡ first_leaf c.args.self.now) × (node.leaves ≡ 1)) c.args.self.now.nodes c.copied.result first
    (λ node later e. leaf_index sha512_256 c.args.self.now node later way e)

pub returns-clause-first : goal.returns-clause-first
returns-clause-first c =
    let way = subst (λ w. IsWay sha512_256 w) c.self.view_is c.self.invariant.0 in
    let last = rw c.deref.ensures.value at (c.copied.ensures ∙ c.last.ensures.value) in
    let first = last ∙ sym (last_is_first c.self.inside.waiting.items) ∙ ap (λ w. slice_get w.nodes 0) c.self.view_is in
    of_first (λ (node : Node). node.place * 2 ^ node.level ≡ first_leaf c.args.self.now) c.args.self.now.nodes c.copied.result first
    (λ node later e. first_index sha512_256 c.args.self.now node later way e)
