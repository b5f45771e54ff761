use Rattle.std.proofs.Common.{◌≡◌, ◌∙◌, ap, arith, length, subst, sym}
use Rattle.std.specs.Prelude.{slice_get}
use Rattle.sha2.specs.Sha512.{sha512_256}
use Rattle.hash_trees.specs.Descents.{IsWay, first_leaf, pair_place}
use Rattle.hash_trees.proofs.WaysDown.{child_places, entered_keeps, first_children, last_is_first, last_stands, low_level, pair_entered}
use Rattle.hash_trees.proofs.descent.Descent.enter.Goals as goal

pub left_child-requires-clause-level : goal.left_child-requires-clause-level
left_child-requires-clause-level c =
    let last = sym (last_is_first c.self.inside.waiting.items) ∙ ap (λ w. slice_get w.nodes 0) c.self.view_is ∙ sym c.in-Some.ensures.node in
    let stands = last_stands sha512_256 c.self.inside.count c.self.inside.top c.self.inside.waiting.items c.in-Some.node last c.self.invariant.0 in
    let children = c.are_children.ensures.0 c.if-not-are_children.false in
    low_level sha512_256 c.self.inside.count c.self.inside.top c.in-Some.node 64 stands children.0 c.self.invariant.2

pub left_child-requires-clause-place : goal.left_child-requires-clause-place
left_child-requires-clause-place c =
    let last = sym (last_is_first c.self.inside.waiting.items) ∙ ap (λ w. slice_get w.nodes 0) c.self.view_is ∙ sym c.in-Some.ensures.node in
    let stands = last_stands sha512_256 c.self.inside.count c.self.inside.top c.self.inside.waiting.items c.in-Some.node last c.self.invariant.0 in
    let children = c.are_children.ensures.0 c.if-not-are_children.false in
    let places = child_places sha512_256 c.self.inside.count c.self.inside.top c.in-Some.node stands children.0 in
    omega (arith, places.1, c.self.invariant.2)

pub right_child-requires-clause-level : goal.right_child-requires-clause-level
right_child-requires-clause-level c =
    let last = sym (last_is_first c.self.inside.waiting.items) ∙ ap (λ w. slice_get w.nodes 0) c.self.view_is ∙ sym c.in-Some.ensures.node in
    let stands = last_stands sha512_256 c.self.inside.count c.self.inside.top c.self.inside.waiting.items c.in-Some.node last c.self.invariant.0 in
    let children = c.are_children.ensures.0 c.if-not-are_children.false in
    low_level sha512_256 c.self.inside.count c.self.inside.top c.in-Some.node 64 stands children.0 c.self.invariant.2

pub right_child-requires-clause-place : goal.right_child-requires-clause-place
right_child-requires-clause-place c =
    let last = sym (last_is_first c.self.inside.waiting.items) ∙ ap (λ w. slice_get w.nodes 0) c.self.view_is ∙ sym c.in-Some.ensures.node in
    let stands = last_stands sha512_256 c.self.inside.count c.self.inside.top c.self.inside.waiting.items c.in-Some.node last c.self.invariant.0 in
    let children = c.are_children.ensures.0 c.if-not-are_children.false in
    let places = child_places sha512_256 c.self.inside.count c.self.inside.top c.in-Some.node stands children.0 in
    omega (arith, places.0, c.self.invariant.2)

pub invariant_of-self-2 : goal.invariant_of-self-2
invariant_of-self-2 c =
    let last = sym (last_is_first c.self.inside.waiting.items) ∙ ap (λ w. slice_get w.nodes 0) c.self.view_is ∙ sym c.in-Some.ensures.node in
    let size : c.len-last.result ≡ length c.self.inside.waiting.items = omega arith in
    let keeps =
    entered_keeps sha512_256 c.args.self.now c.self.inside.count c.self.inside.top c.self.inside.waiting.items c.push.new.self.items c.len-last.result
    c.in-Some.node c.left_child.result c.right_child.result c.args.left.now c.args.right.now last c.self.view_is size
    c.in_ok-push.ensures.items c.left_child.ensures c.right_child.ensures (c.are_children.ensures.0 c.if-not-are_children.false) c.self.invariant.0 in
    (keeps.1, c.self.invariant.1 ∙ keeps.2, c.self.invariant.2)

pub returns-clause-way : goal.returns-clause-way
returns-clause-way c =
    let last = sym (last_is_first c.self.inside.waiting.items) ∙ ap (λ w. slice_get w.nodes 0) c.self.view_is ∙ sym c.in-Some.ensures.node in
    let size : c.len-last.result ≡ length c.self.inside.waiting.items = omega arith in
    let keeps =
    entered_keeps sha512_256 c.args.self.now c.self.inside.count c.self.inside.top c.self.inside.waiting.items c.push.new.self.items c.len-last.result
    c.in-Some.node c.left_child.result c.right_child.result c.args.left.now c.args.right.now last c.self.view_is size
    c.in_ok-push.ensures.items c.left_child.ensures c.right_child.ensures (c.are_children.ensures.0 c.if-not-are_children.false) c.self.invariant.0 in
    keeps.0

pub returns-clause-leaf : goal.returns-clause-leaf
returns-clause-leaf c =
    let last = sym (last_is_first c.self.inside.waiting.items) ∙ ap (λ w. slice_get w.nodes 0) c.self.view_is ∙ sym c.in-Some.ensures.node in
    let size : c.len-last.result ≡ length c.self.inside.waiting.items = omega arith in
    let keeps =
    entered_keeps sha512_256 c.args.self.now c.self.inside.count c.self.inside.top c.self.inside.waiting.items c.push.new.self.items c.len-last.result
    c.in-Some.node c.left_child.result c.right_child.result c.args.left.now c.args.right.now last c.self.view_is size
    c.in_ok-push.ensures.items c.left_child.ensures c.right_child.ensures (c.are_children.ensures.0 c.if-not-are_children.false) c.self.invariant.0 in
    sym keeps.2 ∙ ap first_leaf c.self.view_is

pub returns-clause-pair : goal.returns-clause-pair
returns-clause-pair c =
    let last = sym (last_is_first c.self.inside.waiting.items) ∙ ap (λ w. slice_get w.nodes 0) c.self.view_is ∙ sym c.in-Some.ensures.node in
    let size : c.len-last.result ≡ length c.self.inside.waiting.items = omega arith in
    let keeps =
    entered_keeps sha512_256 c.args.self.now c.self.inside.count c.self.inside.top c.self.inside.waiting.items c.push.new.self.items c.len-last.result
    c.in-Some.node c.left_child.result c.right_child.result c.args.left.now c.args.right.now last c.self.view_is size
    c.in_ok-push.ensures.items c.left_child.ensures c.right_child.ensures (c.are_children.ensures.0 c.if-not-are_children.false) c.self.invariant.0 in
    let children = (first_children sha512_256 c.args.self.now c.self.inside.count c.self.inside.top c.self.inside.waiting.items c.in-Some.node c.args.left.now c.args.right.now last c.self.view_is).1 (c.are_children.ensures.0 c.if-not-are_children.false) in
    let way = subst (λ w. IsWay sha512_256 w) c.self.view_is c.self.invariant.0 in
    ap pair_place keeps.0 ∙ pair_entered sha512_256 c.args.self.now c.args.left.now c.args.right.now children way
