use Rattle.std.proofs.Common.{◌≡◌, ◌∙◌, arith, ap, subst, sym}
use Rattle.sha2.specs.Sha512.{sha512_256}
use Rattle.hash_trees.specs.Descents.{IsWay, first_leaf, first_of, pair_place}
use Rattle.hash_trees.proofs.Enough.{below_power}
use Rattle.hash_trees.proofs.LoweredNodes.{lowered_top}
use Rattle.hash_trees.proofs.WaysDown.{none_behind, pushed_top, way_from_top}
use Rattle.hash_trees.proofs.descent.Descent.new.Goals as goal

pub invariant_of-result : goal.invariant_of-result
invariant_of-result c =
    let node = c.lower.ensures ∙ lowered_top c.args.count 64 c.args.count c.args.top (omega arith) (below_power c.args.count) in
    let items = pushed_top c.push.new.self.items c.new-waiting.result.items c.lower.result c.args.count c.args.top c.in_ok-push.ensures.items c.new-waiting.ensures.items node in
    let way = way_from_top sha512_256 c.args.count c.args.top c.requires in (
      subst (λ l. IsWay sha512_256 (record { count = c.args.count; top = c.args.top; nodes = l })) (sym items) way.0,
      subst (λ l. 0 ≡ first_of c.args.count l) (sym items) (sym way.1),
      omega arith,
    )

pub returns-clause-top : goal.returns-clause-top
returns-clause-top c =
    let node = c.lower.ensures ∙ lowered_top c.args.count 64 c.args.count c.args.top (omega arith) (below_power c.args.count) in
    let items = pushed_top c.push.new.self.items c.new-waiting.result.items c.lower.result c.args.count c.args.top c.in_ok-push.ensures.items c.new-waiting.ensures.items node in
    ap (λ l. record { count = c.args.count; top = c.args.top; nodes = l }) items

pub returns-clause-leaf : goal.returns-clause-leaf
returns-clause-leaf c =
    let node = c.lower.ensures ∙ lowered_top c.args.count 64 c.args.count c.args.top (omega arith) (below_power c.args.count) in
    let items = pushed_top c.push.new.self.items c.new-waiting.result.items c.lower.result c.args.count c.args.top c.in_ok-push.ensures.items c.new-waiting.ensures.items node in
    ap (λ l. first_leaf (record { count = c.args.count; top = c.args.top; nodes = l })) items ∙ (way_from_top sha512_256 c.args.count c.args.top c.requires).1

pub returns-clause-pair : goal.returns-clause-pair
returns-clause-pair c =
    let node = c.lower.ensures ∙ lowered_top c.args.count 64 c.args.count c.args.top (omega arith) (below_power c.args.count) in
    let items = pushed_top c.push.new.self.items c.new-waiting.result.items c.lower.result c.args.count c.args.top c.in_ok-push.ensures.items c.new-waiting.ensures.items node in
    ap (λ l. pair_place (record { count = c.args.count; top = c.args.top; nodes = l })) items ∙ none_behind sha512_256 c.args.count c.args.top c.requires
