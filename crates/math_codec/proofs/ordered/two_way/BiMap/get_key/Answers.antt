use Rattle.std.proofs.Common.{◌≡◌, HoldsAt, get_or, rules, ap, sym, subst, ◌∙◌}
use Rattle.std.specs.declared.cmp.Ordering.TheVariants.{Less, Equal, Greater}
use Rattle.std.specs.List.{slice_get}
use Rattle.std.specs.List.Sorted.{IsNonDecreasingBy, IsPartitionPoint}
use Rattle.std.specs.Ordering.{ordering_index}
use Rattle.std.specs.Map.{values_of}
use Rattle.std.proofs.lemmas.Fn.{always_returns_same}
use Rattle.math_codec.specs.OrderedMaps.{compared_at, key_with, IsOrderByValue}
use Rattle.math_codec.proofs.SearchedPairs.{got_item}
use Rattle.math_codec.proofs.SearchedValues.{key_found, key_missed}
use Rattle.math_codec.proofs.ordered.two_way.BiMap.get_key.Goals as goal

pub returns-in-Ok : goal.returns-in-Ok
returns-in-Ok g c =
    let cmp = g.V.Ord.cmp in
    let m = c.self.inside.pairs in
    let v = c.args.value.now in
    let stops = c.in-Ok.ensures.position (compared_at cmp c.values-values.result.now v) (always_returns_same _ _ _ (λ a r f' k. search rules)) in
    let here = subst (λ vs. HoldsAt (λ p. compared_at cmp vs v p ≡ Equal) c.deref.result.now c.in-Ok.at) c.values-values.ensures stops in
    let order = subst (λ l. IsOrderByValue cmp (values_of m) l) (sym c.deref.ensures.value) c.self.invariant.1 in
    got_item c.keys.result.now c.index.result.now c.get.result c.get.ensures.lookup
    ∙ ap (λ l. slice_get l c.index.result.now) c.keys.ensures.keys
    ∙ key_found g.met.V.Ord.total v m c.deref.result.now order c.in-Ok.at c.in-Ok.ensures.bound here c.index.result.now
    (c.index.ensures ∙ ap (λ l. get_or l c.in-Ok.at c.index.result.now) (sym c.deref.ensures.value))
    ∙ ap (key_with cmp v) c.self.view_is

pub returns-in-Err : goal.returns-in-Err
returns-in-Err g c =
    let cmp = g.V.Ord.cmp in
    let m = c.self.inside.pairs in
    let v = c.args.value.now in
    let parted = c.in-Err.ensures.position (compared_at cmp c.values-values.result.now v) (always_returns_same _ _ _ (λ a r f' k. search rules)) in
    let order = subst (λ l. IsOrderByValue cmp (values_of m) l) (sym c.deref.ensures.value) c.self.invariant.1 in
    sym (key_missed g.met.V.Ord.total v m c.deref.result.now order c.in-Err.field-0
    (subst (λ vs. IsNonDecreasingBy (λ p. ordering_index (compared_at cmp vs v p)) c.deref.result.now
    → IsPartitionPoint (λ p. compared_at cmp vs v p ≡ Less) (λ p. compared_at cmp vs v p ≡ Greater) c.deref.result.now c.in-Err.field-0) c.values-values.ensures parted))
    ∙ ap (key_with cmp v) c.self.view_is
