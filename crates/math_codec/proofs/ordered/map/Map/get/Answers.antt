use Rattle.std.proofs.Common.{sym, ap, ◌∙◌, subst}
use Rattle.std.specs.List.{slice_get}
use Rattle.std.specs.List.Sorted.{IsStrictlySortedBy}
use Rattle.math_codec.proofs.MapParts.{keys_of_view, values_of_view}
use Rattle.math_codec.proofs.SearchedPairs.{got_item, value_found, value_missed}
use Rattle.math_codec.proofs.ordered.map.Map.get.Goals as goal

pub returns-in-Ok : goal.returns-in-Ok
returns-in-Ok g c =
    let ks = c.self.inside.keys.items in
    let vs = c.self.inside.values.items in
    let m = c.args.self.now in
    let keys = keys_of_view ks vs m c.self.invariant.0 c.self.view_is in
    let values = values_of_view ks vs m c.self.invariant.0 c.self.view_is in
    got_item c.deref-in-Ok.result.now c.in-Ok.place c.get.result c.get.ensures.lookup
    ∙ ap (λ l. slice_get l c.in-Ok.place) (c.deref-in-Ok.ensures.value ∙ values)
    ∙ value_found g.met.I.Ord.total c.args.key.now c.deref.result.now m (c.deref.ensures.value ∙ keys)
    (subst (IsStrictlySortedBy g.I.Ord.cmp) keys c.self.invariant.1) c.in-Ok.place c.in-Ok.ensures.bound c.in-Ok.ensures.ok

pub returns-in-Err : goal.returns-in-Err
returns-in-Err g c =
    let ks = c.self.inside.keys.items in
    let vs = c.self.inside.values.items in
    let m = c.args.self.now in
    let keys = keys_of_view ks vs m c.self.invariant.0 c.self.view_is in
    sym (value_missed g.met.I.Ord.total c.args.key.now c.deref.result.now m (c.deref.ensures.value ∙ keys)
    (subst (IsStrictlySortedBy g.I.Ord.cmp) keys c.self.invariant.1) c.in-Err.field-0 c.in-Err.ensures.position)
