use Rattle.std.proofs.Common.{◌≡◌, ◌∙◌, ◌+◌, ◌-◌, ap, arith, reverse}
use Rattle.std.proofs.lemmas.List.{length-reverse}
use Rattle.sha2.specs.Sha512.{sha512_256}
use Rattle.hash_trees.specs.Descents.{pair_place}
use Rattle.hash_trees.proofs.WaysDown.{pairs_before}
use Rattle.hash_trees.proofs.descent.Descent.pair_place.Goals as goal

pub overflow_add-result : goal.overflow_add-result
overflow_add-result c =
    let pairs = pairs_before sha512_256 (record { count = c.self.inside.count; top = c.self.inside.top; nodes = reverse c.self.inside.waiting.items }) c.self.invariant.0 in
    let size = length-reverse c.self.inside.waiting.items in
    omega (arith, pairs.0, size, c.self.invariant.1, c.self.invariant.2)

pub overflow_sub-result : goal.overflow_sub-result
overflow_sub-result c =
    let pairs = pairs_before sha512_256 (record { count = c.self.inside.count; top = c.self.inside.top; nodes = reverse c.self.inside.waiting.items }) c.self.invariant.0 in
    let size = length-reverse c.self.inside.waiting.items in
    omega (arith, pairs.1, size, c.self.invariant.1)

pub returns : goal.returns
returns c =
    let pairs = pairs_before sha512_256 (record { count = c.self.inside.count; top = c.self.inside.top; nodes = reverse c.self.inside.waiting.items }) c.self.invariant.0 in
    let size = length-reverse c.self.inside.waiting.items in
    let here : c.self.inside.first + c.len.result - 1 ≡ pair_place (record { count = c.self.inside.count; top = c.self.inside.top; nodes = reverse c.self.inside.waiting.items }) =
    omega (arith, pairs.2, size, c.self.invariant.1) in
    here ∙ ap pair_place c.self.view_is
