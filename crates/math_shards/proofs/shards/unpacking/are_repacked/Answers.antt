use Rattle.std.proofs.Common.{◌≡◌, ◌∙◌, ℕ, ◌+◌, ◌-◌, ◌*◌, ◌%◌, ◌<◌, ◌≤◌, ◌^◌, lit<, drop, take, length, get_or, sym, ap, subst, arith}
use Rattle.std.proofs.Math.Nat.{pow-le-pow_right}
use Rattle.std.proofs.lemmas.Bool.{false≢true}
use Rattle.std.proofs.lemmas.List.{get_or_default, length-drop, length-take}
use Rattle.math_fields.specs.declared.goldilocks.F.{F}
use Rattle.math_fields.specs.Elements.{number}
use Rattle.math_transforms.proofs.WrittenRows.{part-read}
use Rattle.math_shards.proofs.RepackedElements.{repacked_below}
use Rattle.math_splitting.proofs.SameCells.{nought}
use Rattle.math_shards.proofs.UnpackedWords.{below_of_repacked}
use Rattle.math_shards.proofs.shards.unpacking.are_repacked.Goals as goal

pub returns-then-are_below : goal.returns-then-are_below
returns-then-are_below c =
    let elements = c.args.elements.now in
    let last : ℕ = c.args.filled - 1 in
    let one : ℕ = c.args.filled - last in
    let there : 0 < one = omega (arith, c.requires.filled) in
    let single : one ≡ 1 = omega (arith, c.requires.filled) in
    let long : 0 < length (take one (drop last elements)) = omega (arith, there, c.requires.within, length-take one (drop last elements), length-drop last elements) in
    let at : get_or (take one (drop last elements)) 0 nought ≡ get_or elements last nought =
    part-read nought elements last one 0 there ∙ ap (λ i. get_or elements i nought) (let e : last + 0 ≡ last = omega arith in e) in
    let few : c.args.count % 63 + 1 ≤ 63 = omega arith in
    let small : 2 ^ (c.args.count % 63 + 1) ≤ 2 ^ 63 = pow-le-pow_right {n = 2} (lit< tt) few in
    let bound : 1 * 2 ^ (c.args.count % 63 + 1) % 2 ^ 64 ≡ 2 ^ (c.args.count % 63 + 1) = omega (arith, small) in (
      λ h.
          repacked_below elements c.args.count c.args.filled c.requires.filled c.requires.within (c.are_below.ensures.0 c.if-are_below.true)
          (subst (λ n. number (get_or elements last nought) < n) bound
          (subst (λ (x : F). number x < 1 * 2 ^ (c.args.count % 63 + 1) % 2 ^ 64) at (c.are_below-then-are_below.ensures.0 h 0 nought long))),
      λ again. c.are_below-then-are_below.ensures.1 (λ k d l.
          let none : k ≡ 0 = omega (arith, l, single, length-take one (drop last elements)) in
          let same_item : get_or (take one (drop last elements)) k d ≡ get_or elements last nought =
          ap (λ i. get_or (take one (drop last elements)) i d) none ∙ get_or_default (take one (drop last elements)) 0 d nought long ∙ at in
          subst (λ (x : F). number x < 1 * 2 ^ (c.args.count % 63 + 1) % 2 ^ 64) (sym same_item)
          (subst (λ n. number (get_or elements last nought) < n) (sym bound) (below_of_repacked elements c.args.count c.args.filled c.requires.filled c.requires.within again).1)),
    )

pub returns-else-are_below : goal.returns-else-are_below
returns-else-are_below c = (
  λ e. absurd (false≢true (sym c.if-are_below.false ∙ e)),
  λ again. c.are_below.ensures.1 (below_of_repacked c.args.elements.now c.args.count c.args.filled c.requires.filled c.requires.within again).0,
)
