use Rattle.std.proofs.Common.{◌≡◌, ◌∙◌, ◌^◌, ◌<◌, ◌≤◌, inl, inr, w64, sym, ap, pow_mono, arith}
use Rattle.std.specs.Int.{trailing_zeros}
use Rattle.std.proofs.lemmas.Bool.{cases_lt}
use Rattle.math_transforms.proofs.Levels.{lg-of_power}
use Rattle.math_transforms.proofs.transform.lg_of.Goals as goal

pub returns : goal.returns
returns c =
    let k = c.requires.0 in
    let below : c.args.count < 2 ^ 64 = omega arith in
    let at : trailing_zeros w64 c.args.count ≡ k = lg-of_power k c.args.count c.requires.1 below in
    let small : k < 64 = elim (cases_lt k 64) [
      | inl l ↦ l
      | inr l ↦ absurd (let up : 2 ^ 64 ≤ 2 ^ k = pow_mono l in omega (arith, up, c.requires.1))
    ] in
    record { value = c.requires.1 ∙ ap (λ n. 2 ^ n) (sym at); small = omega (arith, at, small) }
