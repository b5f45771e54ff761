use Rattle.std.proofs.Common.{◌≡◌, ◌∙◌, inl, inr, ◌+◌, ◌-◌, ◌*◌, ◌<◌, ℕ, length, get_or, ap, sym, subst, arith}
use Rattle.std.proofs.lemmas.Bool.{cases_lt}
use Rattle.math_theory.specs.Sums.{weighted_sum}
use Rattle.math_fields.specs.declared.goldilocks.F.{F}
use Rattle.math_values.specs.ColumnSums.{AreColumnSums}
use Rattle.math_fields.specs.Elements.{product, residue, sum}
use Rattle.math_fields.proofs.ElementNumbers.{same_number}
use Rattle.math_values.proofs.columns.sum_columns.Goals as goal

pub loop-k-preserved : goal.loop-k-preserved
loop-k-preserved c = λ j column l long is.
    let rows = c.args.rows.now in
    let new = c.store.new.cells in
    let from : ℕ = 8 * c.loop-k.k in
    let whole : F = weighted_sum (residue 0) sum product column c.args.weights.now in
    elim (cases_lt j from) as (λ _. get_or new j (residue 0) ≡ whole) [
      | inl before ↦ c.store.ensures.before (residue 0) j before ∙ c.loop-k.invariant j column before long is
      | inr past ↦
          let q : ℕ = j - from in
          let small : q < 8 = omega (arith, l, past) in
          let place : from + q ≡ j = omega (arith, past) in
          subst (λ p. get_or new p (residue 0) ≡ whole) place
          (same_number _ _ (sym (c.store.ensures.stored (residue 0) q small)
          ∙ c.eight_sums-lanes.ensures.lanes column q small long
          (λ i b. is i b ∙ ap (λ p. get_or rows (i * length c.args.out.now + p) (residue 0)) (sym place))))
    ]

pub returns : goal.returns
returns c =
    let all : 8 * c.loop-k.k ≡ length c.args.out.now = omega (arith, c.loop-k-test.false, c.requires.eights) in
    subst (λ n. AreColumnSums c.args.rows.now (length c.args.out.now) c.args.weights.now n c.loop-k.out) all c.loop-k.invariant
