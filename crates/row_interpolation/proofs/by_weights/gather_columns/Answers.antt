use Rattle.std.proofs.Common.{◌≡◌, ◌∙◌, inl, inr, ◌+◌, ◌*◌, ◌<◌, ℕ, subst, arith}
use Rattle.std.proofs.lemmas.Bool.{cases_lt}
use Rattle.std.proofs.lemmas.Nat.{same_from_place}
use Rattle.math_restoring.specs.Restored.{item}
use Rattle.row_interpolation.proofs.by_weights.gather_columns.Goals as goal

pub loop-t-preserved : goal.loop-t-preserved
loop-t-preserved g c = λ k s b m.
    let element = g.R.ElementRows.element c.args.rows.now in
    let n : ℕ = c.args.count in
    let t : ℕ = c.loop-t.t in
    let p : ℕ = c.args.from + k in
    let new = c.gather_row.new.columns in
    let inside : t < n = c.loop-t-test.true in
    elim (cases_lt s t) as (λ _. item new (k * n + s) ≡ element s p) [
      | inl before ↦
          c.gather_row.ensures.others (k * n + s)
          (λ i e f. let q = same_from_place k s i t n (omega (arith, before, inside)) inside f in omega (arith, before, q.1))
          ∙ c.loop-t.invariant k s b before
      | inr after ↦
          let is : t ≡ s = omega (arith, after, m) in
          subst (λ i. item new (k * n + i) ≡ element i p) is (c.gather_row.ensures.written k b)
    ]
