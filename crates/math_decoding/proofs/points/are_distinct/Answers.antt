use Rattle.std.proofs.Common.{◌≡◌, ◌<◌, inl, inr, get_or, sym, ◌∙◌, subst, arith}
use Rattle.std.proofs.lemmas.Bool.{cases_lt, false≢true}
use Rattle.math_decoding.proofs.points.are_distinct.Goals as goal

pub loop-i-preserved : goal.loop-i-preserved
loop-i-preserved g c = λ j k d l m n s. elim (cases_lt j c.loop-i.i) [
  | inl before ↦ c.loop-i.invariant j k d before m n s
  | inr here ↦
      let e : j ≡ c.loop-i.i = omega (arith, here, l) in
      let again = subst (λ x. g.F.Object.same (get_or c.args.points.now x d) (get_or c.args.points.now k d)) e s in
      false≢true (sym c.if-branch.false ∙ c.in_ok-stands_again.ensures.1 (k, d, omega (arith, m, e), n, again))
]
