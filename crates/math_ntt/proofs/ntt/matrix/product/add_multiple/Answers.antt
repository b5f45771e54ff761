use Rattle.std.proofs.Common.{◌≡◌, ◌≢◌, ◌∙◌, ◌<◌, inl, inr, length, get_or, arith}
use Rattle.std.proofs.lemmas.Bool.{cases_lt}
use Rattle.std.proofs.lemmas.List.{get_or_read, get_or-set_same, get_or-set_other}
use Rattle.math_ntt.proofs.ntt.matrix.product.add_multiple.Goals as goal

pub loop-k-preserved : goal.loop-k-preserved
loop-k-preserved g c =
    let F = g.met.F in
    let E = F.Object.equality in
    let zero = g.F.Additive.zero in
    let sum = g.F.Additive.sum in
    let product = g.F.Multiplicative.product in
    let i = c.loop-k.k in
    let sums = c.loop-k.sums in
    let within : i < length sums = omega arith in
    let before : c.index-sums-k.result ≡ get_or c.args.sums.now i zero = get_or_read sums i _ within c.index-sums-k.is zero ∙ c.loop-k.invariant.rest i (omega arith) in
    let cell : c.index-row-k.result ≡ get_or c.args.row.now i zero = get_or_read _ i _ c.loop-k-test.true c.index-row-k.is zero in
    let term = E.transitive _ _ _ c.in_ok-term.ensures.ok (F.Multiplicative.commutes.respects _ _ _ _ c.in_ok-clone.ensures.ok (E.reflexive c.index-row-k.result)) in
    let added : g.F.Object.same c.add_assign.new.self (sum c.index-sums-k.result (product c.args.factor.now c.index-row-k.result)) =
    E.transitive _ _ _ (rw (← c.index-sums-k.is) at c.in_ok-add_assign.ensures.ok) (F.Additive.group.respects_sum _ _ _ _ (E.reflexive c.index-sums-k.result) term) in
    record {
      added = λ k l.
          elim (cases_lt k i) [
            | inl m ↦ let other : k ≢ i = λ e. omega (arith, e) in rw (get_or-set_other sums i k c.add_assign.new.self zero other) (c.loop-k.invariant.added k m)
            | inr m ↦ let e : k ≡ i = omega arith in rw (e, get_or-set_same sums i c.add_assign.new.self zero within) (rw (before, cell) at added)
          ];
      rest = λ k l. let other : k ≢ i = λ e. omega (arith, e) in get_or-set_other sums i k c.add_assign.new.self zero other ∙ c.loop-k.invariant.rest k (omega arith);
    }
