use Rattle.std.proofs.Common.{ℕ, ◌*◌, ◌<◌, ◌^◌, ap, subst, sym, arith}
use Rattle.std.proofs.lemmas.Bool.{eq-eqb, eqb-true}
use Rattle.std.proofs.lemmas.Bool.Decides.{nat_tests}
use Rattle.systematic_shards.proofs.Bytes.{below-from_shift, shift-from_below, within-left}
use Rattle.systematic_shards.proofs.planning.is_within.Goals as goal

pub returns-then-left-ge8 : goal.returns-then-left-ge8
returns-then-left-ge8 c =
    (λ _. within-left c.args.size c.args.k c.args.word c.saturating_sub-left.result c.saturating_sub-left.ensures c.if-left-ge8.true c.ranges.word.fits, λ _. grind (arith, nat_tests))

pub returns-else-left-ge8 : goal.returns-else-left-ge8
returns-else-left-ge8 c =
    let left = c.saturating_sub-left.result in
    let is = ap (λ n. 2 ^ (8 * n)) c.saturating_sub-left.ensures in (
      λ none. subst (λ (n : ℕ). c.args.word < n) is (below-from_shift c.args.word (8 * left) (eqb-true _ _ none)),
      λ less. eq-eqb _ _ (shift-from_below c.args.word (8 * left) (subst (λ (n : ℕ). c.args.word < n) (sym is) less)),
    )
