use Rattle.std.proofs.Common.{◌≡◌, ◌<◌, ◌≤◌, ◌∙◌, ◌*◌, ◌-◌, ◌^◌, ℕ, zero, suc, arith, subst, sym}
use Rattle.std.proofs.lemmas.Nat.{one_shl}
use Rattle.hash_trees.proofs.LoweredNodes.{lowered_here, lowered_step, one_less, same_first}
use Rattle.hash_trees.proofs.descent.lower.Goals as goal

-- the first leaf stays
first_stays : (level place bound : ℕ) → 0 < level → place * 2 ^ level < bound → place * 2 * 2 ^ (level - 1) < bound
first_stays zero place bound some l = absurd (omega (arith, some))
first_stays (suc level) place bound some l =
    let twice : place * 2 ≡ 2 * place = omega arith in
    rw (one_less level, twice, same_first level place) l

pub loop-level-preserved : goal.loop-level-preserved
loop-level-preserved c =
    let half = one_shl (c.loop-level.level - 1) 64 (omega arith) in
    let few = subst (λ n. c.args.leaves ≤ n) half c.if-leaves-level.true in (
      omega arith,
      first_stays c.loop-level.level c.loop-level.place 18446744073709551616 c.loop-level-test.true c.loop-level.invariant.1,
      lowered_step c.args.leaves c.loop-level.level c.loop-level.place c.args.digest c.loop-level-test.true few ∙ c.loop-level.invariant.2,
    )

pub returns-else-leaves-level : goal.returns-else-leaves-level
returns-else-leaves-level c =
    let half = one_shl (c.loop-level.level - 1) 64 (omega arith) in
    let more = subst (λ n. n < c.args.leaves) half c.if-leaves-level.false in
    let here = lowered_here c.args.leaves c.loop-level.level c.loop-level.place c.args.digest (λ some. more) in
    sym here ∙ c.loop-level.invariant.2

pub returns-after-loop-level : goal.returns-after-loop-level
returns-after-loop-level c =
    let here = lowered_here c.args.leaves c.loop-level.level c.loop-level.place c.args.digest (λ some. absurd (omega arith)) in
    sym here ∙ c.loop-level.invariant.2
