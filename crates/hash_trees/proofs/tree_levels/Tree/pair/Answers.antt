use Rattle.std.proofs.Common.{◌-◌, arith, ap, length, refl}
use Rattle.std.proofs.lemmas.Bool.{false≢true}
use Rattle.sha2.specs.Sha512.{sha512_256}
use Rattle.hash_trees.proofs.LevelsOfTrees.{level_found, none_higher, pair_found}
use Rattle.hash_trees.proofs.tree_levels.Tree.pair.Goals.{then-level-eq0-via-then-level-eq0, then-level-eq0-via-else-level-eq0+then-level-len}
use Rattle.hash_trees.proofs.tree_levels.Tree.pair.Goals as goal

pub returns-then-level-eq0-clause-some : goal.returns-then-level-eq0-clause-some
returns-then-level-eq0-clause-some c =
    elim c.then-level-eq0.branch [
      | then-level-eq0-via-then-level-eq0 w ↦ (λ r. absurd (false≢true r), λ two. let some = two.0 in absurd (omega (arith, some)))
      | then-level-eq0-via-else-level-eq0+then-level-len w ↦ (
        λ r. absurd (false≢true r),
        λ two. absurd (none_higher sha512_256 c.args.self.now c.self.inside.levels.items c.args.level c.args.place c.self.invariant.0 c.self.view_is (omega arith) two),
      )
    ]

pub returns-then-place-len-clause-some : goal.returns-then-place-len-clause-some
returns-then-place-len-clause-some c =
    let below = level_found sha512_256 c.args.self.now c.self.inside.levels.items (c.args.level - 1) c.index-below.result.now c.self.invariant.0 c.self.view_is (omega arith) c.index-below.ensures in
    let size = ap length below in
    (λ r. absurd (false≢true r), λ two. let both = two.1 in absurd (omega (arith, both, size)))

pub returns-clause-some : goal.returns-clause-some
returns-clause-some c =
    let below = level_found sha512_256 c.args.self.now c.self.inside.levels.items (c.args.level - 1) c.index-below.result.now c.self.invariant.0 c.self.view_is (omega arith) c.index-below.ensures in
    let size = ap length below in
    (λ r. (omega arith, omega (arith, size)), λ two. refl)

pub returns-clause-pair : goal.returns-clause-pair
returns-clause-pair c =
    let below = level_found sha512_256 c.args.self.now c.self.inside.levels.items (c.args.level - 1) c.index-below.result.now c.self.invariant.0 c.self.view_is (omega arith) c.index-below.ensures in
    let size = ap length below in
    pair_found sha512_256 c.args.self.now c.index-below.result.now.items c.args.level c.args.place c.index.result.now c.index-2.result.now c.index.result.now c.index-2.result.now below
    (omega arith, omega (arith, size)) c.index.ensures c.index-2.ensures
