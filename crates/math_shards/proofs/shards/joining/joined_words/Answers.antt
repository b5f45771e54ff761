use Rattle.std.proofs.Common.{List, ℕ, subst, sym}
use Rattle.math_splitting.specs.Shards.{JoinTo}
use Rattle.math_shards.proofs.shards.joining.joined_words.Goals as goal

pub returns-clause-ok : goal.returns-clause-ok
returns-clause-ok c =
    let found = c.in_ok-data.ensures.ok in
    subst (λ (ws : List ℕ). JoinTo ws c.args.shards.now) (sym (c.in_ok-words.ensures found.0 found.1)) found.2
