use Rattle.std.proofs.Common.{List, ℕ, subst, sym}
use Rattle.math_shards.specs.Correcting.{AreCorrected}
use Rattle.math_shards.proofs.shards.correcting.corrected_words.Goals as goal

pub returns-clause-ok : goal.returns-clause-ok
returns-clause-ok c =
    let found = c.in_ok-data.ensures.ok in
    subst (λ (ws : List ℕ). AreCorrected ws c.in_ok-data.left_out.items c.args.shards.now) (sym (c.in_ok-words.ensures found.0 found.1)) found.2
