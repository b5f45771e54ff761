use Rattle.hash_trees.proofs.TrueWays.{pairs_lead_down, roots_lead_down, ways_stay}
use Rattle.hash_trees.proofs.laws.descents.Goals as goal

pub returns-clause-root : goal.returns-clause-root
returns-clause-root c = roots_lead_down

pub returns-clause-pairs : goal.returns-clause-pairs
returns-clause-pairs c = pairs_lead_down

pub returns-clause-ways : goal.returns-clause-ways
returns-clause-ways c = ways_stay
