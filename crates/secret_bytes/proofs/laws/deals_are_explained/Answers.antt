use Rattle.secret_bytes.proofs.DrawnDeals.{deals-explained, drawn-once, explanations-dealt}
use Rattle.secret_bytes.proofs.laws.deals_are_explained.Goals as goal

pub returns-clause-deals : goal.returns-clause-deals
returns-clause-deals c = deals-explained

pub returns-clause-drawn_once : goal.returns-clause-drawn_once
returns-clause-drawn_once c = drawn-once

pub returns-clause-back : goal.returns-clause-back
returns-clause-back c = explanations-dealt
