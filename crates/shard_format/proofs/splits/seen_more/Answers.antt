use Rattle.std.proofs.Common.{◌<◌, ◌≤◌, rules, arith}
use Rattle.std.proofs.lemmas.Bool.{false≢true}
use Rattle.shard_format.specs.Splits.{count_in}
use Rattle.shard_format.proofs.CountedSplits.{kept, replaced, of_counted_split}
use Rattle.shard_format.proofs.splits.seen_more.Goals as goal

pub returns-then-is_counted-clause-largest : goal.returns-then-is_counted-clause-largest
returns-then-is_counted-clause-largest c = λ before l. of_counted_split c.args.headers.now before c.args.seen.best c.args.header.now (search rules) l

pub returns-then-is_more-clause-largest : goal.returns-then-is_more-clause-largest
returns-then-is_more-clause-largest c = λ before l.
    replaced c.args.headers.now before c.args.seen.best c.args.header.now c.known_count-count.result l c.known_count-count.ensures (search rules) c.requires.there (search rules)

pub returns-clause-largest : goal.returns-clause-largest
returns-clause-largest c = λ before l. kept c.args.headers.now before c.args.seen.best c.args.header.now l (λ e.
    let count = c.known_count-count.ensures in
    let many : c.args.header.now.min ≤ c.known_count-count.result = omega (arith, count, e.many) in
    let not_more : ¬ (count_in c.args.seen.best < c.known_count-count.result) = λ more. false≢true (c.if-is_more.ensures.1 (more, e.possible, many)) in
    omega (arith, count, not_more))
