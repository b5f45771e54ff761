use Rattle.std.proofs.Common.{subst}
use Rattle.std.proofs.lemmas.Bool.{false≢true}
use Rattle.std.proofs.lemmas.List.Elements.{All-more}
use Rattle.shard_format.specs.declared.header.Header.{Header}
use Rattle.shard_format.specs.Splits.{IsRival}
use Rattle.shard_format.proofs.CountedSplits.{all_taken, no_rival}
use Rattle.shard_format.proofs.splits.rival.Goals as goal

pub loop-header-preserved : goal.loop-header-preserved
loop-header-preserved c =
    let headers = c.args.headers.now in
    let item = c.header-item.result in
    let not_rival : ¬ (IsRival headers c.args.best.now item) =
    no_rival headers c.args.best.now item c.known_count-count.result c.known_count-count.ensures (λ e p m. false≢true (c.if-is_as_many.ensures.1 (e, p, m))) in
    let P : Header → Type 0 = λ h. ¬ (IsRival headers c.args.best.now h) in
    record {
      none = All-more P headers c.loop-header.header-index item c.loop-header-test.true c.loop-header.invariant.none (subst P c.header-item.is not_rival);
      right = c.known_count-count.ensures;
    }

pub returns-clause-none : goal.returns-clause-none
returns-clause-none c =
    let P : Header → Type 0 = λ h. ¬ (IsRival c.args.headers.now c.args.best.now h) in
    all_taken P c.args.headers.now c.loop-header.header-index c.loop-header-test.false c.loop-header.invariant.none
