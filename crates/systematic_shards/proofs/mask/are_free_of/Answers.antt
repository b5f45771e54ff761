use Rattle.std.proofs.Common.{◌∙◌, true≢false, sym, arith}
use Rattle.std.proofs.lemmas.Bool.{false≢true}
use Rattle.std.proofs.lemmas.List.{get_or_default}
use Rattle.std.proofs.lemmas.List.Elements.{All-more}
use Rattle.systematic_shards.specs.Masks.{IsFreeOf}
use Rattle.systematic_shards.proofs.mask.are_free_of.Goals.{then-not-is_free_of, else-not-is_free_of}
use Rattle.systematic_shards.proofs.mask.are_free_of.Goals as goal

pub loop-word-preserved : goal.loop-word-preserved
loop-word-preserved c =
    let words = c.args.words.now in
    let mask = c.args.mask in
    let i = c.loop-word.word-index in
    record {
      free = elim c.if-not-is_free_of.branch [
        | then-not-is_free_of w ↦ rw w.free-is (λ e. absurd (true≢false (sym e)))
        | else-not-is_free_of w ↦ rw w.free-is (λ e. All-more (IsFreeOf mask) words i 0 c.loop-word-test.true (c.loop-word.invariant.free e) (c.is_free_of.ensures.0 w.if-not-is_free_of.false))
      ];
      not_free = elim c.if-not-is_free_of.branch [
        | then-not-is_free_of w ↦ rw w.free-is (λ e all. false≢true (sym w.if-not-is_free_of.true ∙ c.is_free_of.ensures.1 (all i 0 c.loop-word-test.true)))
        | else-not-is_free_of w ↦ rw w.free-is c.loop-word.invariant.not_free
      ];
    }

pub returns-clause-fit : goal.returns-clause-fit
returns-clause-fit c = λ k d l. omega (arith, c.type_inv.words k, get_or_default c.args.words.now k d 0 l)
