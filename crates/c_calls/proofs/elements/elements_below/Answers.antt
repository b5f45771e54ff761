use Rattle.std.proofs.Common.{◌≡◌, ◌∙◌, ◌++◌, [], ◌∷◌, take, get_or, true≢false, sym, arith}
use Rattle.std.proofs.lemmas.List.{length_push, take_more}
use Rattle.c_calls.proofs.ReadWords.{elements_pushed}
use Rattle.c_calls.proofs.WordElements.{elements_more}
use Rattle.c_calls.proofs.elements.elements_below.Goals.{then-word-ge-MODULUS, else-word-ge-MODULUS}
use Rattle.c_calls.proofs.elements.elements_below.Goals as goal

pub loop-word-preserved : goal.loop-word-preserved
loop-word-preserved c =
    let words = c.args.words.now in
    let i = c.loop-word.word-index in
    let out = c.loop-word.out.items in
    let pushed : c.push_reserved.new.self.items ≡ out ++ (c.from.result ∷ []) = c.push_reserved.ensures.items in
    let word = get_or words i 0 in
    record {
      count = rw pushed (omega (arith, length_push out c.from.result, c.loop-word.invariant.count));
      room = c.push_reserved.ensures.capacity ∙ c.loop-word.invariant.room;
      items = rw pushed (elements_more words i c.from.result out c.loop-word-test.true c.from.ensures c.loop-word.invariant.items);
      below = elim c.if-word-ge-MODULUS.branch [
        | then-word-ge-MODULUS w ↦ rw w.below-is (λ e. absurd (true≢false (sym e)))
        | else-word-ge-MODULUS w ↦ rw (w.below-is, take_more words i 0 c.loop-word-test.true)
            (λ e. elements_pushed (take i words) word (c.loop-word.invariant.below e) (omega (arith, w.if-word-ge-MODULUS.false)))
      ];
      not_below = elim c.if-word-ge-MODULUS.branch [
        | then-word-ge-MODULUS w ↦ rw w.below-is (λ e all. let small = all i 0 c.loop-word-test.true in absurd (omega (arith, small, w.if-word-ge-MODULUS.true)))
        | else-word-ge-MODULUS w ↦ rw w.below-is c.loop-word.invariant.not_below
      ];
    }
