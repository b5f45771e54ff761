use Rattle.std.proofs.Common.{[], ◌∷◌, ◌++◌, length, length-append, sym, ap, true≢false, arith}
use Rattle.std.specs.Int.{to_be_bytes, w64}
use Rattle.math_codec.proofs.ItemScan.{item_taken}
use Rattle.c_calls.proofs.ReadWords.{elements_pushed}
use Rattle.c_calls.proofs.elements.after_words_below.Goals.{then-word-ge-MODULUS, else-word-ge-MODULUS}
use Rattle.c_calls.proofs.elements.after_words_below.Goals as goal

pub loop-preserved : goal.loop-preserved
loop-preserved c =
    let word = c.in-Ok.word in
    let taken = c.in-Ok.ensures.taken in
    let before = c.loop.invariant.taken in
    record {
      left = omega (arith, ap length taken.1, length-append (to_be_bytes w64 word) c.read_cfg.new.input.now, c.loop.invariant.left);
      taken = (
        before.0 ++ word ∷ [],
        omega (arith, length-append before.0 (word ∷ []), before.1),
        elim c.if-word-ge-MODULUS.branch [
          | then-word-ge-MODULUS w ↦ rw w.below-is (λ e. absurd (true≢false (sym e)))
          | else-word-ge-MODULUS w ↦ rw w.below-is (λ e. elements_pushed before.0 word (before.2 e) (omega (arith, w.if-word-ge-MODULUS.false)))
        ],
        item_taken (to_be_bytes w64) before.0 word c.args.bytes.now c.loop.rest.now _ before.3 taken.1,
      );
    }
