use Rattle.std.proofs.Common.{◌≡◌, ◌∙◌, ◌↔◌, ◌/◌, ℕ, ◌+◌, ◌<◌, ◌^◌, List, [], ◌∷◌, ◌++◌, get_or, length, map, take, subst, sym, ap, true, true≢false, arith}
use Rattle.std.specs.List.{range_with_len}
use Rattle.std.proofs.Math.ListN.{set}
use Rattle.std.proofs.lemmas.Bool.{false≢true}
use Rattle.std.proofs.lemmas.List.{take_all, take_more_set}
use Rattle.std.proofs.lemmas.List.FromFn.{map-range_with_len_more}
use Rattle.math_fields.specs.declared.goldilocks.F.{F}
use Rattle.math_fields.specs.Elements.{residue}
use Rattle.systematic_shards.specs.Masks.{masked_number}
use Rattle.systematic_shards.specs.Words.{word_of_bytes}
use Rattle.systematic_shards.proofs.Bytes.{chunk-at, word-chunk}
use Rattle.shard_format.proofs.RowElements.{all-more, true-unless}
use Rattle.shard_format.proofs.rows.write_elements.Goals.{then-not-put_element, else-not-put_element}
use Rattle.shard_format.proofs.rows.write_elements.Goals as goal

pub loop-k-preserved : goal.loop-k-preserved
loop-k-preserved c =
    let row = c.args.row.now in
    let mask = c.args.mask in
    let k = c.loop-k.k in
    let elements = c.loop-k.elements in
    let f : ℕ → F = λ j. residue (masked_number mask (word_of_bytes row j)) in
    let inside : k < length elements = omega (arith, c.loop-k-test.true, c.loop-k.auto.elements) in
    let count = length row / 8 in
    let is : c.from_le_bytes.result ≡ word_of_bytes row k =
    c.from_le_bytes.ensures
    ∙ word-chunk row _ k
    (ap (λ words. get_or words k []) c.as_chunks.ensures.front ∙ chunk-at 8 count row k [] (omega (arith, inside, c.loop-k.auto.elements, c.requires, c.as_chunks.ensures.front_len))) in
    let put : c.put_element.new.elements ≡ set elements k (f k) = c.put_element.ensures.word ∙ ap (λ w. set elements k (residue (masked_number mask w))) is in
    let below = subst (λ w. (c.put_element.result ≡ true) ↔ (masked_number mask w < c.args.bound)) is c.put_element.ensures.below in
    let fit = subst (λ w. w < 2 ^ 64) is c.put_element.ensures.fit in
    record {
      words = ap (take (k + 1)) put ∙ take_more_set elements k (f k) inside ∙ ap (λ (xs : List F). xs ++ f k ∷ []) c.loop-k.invariant.words
          ∙ sym (map-range_with_len_more f 0 k k (omega arith));
      are = elim c.if-not-put_element.branch [
        | then-not-put_element w ↦ rw w.are-is (λ e. absurd (true≢false (sym e)))
        | else-not-put_element w ↦
            rw w.are-is (λ e. all-more (λ j. masked_number mask (word_of_bytes row j) < c.args.bound) k (c.loop-k.invariant.are e) (below.0 w.if-not-put_element.false))
      ];
      not = elim c.if-not-put_element.branch [
        | then-not-put_element w ↦ rw w.are-is (λ e. (k, omega arith, λ b. false≢true (sym w.if-not-put_element.true ∙ below.1 b)))
        | else-not-put_element w ↦ rw w.are-is (λ e. let some = c.loop-k.invariant.not e in (some.0, omega (arith, some.1), some.2))
      ];
      fit = all-more (λ j. word_of_bytes row j < 2 ^ 64) k c.loop-k.invariant.fit fit;
    }

pub returns-clause-words : goal.returns-clause-words
returns-clause-words c =
    let k = c.loop-k.k in
    let elements = c.loop-k.elements in
    let f : ℕ → F = λ j. residue (masked_number c.args.mask (word_of_bytes c.args.row.now j)) in
    let all : k ≡ length c.args.elements.now = omega (arith, c.loop-k-test.false, c.loop-k.auto.k-end) in
    sym (take_all k elements (omega (arith, all, c.loop-k.auto.elements))) ∙ c.loop-k.invariant.words ∙ ap (λ n. map f (range_with_len 0 n)) all

pub returns-clause-below : goal.returns-clause-below
returns-clause-below c =
    let all : c.loop-k.k ≡ length c.args.elements.now = omega (arith, c.loop-k-test.false, c.loop-k.auto.k-end) in (
      λ yes j l. c.loop-k.invariant.are yes j (omega (arith, l, all)),
      λ every. true-unless c.loop-k.are (λ e. let some = c.loop-k.invariant.not e in some.2 (every some.0 (omega (arith, some.1, all)))),
    )

pub returns-clause-fit : goal.returns-clause-fit
returns-clause-fit c = λ j l.
    let all : c.loop-k.k ≡ length c.args.elements.now = omega (arith, c.loop-k-test.false, c.loop-k.auto.k-end) in
    c.loop-k.invariant.fit j (omega (arith, l, all))
