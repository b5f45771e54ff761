use Rattle.std.proofs.Common.{◌≡◌, ◌∙◌, ◌<◌, ◌≤◌, ℕ, inr, List, length, map, get_or, refl, sym, ap, subst, arith}
use Rattle.std.specs.List.{All}
use Rattle.std.specs.List.Sorted.{IsStrictlyIncreasing}
use Rattle.std.proofs.lemmas.Bool.{false≢true}
use Rattle.std.proofs.lemmas.List.{get_or-map, length-map}
use Rattle.systematic_shards.specs.declared.rows.Row.{Row}
use Rattle.systematic_shards.specs.declared.split.Split.{Split}
use Rattle.systematic_shards.specs.Held.{AreIndexed, AreOneOfEach}
use Rattle.systematic_shards.specs.Refusals.{AreElements, HaveCodewordOf, IsSound}
use Rattle.systematic_shards.specs.Shards.{BelongTo, IsElementIn, IsRowOf}
use Rattle.math_transforms.specs.RootWeights.{AreRising}
use Rattle.systematic_shards.proofs.Held.{all-kept, belong-all, enough-kept, few-kept, no-conflict}
use Rattle.systematic_shards.proofs.OneCodeword.{some_item}
use Rattle.systematic_shards.proofs.holding.held_rows.Goals as goal

pub returns-then-len-code-clause-err : goal.returns-then-len-code-clause-err
returns-then-len-code-clause-err g c = λ wanted asked.
    let word = g.M.WordMemory.word in
    let split = c.args.code.split in
    let rows = c.args.rows.now in
    let kept = c.in_ok-kept.kept.items in
    let h = c.in_ok-kept.ensures.ok in
    inr (
      asked,
      c.are_elements.ensures.0 c.if-not-are_elements.false,
      no-conflict word split.width rows kept h split refl,
      few-kept word split.width rows kept h split.min (omega (arith, c.if-len-code.true, c.len.ensures, c.in_ok-kept.kept.ok.0)),
    )

-- the rows that are kept have rising indices, which are sound
kept-indexed : {M : Type 0} (word : List M → ℕ → ℕ) (bytes : ℕ) (split : Split) (rows kept : List (Row M)) (indices : List ℕ) → AreOneOfEach word split.width rows kept → All (IsSound bytes split) rows
    → indices ≡ map (λ row. row.index) kept → split.min ≤ length kept → AreIndexed split indices kept
kept-indexed word bytes split rows kept indices h sound are enough = record {
  are = are;
  rising = subst (AreRising split.total) (sym are) (
    h.rise,
    λ k d l.
        let b : k < length kept = omega (arith, l, length-map kept (λ row. row.index)) in
        let e = some_item kept k b in
        let at : get_or (map (λ row. row.index) kept) k d ≡ (get_or kept k e).index = get_or-map (λ row. row.index) kept k e d b in
        let below = (all-kept word split.width rows kept h (IsSound bytes split) sound k e b).1 in
        omega (arith, at, below),
  );
  enough = enough;
}

pub are_of_one_codeword-requires-clause-indexed : goal.are_of_one_codeword-requires-clause-indexed
are_of_one_codeword-requires-clause-indexed g c =
    let split = c.args.code.split in
    let kept : List (Row g.row.M.Denot) = c.in_ok-kept.kept.items in
    rw (c.deref-2.ensures.value, c.deref-3.ensures.value)
    (kept-indexed g.M.WordMemory.word g.M.WordMemory.BYTES split c.args.rows.now kept c.in_ok-indices.indices.items c.in_ok-kept.ensures.ok c.requires
    (c.in_ok-indices.ensures ∙ ap (map (λ row. row.index)) c.deref.ensures.value) (omega (arith, c.if-len-code.false, c.len.ensures, c.in_ok-kept.kept.ok.0)))

pub are_of_one_codeword-requires-clause-elements : goal.are_of_one_codeword-requires-clause-elements
are_of_one_codeword-requires-clause-elements g c =
    let word = g.M.WordMemory.word in
    let code = c.args.code in
    let split = code.split in
    subst (AreElements word split code.mask) (sym c.deref-2.ensures.value)
    (all-kept word split.width c.args.rows.now c.in_ok-kept.kept.items c.in_ok-kept.ensures.ok
    (λ row. (k : ℕ) → k < split.width → IsElementIn split.min code.mask row.index (word row.cells.now k)) (c.are_elements.ensures.0 c.if-not-are_elements.false))

pub returns-then-not-branch-clause-err : goal.returns-then-not-branch-clause-err
returns-then-not-branch-clause-err g c = λ wanted asked.
    let word = g.M.WordMemory.word in
    let code = c.args.code in
    let split = code.split in
    let rows = c.args.rows.now in
    let kept = c.in_ok-kept.kept.items in
    let h = c.in_ok-kept.ensures.ok in (
      asked,
      c.are_elements.ensures.0 c.if-not-are_elements.false,
      enough-kept word split.width rows kept h split.min (omega (arith, c.if-len-code.false, c.len.ensures, c.in_ok-kept.kept.ok.0)),
      no-conflict word split.width rows kept h split refl,
      λ found.
          let (a, of_code, belong) = found in
          let of_kept : BelongTo word split code.mask kept a = all-kept word split.width rows kept h (λ row. IsRowOf split code.mask a row.index (word row.cells.now)) belong in
          let here : HaveCodewordOf word split code.mask c.deref-2.result.now = subst (HaveCodewordOf word split code.mask) (sym c.deref-2.ensures.value) (a, of_code, of_kept) in
          false≢true (sym c.if-not-branch.true ∙ c.in_ok-are_of_one_codeword.ensures.1 here),
    )

pub returns-clause-ok : goal.returns-clause-ok
returns-clause-ok g c =
    let word = g.M.WordMemory.word in
    let code = c.args.code in
    let split = code.split in
    let rows = c.args.rows.now in
    let kept : List (Row g.row.M.Denot) = c.in_ok-kept.kept.items in
    let indices = c.in_ok-indices.indices.items in
    let h = c.in_ok-kept.ensures.ok in
    let are : indices ≡ map (λ row. row.index) kept = c.in_ok-indices.ensures ∙ ap (map (λ row. row.index)) c.deref.ensures.value in
    let found : HaveCodewordOf word split code.mask kept = subst (HaveCodewordOf word split code.mask) c.deref-2.ensures.value (c.in_ok-are_of_one_codeword.ensures.0 c.if-not-branch.false) in
    record {
      kept = h;
      indexed = kept-indexed word g.M.WordMemory.BYTES split rows kept indices h c.requires are (omega (arith, c.if-len-code.false, c.len.ensures, c.in_ok-kept.kept.ok.0));
      elements = c.are_elements.ensures.0 c.if-not-are_elements.false;
      codeword = (found.0, found.1, belong-all word split.width rows kept h split code.mask found.0 refl found.2);
    }

pub invariant_of-result : goal.invariant_of-result
invariant_of-result g c =
    let are : c.in_ok-indices.indices.items ≡ map (λ row. row.index) c.in_ok-kept.kept.items = c.in_ok-indices.ensures ∙ ap (map (λ row. row.index)) c.deref.ensures.value in
    record { are = are; rise = subst IsStrictlyIncreasing (sym are) c.in_ok-kept.ensures.ok.rise }
