use Rattle.std.proofs.Common.{◌∙◌, [], ◌∷◌, ◌++◌, length-append, arith}
use Rattle.std.specs.Int.{to_be_bytes, w64}
use Rattle.std.proofs.lemmas.Result.{err_from_is_err_and}
use Rattle.math_codec.proofs.ItemScan.{item_read, item_fails, items_done, item_taken}
use Rattle.math_fields.specs.Elements.{number}
use Rattle.math_fields.specs.ElementEncoding.{scan_element}
use Rattle.c_calls.proofs.ReadWords.{elements_pushed, words_scanned}
use Rattle.c_calls.proofs.elements.after_elements.Goals as goal

pub returns-in-Some-clause-exact : goal.returns-in-Some-clause-exact
returns-in-Some-clause-exact c = grind (arith, words_scanned)

pub returns-in_err-_element-clause-exact : goal.returns-in_err-_element-clause-exact
returns-in_err-_element-clause-exact c = grind (arith, err_from_is_err_and, item_fails)

pub loop-preserved : goal.loop-preserved
loop-preserved c =
    let loop = c.loop in
    let word = number c.in_ok-_element._element in
    let taken = c.in_ok-_element.ensures.taken in
    let before = loop.invariant.taken in
    record {
      taken = (
        before.0 ++ word ∷ [],
        omega (arith, length-append before.0 (word ∷ []), before.1),
        elements_pushed before.0 word before.2 taken.0,
        item_taken (to_be_bytes w64) before.0 word c.args.bytes.now loop.rest.now _ before.3 taken.1,
      );
      exact = item_read scan_element c.args.count loop.counter loop.rest.now _ _ c.loop-test.true c.in_ok-_element.ensures.exact loop.invariant.exact;
    }

pub returns-clause-exact : goal.returns-clause-exact
returns-clause-exact c = items_done scan_element c.args.count c.loop.counter _ _ c.loop-test.false c.loop.invariant.exact
