use Rattle.std.proofs.Common.{◌≡◌, ◌+◌, ◌++◌, ◌∷◌, length, ap, ◌∙◌, sym, refl, rules, arith, append-nil}
use Rattle.math_numbers.specs.Bits.{bits}
use Rattle.math_numbers.proofs.BitLists.{joined-append}
use Rattle.math_fields.specs.Repacking.{running}
use Rattle.math_fields.specs.Packing.{waiting_bits, elements_of_bits}
use Rattle.math_fields.proofs.BitFronts.{length-both}
use Rattle.math_fields.proofs.Packing.{elements_of_bits-nil, elements_of_bits-waiting, elements_of_bits-last, waiting_bits-none}
use Rattle.math_fields.proofs.Repacking.{Refills-none, Refills-call, Refills-end, Repacks-none, Repacks-some, running-ended}
use Rattle.math_fields.proofs.goldilocks.packing.WordsToElementsIterator.next.Goals as goal

pub returns-then-waiting-eq63-clause-steps : goal.returns-then-waiting-eq63-clause-steps
returns-then-waiting-eq63-clause-steps g c =
    let w = c.args.self.now.waiting in
    let x = c.from_piece.result in
    Repacks-some (joined-append 64) elements_of_bits (Refills-none (running c.args.self.now.source) refl) refl x (waiting_bits c.none-self.result)
    (λ more last.
    elements_of_bits-last w more x c.from_piece.ensures (search rules) (search rules) (search rules)
    ∙ ap (λ l. x ∷ elements_of_bits (l ++ more)) (sym c.none-self.ensures.bits))

pub returns-then-waiting-eq0-clause-steps : goal.returns-then-waiting-eq0-clause-steps
returns-then-waiting-eq0-clause-steps g c =
    let w = c.args.self.now.waiting in
    let steps = c.in_default.ensures.steps in
    Repacks-none (joined-append 64) elements_of_bits (Refills-end c.args.self.now.source c.next.new.self steps refl) refl elements_of_bits-nil
    (waiting_bits-none w (search rules)) (running-ended c.next.new.self steps.1)

pub returns-in_default-clause-steps : goal.returns-in_default-clause-steps
returns-in_default-clause-steps g c =
    let w = c.args.self.now.waiting in
    let steps = c.in_default.ensures.steps in
    let x = c.from_piece-in_default.result in
    Repacks-some (joined-append 64) elements_of_bits (Refills-end c.args.self.now.source c.next.new.self steps refl) refl x (waiting_bits c.none-self-in_default.result)
    (λ more last.
    elements_of_bits-last w more x c.from_piece-in_default.ensures (search rules) (search rules) (λ few. last (running-ended c.next.new.self steps.1))
    ∙ ap (λ l. x ∷ elements_of_bits (l ++ more)) (sym c.none-self-in_default.ensures.bits))

pub returns-clause-steps : goal.returns-clause-steps
returns-clause-steps g c =
    let w = c.args.self.now.waiting in
    let word = c.in-Some.word in
    let after = waiting_bits w ++ bits 64 word in
    let more-bits = ap (λ l. waiting_bits w ++ l) (sym (append-nil (bits 64 word))) in
    let long : length after ≡ w.count + 64 = length-both w.count 64 w.value word in
    let x = c.from_piece-2.result in
    Repacks-some (joined-append 64) elements_of_bits (Refills-call c.args.self.now.source c.next.new.self word c.in-Some.ensures.steps more-bits) refl x (waiting_bits c.cut-first.result.1)
    (λ more last.
    elements_of_bits-waiting after more x (c.from_piece-2.ensures ∙ c.cut-first.ensures.first) (omega (arith, long)) (λ few. absurd (omega (arith, long, few)))
    ∙ ap (λ l. x ∷ elements_of_bits (l ++ more)) (sym c.cut-first.ensures.rest))
