use Rattle.std.proofs.Common.{◌≡◌, ◌<◌, ◌+◌, drop, length, ◌++◌, ◌∷◌, ap, ◌∙◌, sym, refl, rules, arith, append-nil, lit<}
use Rattle.math_numbers.specs.Bits.{bits}
use Rattle.math_numbers.proofs.BitLists.{bits-mod}
use Rattle.math_numbers.proofs.BitPieces.{cut-nil}
use Rattle.math_fields.specs.Elements.{number}
use Rattle.math_fields.specs.Packing.{waiting_bits, words_of_bits}
use Rattle.math_fields.proofs.BitFronts.{cut-waiting, length-both}
use Rattle.math_fields.proofs.Packing.{element_bits-append, waiting_bits-none, cut-last}
use Rattle.math_fields.proofs.Repacking.{Refills-append, Refills-call, Refills-end, Repacks-none, Repacks-some, running-ended}
use Rattle.math_fields.proofs.goldilocks.packing.ElementsToWordsIterator.next.Goals as goal

pub returns-then-waiting-eq0-clause-steps : goal.returns-then-waiting-eq0-clause-steps
returns-then-waiting-eq0-clause-steps g c =
    let none = waiting_bits-none c.refill.new.self.waiting (search rules) in
    Repacks-none element_bits-append words_of_bits c.refill.ensures.refills refl (cut-nil 64 (lit< tt)) none (c.refill.ensures.enough (search rules))

pub returns-in_default-clause-steps : goal.returns-in_default-clause-steps
returns-in_default-clause-steps g c =
    let w = c.refill.new.self.waiting in
    let steps = c.in_default.ensures.steps in
    let both = Refills-append element_bits-append c.refill.ensures.refills (Refills-end c.refill.new.self.source c.next.new.self steps refl) in
    Repacks-some element_bits-append words_of_bits both refl w.value (waiting_bits c.none-self.result)
    (λ more last.
    cut-last 64 w more (lit< tt) (search rules) (search rules) (λ few. last (running-ended c.next.new.self steps.1))
    ∙ ap (λ l. w.value ∷ words_of_bits (l ++ more)) (sym c.none-self.ensures.bits))

pub returns-clause-steps : goal.returns-clause-steps
returns-clause-steps g c =
    let w = c.refill.new.self.waiting in
    let n = number c.in-Some.element in
    let low = c.low_bits.result in
    let after = waiting_bits w ++ bits 63 low in
    let more-bits = ap (λ l. waiting_bits w ++ l) (ap (bits 63) c.low_bits.ensures ∙ bits-mod 63 n ∙ sym (append-nil (bits 63 n))) in
    let both = Refills-append element_bits-append c.refill.ensures.refills (Refills-call c.refill.new.self.source c.next.new.self c.in-Some.element c.in-Some.ensures.steps more-bits) in
    let some : 0 < w.count = search rules in
    let long : length after ≡ w.count + 63 = length-both w.count 63 w.value low in
    let x = c.cut-first.result.0 in
    Repacks-some element_bits-append words_of_bits both refl x (waiting_bits c.cut-first.result.1)
    (λ more last.
    cut-waiting 64 after more (lit< tt) (omega (arith, long)) (λ few. absurd (omega (arith, long, few, some)))
    ∙ ap (λ m. m ∷ words_of_bits (drop 64 after ++ more)) (sym c.cut-first.ensures.first)
    ∙ ap (λ l. x ∷ words_of_bits (l ++ more)) (sym c.cut-first.ensures.rest))
