use Rattle.std.proofs.Common.{◌++◌, [], ap, ◌∙◌, sym, append-nil, rules}
use Rattle.math_numbers.specs.Bits.{bits}
use Rattle.math_numbers.proofs.BitLists.{bits-mod}
use Rattle.math_fields.specs.Elements.{number}
use Rattle.math_fields.proofs.Packing.{waiting_bits-none}
use Rattle.math_fields.proofs.Repacking.{Refills-call}
use Rattle.math_fields.proofs.goldilocks.packing.ElementsToWords.refill.Goals as goal

pub returns-in-Some-clause-refills : goal.returns-in-Some-clause-refills
returns-in-Some-clause-refills g c =
    let n = number c.in-Some.element in
    Refills-call c.args.self.now.source c.next.new.self c.in-Some.element c.in-Some.ensures.steps
    (ap (bits 63) c.low_bits.ensures ∙ bits-mod 63 n ∙ sym (append-nil (bits 63 n)) ∙ ap (λ l. l ++ (bits 63 n ++ [])) (sym (waiting_bits-none c.args.self.now.waiting (search rules))))
