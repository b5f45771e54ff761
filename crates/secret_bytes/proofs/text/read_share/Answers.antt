use Rattle.std.proofs.Common.{◌∙◌, ap, sym, subst}
use Rattle.secret_bytes.specs.Readings.{plain}
use Rattle.secret_bytes.specs.Refusals.{IsDueRefusal}
use Rattle.secret_bytes.proofs.text.read_share.Goals as goal

pub fault_of-requires : goal.fault_of-requires
fault_of-requires c = record {
  some = c.requires.some;
  few = c.requires.few;
  letters = c.deref-in_default.ensures.value ∙ c.in_ok-letters.ensures.letters;
  due =
      subst (λ t. IsDueRefusal t c.in-Err.why) (c.deref-2.ensures.value ∙ c.in_ok-line.ensures ∙ ap plain (c.deref.ensures.value ∙ sym c.deref-in_default.ensures.value)) c.in-Err.ensures.due;
}
