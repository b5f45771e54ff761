use Rattle.std.proofs.Common.{◌≤◌, ℕ, List, length, subst, take}
use Rattle.secret_bytes.specs.declared.share.SecretShare.{SecretShare}
use Rattle.secret_bytes.specs.Texts.{IsLineOf}
use Rattle.secret_bytes.proofs.text.fault_of.Goals as goal

pub returns : goal.returns
returns c =
    let letters = c.args.letters.now in
    let whole : (c.in-Some.count ≤ length letters) × ((s : SecretShare) × IsLineOf (take c.in-Some.count letters) s) = rw c.in-Some.is at c.in_ok-count.ensures in
    (c.in-Some.count, whole.1.0, subst (λ (text : List ℕ). IsLineOf (take c.in-Some.count text) whole.1.0) c.requires.letters whole.1.1, c.in_ok-number.ensures)
