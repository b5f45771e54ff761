use Rattle.std.proofs.Common.{◌≡◌, ◌∙◌, ◌++◌, ◌∷◌, ◌%◌, ◌/◌, ◌-◌, [], sym, ap, append_assoc}
use Rattle.secret_bytes.specs.Packings.{lowest_bytes}
use Rattle.secret_bytes.proofs.UnpackedBytes.{lowest-step, without-step}
use Rattle.secret_bytes.proofs.elements.push_lowest.Goals as goal

pub loop-missing-preserved : goal.loop-missing-preserved
loop-missing-preserved c =
    let left = c.loop-missing.left in
    let missing = c.loop-missing.missing in
    let out = c.loop-missing.out.items in
    let pushed : c.push.new.self.items ≡ out ++ (left % 256 ∷ []) = c.in_ok-push.ensures.items in
    record {
      bytes = ap (λ x. x ++ lowest_bytes (missing - 1) (left / 256)) pushed ∙ append_assoc out (left % 256 ∷ []) (lowest_bytes (missing - 1) (left / 256))
          ∙ ap (λ x. out ++ x) (sym (lowest-step missing left c.loop-missing-test.true)) ∙ c.loop-missing.invariant.bytes;
      whole = sym (without-step missing left c.loop-missing-test.true) ∙ c.loop-missing.invariant.whole;
    }
