use Rattle.std.proofs.Common.{◌≡◌, ◌∙◌, ◌++◌, ◌∷◌, [], ap, append_assoc, refl, subst, arith}
use Rattle.math_fields.specs.Elements.{same}
use Rattle.secret_bytes.specs.KeyChecks.{check_at}
use Rattle.math_numbers.proofs.ByteLists.{all_bytes}
use Rattle.secret_bytes.proofs.keyed.elements_under_key.Goals as goal

pub returns : goal.returns
returns c =
    let elements = c.in_ok-all.all.items in
    let key = c.args.key in
    let check = c.key_check-check.result in
    let first : c.push.new.self.items ≡ elements ++ (key ∷ []) = c.in_ok-push.ensures.items in
    let second : c.push-2.new.self.items ≡ c.push.new.self.items ++ (check ∷ []) = c.in_ok-push-2.ensures.items in (
      record {
        elements = elements;
        key = key;
        check = check;
        packed = (record { each_byte = all_bytes c.args.bytes.now (λ k. omega (arith, c.type_inv.bytes k)); few = omega (arith, c.requires) }, c.in_ok-all.ensures);
        fits = subst (λ es. same check (check_at es key)) c.deref.ensures.value c.key_check-check.ensures;
        parts = second ∙ ap (λ x. x ++ (check ∷ [])) first ∙ append_assoc elements (key ∷ []) (check ∷ []);
      },
      refl,
    )
