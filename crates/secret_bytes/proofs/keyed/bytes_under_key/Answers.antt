use Rattle.std.proofs.Common.{◌≡◌, ◌∙◌, ◌++◌, ◌∷◌, [], List, ap, append_assoc, subst}
use Rattle.math_fields.specs.declared.goldilocks.F.{F}
use Rattle.math_fields.specs.Elements.{same}
use Rattle.secret_bytes.proofs.UnpackedBytes.{some-mapped}
use Rattle.secret_bytes.specs.KeyChecks.{check_at}
use Rattle.secret_bytes.specs.Packings.{ArePackedBytes}
use Rattle.secret_bytes.specs.Keyed.{AreKeyed}
use Rattle.secret_bytes.proofs.KeyedBytes.{keyed-parts, none-found}
use Rattle.secret_bytes.proofs.keyed.bytes_under_key.Goals as goal

pub returns-then-not-fits-clause-none : goal.returns-then-not-fits-clause-none
returns-then-not-fits-clause-none c = λ bytes k.
    let elements = c.in-Some-split_last.elements.now in
    let key = c.in-Some-split_last.key.now in
    let check = c.in-Some.check.now in
    let last : c.args.all.now ≡ c.in-Some.rest.now ++ (check ∷ []) = c.in-Some.ensures.cases.0 in
    let before : c.in-Some.rest.now ≡ elements ++ (key ∷ []) = c.in-Some-split_last.ensures.cases.0 in
    let e = keyed-parts c.args.all.now elements key check bytes (last ∙ ap (λ x. x ++ (check ∷ [])) before ∙ append_assoc elements (key ∷ []) (check ∷ [])) k in
    let fits : same check (check_at elements key) = rw (e.0, e.1, e.2) at k.fits in
    cc (c.if-not-fits.ensures.1 fits)

pub returns-clause-some : goal.returns-clause-some
returns-clause-some c =
    let elements = c.in-Some-split_last.elements.now in
    let key = c.in-Some-split_last.key.now in
    let check = c.in-Some.check.now in
    let last : c.args.all.now ≡ c.in-Some.rest.now ++ (check ∷ []) = c.in-Some.ensures.cases.0 in
    let before : c.in-Some.rest.now ≡ elements ++ (key ∷ []) = c.in-Some-split_last.ensures.cases.0 in
    some-mapped c.bytes_of.result _ _
    (λ v h. record {
      elements = elements;
      key = key;
      check = check;
      packed = h;
      fits = c.fits.ensures.0 c.if-not-fits.false;
      parts = last ∙ ap (λ x. x ++ (check ∷ [])) before ∙ append_assoc elements (key ∷ []) (check ∷ []);
    })
    c.bytes_of.ensures.some

pub returns-clause-none : goal.returns-clause-none
returns-clause-none c =
    let elements = c.in-Some-split_last.elements.now in
    let key = c.in-Some-split_last.key.now in
    let check = c.in-Some.check.now in
    let last : c.args.all.now ≡ c.in-Some.rest.now ++ (check ∷ []) = c.in-Some.ensures.cases.0 in
    let before : c.in-Some.rest.now ≡ elements ++ (key ∷ []) = c.in-Some-split_last.ensures.cases.0 in
    none-found c.bytes_of.result (λ bytes. AreKeyed bytes c.args.all.now) _
    (λ bytes k.
    let e = keyed-parts c.args.all.now elements key check bytes (last ∙ ap (λ x. x ++ (check ∷ [])) before ∙ append_assoc elements (key ∷ []) (check ∷ [])) k in
    c.bytes_of.ensures.found bytes (subst (λ (es : List F). ArePackedBytes es bytes) e.0 k.packed))
