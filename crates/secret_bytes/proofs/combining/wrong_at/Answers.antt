use Rattle.std.proofs.Common.{◌≡◌, ◌∙◌, length, sym, ap, arith}
use Rattle.std.proofs.lemmas.List.{length-map}
use Rattle.math_fields.specs.declared.goldilocks.F.{F}
use Rattle.math_fields.specs.ElementLaws.{equality}
use Rattle.math_fields.specs.Elements.{residue, goldilocks}
use Rattle.math_base.specs.Polynomials.{value_in_ring}
use Rattle.math_decoding.specs.Decodings.{IsDecoded}
use Rattle.shared_secret.specs.Shares.{point, points, values}
use Rattle.shared_secret.specs.declared.shares.Share.{Share}
use Rattle.secret_bytes.specs.Columns.{column, share_of}
use Rattle.secret_bytes.proofs.combining.wrong_at.Goals as goal

pub decode-requires-clause-lengths : goal.decode-requires-clause-lengths
decode-requires-clause-lengths c =
    let shares = column c.args.j c.args.shares.now in
    ap length (c.deref.ensures.value ∙ c.in_ok-ys.ensures) ∙ length-map shares (λ (v : Share F). v.value)
    ∙ sym (length-map shares (λ (v : Share F). point goldilocks v.index)) ∙ sym (ap length c.requires.points)

pub decode-requires-clause-count : goal.decode-requires-clause-count
decode-requires-clause-count c =
    let shares = c.args.shares.now in
    let count : length c.args.xs.now ≡ length shares =
    ap length c.requires.points ∙ length-map (column c.args.j shares) (λ (v : Share F). point goldilocks v.index) ∙ length-map shares (share_of c.args.j) in
    omega (arith, c.requires.enough, count)

pub returns-in-Some : goal.returns-in-Some
returns-in-Some c =
    let j = c.args.j in
    let shares = c.args.shares.now in
    let p = c.in-Some.found.coefficients.items in
    let wrong = c.in-Some.found.wrong.items in
    let a : F = value_in_ring goldilocks p (residue 0) in
    let decoded : IsDecoded goldilocks (points goldilocks (column j shares)) (values (column j shares)) c.args.t p wrong =
    rw (c.in-Some.is, c.deref.ensures.value, c.in_ok-ys.ensures, c.requires.points) at c.in_ok-found.ensures.found in
    (a, record { polynomial = p; decoded = decoded; constant = equality.reflexive a })

pub returns : goal.returns
returns c = rw (c.in-None.is, c.deref.ensures.value, c.in_ok-ys.ensures, c.requires.points) at c.in_ok-found.ensures.none
