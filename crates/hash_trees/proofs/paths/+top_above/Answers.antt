use Rattle.std.proofs.Common.{◌≡◌, Some, length, arith, sym, ap, ◌∙◌}
use Rattle.std.proofs.lemmas.Bool.{eqb-false, eqb-true}
use Rattle.std.proofs.lemmas.List.{take_rest}
use Rattle.sha2.specs.Sha512.{sha512_256}
use Rattle.hash_trees.proofs.Steps.{empty_from, leads_alone, leads_one, leads_short, leads_step}
use Rattle.hash_trees.proofs.paths.+top_above.Goals as goal

pub returns-then-is_empty : goal.returns-then-is_empty
returns-then-is_empty t c top =
    let end = leads_one sha512_256 c.args.n c.args.i c.args.digest c.args.others.now top c.requires (omega arith) in
    let none = empty_from c.args.others.now (eqb-true (length c.args.others.now) 0 (sym c.is_empty.ensures ∙ c.if-is_empty.true)) in
    (λ r. ap Some (end.0 r).1, λ (r : Some c.args.digest ≡ Some top). let same : c.args.digest ≡ top = cc in end.1 (none, same))

pub returns-else-is_empty : goal.returns-else-is_empty
returns-else-is_empty t c top =
    let end = leads_one sha512_256 c.args.n c.args.i c.args.digest c.args.others.now top c.requires (omega arith) in
    let some = eqb-false (length c.args.others.now) 0 (sym c.is_empty.ensures ∙ c.if-is_empty.false) in
    (λ r. absurd (some (ap length (end.0 r).0)), λ r. cc)

pub returns-then-is_alone : goal.returns-then-is_alone
returns-then-is_alone t c top =
    let up = leads_alone sha512_256 c.args.n c.args.i c.args.digest c.args.others.now top (omega (arith, c.requires)) c.requires (sym c.is_alone.ensures ∙ c.if-is_alone.true) in
    let higher = rw c.half.ensures at c.top_above.ensures top in
    (λ r. higher.0 (up.0 r), λ r. up.1 (higher.1 r))

pub returns-in_default : goal.returns-in_default
returns-in_default t c top =
    let short = leads_short sha512_256 c.args.n c.args.i c.args.digest c.args.others.now top (omega (arith, c.requires)) (sym c.is_alone.ensures ∙ c.if-is_alone.false) c.in_default.len_below in
    (λ r. absurd (short r), λ r. cc)

pub returns : goal.returns
returns t c top =
    let up = leads_step sha512_256 c.args.n c.args.i c.args.digest c.args.others.now top (omega (arith, c.requires)) c.requires (sym c.is_alone.ensures ∙ c.if-is_alone.false) c.in-len1-up.len_at_least in
    let higher = rw (c.half-2.ensures, c.step_digest.ensures, take_rest c.args.others.now 1) at c.top_above-2.ensures top in
    (λ r. higher.0 (up.0 r), λ r. up.1 (higher.1 r))
