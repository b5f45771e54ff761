use Rattle.std.proofs.Common.{◌∙◌, ◌^◌, ap, sym, subst}
use Rattle.math_transforms.proofs.PresentIndices.{domain-of}
use Rattle.systematic_shards.specs.Correcting.{HoldsNear}
use Rattle.systematic_shards.proofs.Corrected.{domain-small, found-near, within-radius}
use Rattle.systematic_shards.proofs.Settled.{settled-few}
use Rattle.systematic_shards.proofs.correcting.corrected_cells.Goals as goal

pub correct-requires-clause-domain : goal.correct-requires-clause-domain
correct-requires-clause-domain g c =
    let code = c.args.code in
    let r = c.in_ok-values.ensures.ok in
    domain-of 32 _ r.lg r.size.0 (domain-small g.M.WordMemory.word code.split code.mask code.short c.args.rows.now (λ k d l. (c.requires k d l).1) c.in_ok-values.values r)

pub correct-requires-clause-count : goal.correct-requires-clause-count
correct-requires-clause-count g c =
    let code = c.args.code in
    let r = c.in_ok-values.ensures.ok in
    settled-few g.M.WordMemory.word code.split code.mask c.args.rows.now code.split.min (2 ^ r.lg) _ r.marked c.in_ok-values.ensures.enough

pub evaluate-requires : goal.evaluate-requires
evaluate-requires g c =
    let code = c.args.code in
    let r = c.in_ok-values.ensures.ok in
    let h = (rw c.in-Some.is at c.in_ok-corrected.ensures.found) r.lg r.size.0 in
    record { domain = domain-of 32 _ r.lg (h.size.0 ∙ r.size.0) (domain-small g.M.WordMemory.word code.split code.mask code.short c.args.rows.now (λ k d l. (c.requires k d l).1) c.in_ok-values.values r) }

pub returns-in_default-clause-none : goal.returns-in_default-clause-none
returns-in_default-clause-none g c = λ a of_code near.
    let code = c.args.code in
    let r = c.in_ok-values.ensures.ok in
    let (p, within) = within-radius g.M.WordMemory.word code.split code.mask code.short c.args.rows.now (λ k d l. (c.requires k d l).1) c.in_ok-values.values r a of_code near in
    (rw c.in_default.is at c.in_ok-corrected.ensures.none) r.lg r.size.0 p within

pub returns-clause-some : goal.returns-clause-some
returns-clause-some g c =
    let word = g.M.WordMemory.word in
    let code = c.args.code in
    let rows = c.args.rows.now in
    let r = c.in_ok-values.ensures.ok in
    let q = c.in-Some.corrected.polynomials in
    let wrong = c.in-Some.corrected.wrong.items in
    let h = (rw c.in-Some.is at c.in_ok-corrected.ensures.found) r.lg r.size.0 in
    subst (HoldsNear word code.split code.mask rows) (sym (c.into_cells.ensures ∙ ap (λ m. m.cells) c.data.ensures))
    (found-near word code.split code.mask code.short rows (λ k d l. (c.requires k d l).1) c.in_ok-values.values r q c.in_ok-found.found.matrix wrong h c.in_ok-found.ensures.size c.in_ok-found.ensures.values)
