use Rattle.std.proofs.Common.{◌∙◌, ◌++◌, [], ◌∷◌, ℕ, List, map, take, get_or, sym, ap, ap₂}
use Rattle.std.proofs.lemmas.List.{map-append, take_more}
use Rattle.math_theory.specs.Powers.{power}
use Rattle.math_fields.specs.declared.goldilocks.F.{F}
use Rattle.math_fields.specs.Elements.{product, residue, root_of}
use Rattle.row_interpolation.proofs.points.points_of.Goals as goal

pub loop-index-preserved : goal.loop-index-preserved
loop-index-preserved c =
    let indices : List ℕ = c.args.indices.now in
    let k : ℕ = c.loop-index.index-index in
    let i : ℕ = get_or indices k 0 in
    let at : ℕ → F = λ e. power (residue 1) product (root_of c.args.lg) e in
    c.in_ok-push.ensures.items
    ∙ ap₂ (λ (xs : List F) (x : F). xs ++ (x ∷ [])) c.loop-index.invariant c.point_of.ensures
    ∙ sym (map-append at (take k indices) (i ∷ []))
    ∙ ap (map at) (sym (take_more indices k 0 c.loop-index-test.true))
