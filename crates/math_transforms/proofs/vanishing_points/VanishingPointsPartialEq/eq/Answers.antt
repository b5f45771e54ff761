use Rattle.std.proofs.Common.{◌≡◌, ◌==◌, sym, ap₂, ◌∙◌}
use Rattle.std.specs.Cmp.{booleans_Decides}
use Rattle.std.specs.Cmp.Lexicographic.{pointwise}
use Rattle.std.proofs.lemmas.Bool.{ne_eqb}
use Rattle.std.proofs.lemmas.Slice.Eq.{slice_eq-Decides}
use mathlib.Core.Bool.{beq}
use Rattle.math_transforms.proofs.BitmapPoints.{equal_words, unequal_sizes}
use Rattle.math_transforms.proofs.vanishing_points.VanishingPointsPartialEq.eq.Goals as goal

pub returns-then-self-other : goal.returns-then-self-other
returns-then-self-other c =
    let value : c.eq.result ≡ pointwise beq c.args.self.now c.args.other.now =
    equal_words c.self.inside.lg_size c.other.inside.lg_size c.self.inside.words.items c.other.inside.words.items c.self.invariant c.other.invariant c.eq.result c.if-self-other.true c.eq.ensures
    ∙ ap₂ (pointwise beq) c.self.view_is c.other.view_is in
    let decided = slice_eq-Decides booleans_Decides c.args.self.now c.args.other.now c.eq.result value in
    record { value = value; exact = (decided.0, decided.1) }

pub returns-else-self-other : goal.returns-else-self-other
returns-else-self-other c =
    let value : (c.self.inside.lg_size == c.other.inside.lg_size) ≡ pointwise beq c.args.self.now c.args.other.now =
    ne_eqb c.self.inside.lg_size c.other.inside.lg_size c.if-self-other.false
    ∙ sym (unequal_sizes c.self.inside.lg_size c.other.inside.lg_size c.self.inside.words.items c.other.inside.words.items c.self.invariant c.other.invariant c.if-self-other.false)
    ∙ ap₂ (pointwise beq) c.self.view_is c.other.view_is in
    let decided = slice_eq-Decides booleans_Decides c.args.self.now c.args.other.now (c.self.inside.lg_size == c.other.inside.lg_size) value in
    record { value = value; exact = (decided.0, decided.1) }
