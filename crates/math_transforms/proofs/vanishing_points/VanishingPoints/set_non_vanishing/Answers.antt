use Rattle.std.proofs.Common.{rules, ◌≡◌, ◌*◌, ◌<◌, ◌/◌, ◌%◌, ◌^◌, true, length, set, sym, ap, subst, ◌∙◌, arith, get_or}
use Rattle.std.specs.Int.RustNames.{bit_or}
use Rattle.std.proofs.lemmas.List.{get_or_read_under}
use Rattle.math_transforms.specs.Bitmaps.{truth_values, IsBitmap}
use Rattle.math_transforms.proofs.BitmapPoints.{IsBitmap-set, truth_values-set, word_within}
use Rattle.math_transforms.proofs.vanishing_points.VanishingPoints.set_non_vanishing.Goals as goal

pub index_mut-requires : goal.index_mut-requires
index_mut-requires c = grind (arith, word_within)

pub invariant_of-self : goal.invariant_of-self
invariant_of-self c =
    let lg = c.self.inside.lg_size in
    let words = c.self.inside.words.items in
    let within : c.args.index < length (truth_values lg words) = subst (λ l. c.args.index < length l) (sym c.self.view_is) c.requires in
    let there : c.args.index / 64 < length words = word_within lg words c.self.invariant c.args.index within in
    let word : c.index_mut.result.now ≡ get_or words (c.args.index / 64) 0
    = get_or_read_under words (c.args.index / 64) (length words) c.index_mut.result.now 0 c.index_mut.ensures.value there (search rules) in
    subst (λ w. IsBitmap lg (set words (c.args.index / 64) (bit_or w (1 * 2 ^ (c.args.index % 64) % 2 ^ 64)))) (sym word) (IsBitmap-set lg words c.self.invariant c.args.index within)

pub returns : goal.returns
returns c =
    let lg = c.self.inside.lg_size in
    let words = c.self.inside.words.items in
    let within : c.args.index < length (truth_values lg words) = subst (λ l. c.args.index < length l) (sym c.self.view_is) c.requires in
    let there : c.args.index / 64 < length words = word_within lg words c.self.invariant c.args.index within in
    let word : c.index_mut.result.now ≡ get_or words (c.args.index / 64) 0
    = get_or_read_under words (c.args.index / 64) (length words) c.index_mut.result.now 0 c.index_mut.ensures.value there (search rules) in
    ap (λ w. truth_values lg (set words (c.args.index / 64) (bit_or w (1 * 2 ^ (c.args.index % 64) % 2 ^ 64)))) word
    ∙ truth_values-set lg words c.self.invariant c.args.index within
    ∙ ap (λ l. set l c.args.index true) c.self.view_is
