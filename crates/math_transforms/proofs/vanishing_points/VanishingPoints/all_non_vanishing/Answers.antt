use Rattle.std.proofs.Common.{◌≡◌, ◌-◌, ◌^◌, replicate, ap, ap₂, ◌∙◌, arith}
use Rattle.math_transforms.specs.Bitmaps.{points_a_word, truth_values, word_count}
use Rattle.math_transforms.proofs.BitmapPoints.{truth_values-ones}
use Rattle.math_transforms.proofs.vanishing_points.VanishingPoints.all_non_vanishing.Goals as goal

pub returns : goal.returns
returns c =
    let word : c.full_word.result ≡ 2 ^ points_a_word c.args.lg_size - 1 = omega (arith, c.full_word.ensures) in
    let words : c.in_ok-words.words.items ≡ replicate (word_count c.args.lg_size) (2 ^ points_a_word c.args.lg_size - 1) =
    c.in_ok-words.ensures.items_if_clones_equal (λ y e. e) ∙ ap₂ replicate c.words_for.ensures word in
    ap (truth_values c.args.lg_size) words ∙ truth_values-ones c.args.lg_size
