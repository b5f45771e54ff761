use Rattle.std.proofs.Common.{◌≡◌, ◌∙◌, ◌%◌, [], ◌∷◌, ap, map, refl, take}
use Rattle.math_numbers.specs.Goldilocks.{P}
use Rattle.math_fields.specs.declared.goldilocks.F.{F}
use Rattle.math_fields.specs.Elements.{residue}
use Rattle.shard_fingerprints.specs.EqualElements.{element_equal}
use Rattle.shard_format.specs.declared.formats.Format.{Format}
use Rattle.shard_format.specs.declared.formats.Format.TheVariants as formats
use Rattle.shard_format.specs.Formats.{paths_word, paths_words, version_of, word_count}
use Rattle.shard_format.specs.Headers.{mark}
use Rattle.shard_format.proofs.header.all_words.Goals as goal

-- of ten words, of which the last says whether records have paths, a format has as many as it counts
some_words : (f : Format) (a b c d e g i j k : F)
    → take (word_count (version_of f)) (a ∷ b ∷ c ∷ d ∷ e ∷ g ∷ i ∷ j ∷ k ∷ residue (paths_word f) ∷ [])
    ≡ a ∷ b ∷ c ∷ d ∷ e ∷ g ∷ i ∷ j ∷ k ∷ map residue (paths_words f)
some_words formats.Cells a b c d e g i j k = refl
some_words formats.Rows a b c d e g i j k = refl
some_words formats.RowsWithPaths a b c d e g i j k = refl

pub returns : goal.returns
returns c =
    let h = c.args.header.now in
    let a = element_equal c.from.result (residue mark) c.from.ensures in
    let b = element_equal c.from-2.result (residue (version_of h.format)) (c.from-2.ensures ∙ ap (λ n. n % P) c.version.ensures) in
    let d = element_equal c.from-3.result (residue h.index) c.from-3.ensures in
    let e = element_equal c.from-4.result (residue h.min) c.from-4.ensures in
    let f = element_equal c.from-5.result (residue h.total) c.from-5.ensures in
    let g = element_equal c.from-6.result (residue h.block) c.from-6.ensures in
    let i = element_equal c.from-7.result (residue h.length) c.from-7.ensures in
    let j = element_equal c.from-8.result (residue (paths_word h.format)) (c.from-8.ensures ∙ ap (λ n. n % P) c.paths_word.ensures) in
    rw (a, b, d, e, f, g, i, j)
    (some_words h.format (residue mark) (residue (version_of h.format)) (residue h.index) (residue h.min) (residue h.total) (residue h.block) (residue h.length) h.keys.first h.keys.second)
