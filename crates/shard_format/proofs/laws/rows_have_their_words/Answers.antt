use Rattle.std.proofs.Common.{◌≡◌, ◌<◌, ◌∙◌, ap, sym, arith}
use Rattle.std.proofs.Math.Nat.{mod-eq_of_lt}
use Rattle.math_numbers.specs.Goldilocks.{P}
use Rattle.math_fields.specs.Elements.{number, residue}
use Rattle.shard_format.specs.Rows.{RowsHaveTheirWords}
use Rattle.shard_format.proofs.laws.rows_have_their_words.Goals as goal

-- the words of a row tell what it is a row of
words : RowsHaveTheirWords
words block other index place mask another elements others a b i j m n e =
    let first : residue block ≡ residue other = cc in
    let second : residue index ≡ residue place = cc in
    let fourth : residue mask ≡ residue another = cc in
    let rest : elements ≡ others = cc in
    let one : mask < P = omega (arith, m) in
    let two : another < P = omega (arith, n) in (
      sym (mod-eq_of_lt a) ∙ ap number first ∙ mod-eq_of_lt b,
      sym (mod-eq_of_lt i) ∙ ap number second ∙ mod-eq_of_lt j,
      sym (mod-eq_of_lt one) ∙ ap number fourth ∙ mod-eq_of_lt two,
      rest,
    )

pub returns : goal.returns
returns c = words
