use Rattle.std.proofs.Common.{◌≡◌, ◌∙◌, ◌+◌, ◌*◌, ℕ, List, length, sym, ap, ap₂, arith}
use Rattle.math_fields.specs.Elements.{residue}
use Rattle.math_restoring.specs.Restored.{item}
use Rattle.systematic_shards.specs.declared.rows.Row.{Row}
use Rattle.systematic_shards.specs.Masks.{masked_number}
use Rattle.systematic_shards.proofs.Elements.{item-column}
use Rattle.systematic_shards.proofs.making.RowElementsElementRows.read_row.Goals as goal

pub scatter-requires-clause-room : goal.scatter-requires-clause-room
scatter-requires-clause-room g c = omega (arith, c.words_from-words.ensures.size)

pub returns : goal.returns
returns g c = λ k b.
    let word = g.M.WordMemory.word in
    let self = c.args.self.now in
    let least = self.code.split.min in
    let mask = self.code.mask in
    let rows : List (Row g.row.M.Denot) = self.rows.now in
    let t : ℕ = c.args.t in
    let from : ℕ = c.args.from in
    let n : ℕ = length c.args.out.now in
    let run : List ℕ = c.words_from-words.result.now in
    let long = c.words_from-words.ensures.size in
    ap (item c.scatter.new.items) (let e : k ≡ k * 1 + 0 = omega arith in e)
    ∙ c.scatter.ensures.written k (omega (arith, b, long))
    ∙ ap₂ (λ x y. residue (masked_number x y)) c.row_mask-mask.ensures (c.words_from-words.ensures.words k b)
    ∙ sym (item-column word least mask rows (from + k) t c.index-self-t.result c.requires.there)
