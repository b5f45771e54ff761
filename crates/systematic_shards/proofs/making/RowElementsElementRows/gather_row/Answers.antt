use Rattle.std.proofs.Common.{◌∙◌, ◌+◌, ◌*◌, ℕ, List, length, get_or, sym, ap, ap₂, arith}
use Rattle.math_fields.specs.Elements.{residue}
use Rattle.math_restoring.specs.Restored.{item}
use Rattle.systematic_shards.specs.declared.rows.Row.{Row}
use Rattle.systematic_shards.specs.Masks.{masked_number}
use Rattle.systematic_shards.specs.RowElements.{element_at}
use Rattle.systematic_shards.proofs.Elements.{item-column}
use Rattle.systematic_shards.proofs.Written.{same-written}
use Rattle.systematic_shards.proofs.making.RowElementsElementRows.gather_row.Goals as goal

pub scatter-requires-clause-room : goal.scatter-requires-clause-room
scatter-requires-clause-room g c =
    let long = c.words_from-words.ensures.size in
    omega (arith, ap (λ n. c.args.step * n) long, c.requires.room)

pub returns : goal.returns
returns g c =
    let word = g.M.WordMemory.word in
    let self = c.args.self.now in
    let least = self.code.split.min in
    let mask = self.code.mask in
    let rows : List (Row g.row.M.Denot) = self.rows.now in
    let t : ℕ = c.args.t in
    let from : ℕ = c.args.from in
    let run : List ℕ = c.words_from-words.result.now in
    let long = c.words_from-words.ensures.size in
    same-written (λ k. k * c.args.step + t) (length run) c.args.cols (λ k. residue (masked_number c.row_mask-mask.result (get_or run k 0)))
    (λ k. element_at word self t (from + k)) (item c.args.columns.now) (item c.scatter.new.items) long
    (λ k b.
    ap₂ (λ x y. residue (masked_number x y)) c.row_mask-mask.ensures (c.words_from-words.ensures.words k b)
    ∙ sym (item-column word least mask rows (from + k) t c.index-self-t.result c.requires.there))
    c.scatter.ensures
