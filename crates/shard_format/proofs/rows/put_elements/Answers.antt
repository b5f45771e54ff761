use Rattle.std.proofs.Common.{◌∙◌, ◌<◌, ℕ, drop, length, map, ap₂, sym, subst}
use Rattle.std.specs.List.{range_with_len}
use Rattle.std.proofs.lemmas.List.{take_at}
use Rattle.math_fields.specs.Elements.{residue}
use Rattle.systematic_shards.specs.Masks.{masked_number}
use Rattle.systematic_shards.specs.Shards.{mask_of_row}
use Rattle.systematic_shards.specs.Words.{word_of_bytes}
use Rattle.shard_format.proofs.RowElements.{below-of-element, element-of-below}
use Rattle.shard_format.proofs.rows.put_elements.Goals as goal

pub returns-clause-words : goal.returns-clause-words
returns-clause-words c =
    let row = c.args.row.bytes.now in
    let made = c.write_elements.new.elements in
    let whole = take_at made (drop (length made) c.resize.new.self.items) c.resize.new.self.len (c.write_elements.auto.elements ∙ c.deref_mut.ensures.len) in
    whole ∙ c.write_elements.ensures.words
    ∙ ap₂ (λ (m n : ℕ). map (λ k. residue (masked_number m (word_of_bytes row k))) (range_with_len 0 n)) c.mask_of_row-mask.ensures (c.deref_mut.ensures.len ∙ c.in_ok-resize.ensures.len)

pub returns-clause-fit : goal.returns-clause-fit
returns-clause-fit c =
    let h = c.args.header.now in
    let mask = c.args.row.mask in
    let row = c.args.row.bytes.now in
    let count = c.deref_mut.ensures.len ∙ c.in_ok-resize.ensures.len in (
      λ yes. record {
        size = c.args.row.size;
        short = c.args.row.short;
        elements = λ k l.
            let inside = subst (λ n. k < n) (sym count) l in
            element-of-below h.min mask h.index (word_of_bytes row k) (c.write_elements.ensures.fit k inside) c.args.row.short
            (subst (λ b. masked_number (mask_of_row h.min mask h.index) (word_of_bytes row k) < b) c.bound_of_row.ensures
            (subst (λ m. masked_number m (word_of_bytes row k) < c.bound_of_row.result) c.mask_of_row-mask.ensures (c.write_elements.ensures.below.0 yes k inside)));
      },
      λ are. c.write_elements.ensures.below.1 (λ k l.
          let inside = subst (λ n. k < n) count l in
          subst (λ m. masked_number m (word_of_bytes row k) < c.bound_of_row.result) (sym c.mask_of_row-mask.ensures)
          (subst (λ b. masked_number (mask_of_row h.min mask h.index) (word_of_bytes row k) < b) (sym c.bound_of_row.ensures)
          (below-of-element h.min mask h.index (word_of_bytes row k) (are.elements k inside).0 c.args.row.short (are.elements k inside)))),
    )
