use Rattle.std.proofs.Common.{◌≡◌, ℕ, ◌-◌, ◌<◌, ◌≤◌, length, get_or}
use Rattle.math_fields.specs.declared.goldilocks.F.{F}
use Rattle.systematic_shards.specs.declared.rows.Row.{Row}
use Rattle.systematic_shards.specs.Shards.{word_in}
use Rattle.systematic_shards.specs.Strips.{IsCodewordFor}
use Rattle.systematic_shards.proofs.filling.are_targets.Given as goal

-- the columns so far are those of each codeword to which the rows in hand belong
abbrev pub invariant-loop-from : goal.invariant-loop-from
invariant-loop-from g l =
    let word = g.M.WordMemory.word in
    let code = l.maker.code in
    record {
      within : l.from ≤ code.split.width;
      words : (a : ℕ → ℕ → F) → IsCodewordFor word l.maker a → (k j : ℕ) (d : Row g.row.M.Denot) → k < l.from → j < length l.further
          → word (get_or l.further j d).cells.now k ≡ word_in code.split.min code.mask (get_or l.further j d).index (a (get_or l.further j d).index k);
    }

abbrev pub decreases-loop-from : goal.decreases-loop-from
decreases-loop-from g l = l.maker.code.split.width - l.from
