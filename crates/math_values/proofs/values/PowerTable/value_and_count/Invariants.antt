use Rattle.std.proofs.Common.{◌≡◌, ◌≤◌, ◌-◌, eqb, not, IsTrue, length, map, take}
use Rattle.math_fields.specs.Elements.{residue, goldilocks}
use Rattle.math_base.specs.Polynomials.{value_in_ring}
use Rattle.math_values.proofs.BlockValues.{power_of, AreCounted}
use Rattle.math_values.proofs.values.PowerTable.value_and_count.Given as goal

-- the value of the words before the next block, the power at which it begins, and how many are P or more
abbrev pub invariant-loop-from : goal.invariant-loop-from
invariant-loop-from g l =
    record {
      within : l.from ≤ length l.words;
      value : l.sum ≡ value_in_ring goldilocks (take l.from (map (λ w. residue (g.W.Word.word w)) l.words)) l.self.point;
      factor : l.factor ≡ power_of l.self.point l.from;
      few : l.above ≤ l.from;
      counted : IsTrue (not (eqb g.row.COUNTED 0)) → AreCounted g.W.Word.word l.words l.from l.above;
    }

abbrev pub decreases-loop-from : goal.decreases-loop-from
decreases-loop-from g l = length l.words - l.from
