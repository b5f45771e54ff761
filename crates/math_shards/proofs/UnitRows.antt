-- Rows of units, and the weights that transforms make of them.
use Rattle.std.proofs.Common.{◌≡◌, ◌∙◌, inl, inr, ℕ, ◌+◌, ◌*◌, ◌<◌, List, [], length, replicate, get_or, sym, ap, arith}
use Rattle.std.proofs.Math.ListN.{set}
use Rattle.std.proofs.lemmas.Bool.{cases_lt}
use Rattle.math_fields.specs.declared.goldilocks.F.{F}
use Rattle.math_fields.specs.Elements.{number, residue, same}
use Rattle.math_fields.proofs.ElementNumbers.{same_number}
use Rattle.math_ntt.proofs.MatrixPlaces.{cells_are_written_alone}
use Rattle.math_transforms.specs.DomainValues.{matrix_of}
use Rattle.math_splitting.proofs.SameCells.{nought}
use Rattle.math_splitting.proofs.StripColumns.{zeros-behind}
use Rattle.math_shards.specs.Weights.{AreUnitRows}

-- zeros alone
pub units-none : (n k : ℕ) (z : F) (cells : List F) → same z nought → cells ≡ replicate k z → AreUnitRows n 0 cells
units-none n k z cells e made =
    let is : cells ≡ replicate k nought = made ∙ ap (λ x. replicate k x) (same_number z nought e) in
    record {
      ones = λ i l. absurd (omega (arith, l));
      zeros = λ i j a b apart. ap (λ (xs : List F). number (get_or xs (i * n + j) nought)) is ∙ ap number (zeros-behind [] k (i * n + j));
    }

-- one row more
pub units-more : (n i : ℕ) (one : F) (cells : List F) → length cells ≡ n * n → i < n → same one (residue 1) → AreUnitRows n i cells → AreUnitRows n (i + 1) (set cells (i * n + i) one)
units-more n i one cells size l e h =
    let w = cells_are_written_alone (matrix_of n n cells) i i one nought size l l in
    record {
      ones = λ t b. elim (cases_lt t i) as (λ _. same (get_or (set cells (i * n + i) one) (t * n + t) nought) (residue 1)) [
        | inl before ↦ ap number (w.1.others nought t t (omega (arith, before, l)) (omega (arith, before, l)) (λ q _. omega (arith, q, before))) ∙ h.ones t before
        | inr after ↦
            let q : t ≡ i = omega (arith, after, b) in
            ap (λ j. number (get_or (set cells (i * n + i) one) (j * n + j) nought)) q ∙ ap number w.0 ∙ e
      ];
      zeros = λ t k a b apart. ap number (w.1.others nought t k a b (λ q r. apart (q ∙ sym r))) ∙ h.zeros t k a b apart;
    }
