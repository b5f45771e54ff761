-- Cells and then two fingerprints in one list.
use Rattle.std.proofs.Common.{◌≡◌, ℕ, ◌<◌, ◌≤◌, List, [], ◌∷◌, ◌++◌, length, take, drop, get_or, sym, ◌∙◌, ap, ap₂, arith}
use Rattle.std.proofs.Math.Seq.{take-append_seam}
use Rattle.std.proofs.lemmas.List.{drop_at, take-append-drop}
use Rattle.std.specs.List.{IsSplitAt}
use Rattle.math_fields.specs.declared.goldilocks.F.{F}
use Rattle.shard_fingerprints.specs.declared.pairs.Fingerprints.{Fingerprints}
use Rattle.shard_format.specs.declared.header.Header.{Header}
use Rattle.shard_format.specs.Records.{AreCellsThatFit, HaveFingerprints}

abbrev pair_of : F → F → Fingerprints
pair_of a b = record { first = a; second = b }

-- a list of two elements
pub two_items : (stored : List F) (a b : F) → 2 ≤ length stored → length stored < 3 → a ≡ get_or stored 0 a → b ≡ get_or stored 1 b → stored ≡ a ∷ b ∷ []
two_items [] a b l m p q = absurd (omega (arith, l))
two_items (x ∷ []) a b l m p q = absurd (omega (arith, l))
two_items (x ∷ y ∷ []) a b l m p q = ap₂ (λ (s t : F). s ∷ t ∷ []) (sym p) (sym q)
two_items (x ∷ y ∷ z ∷ zs) a b l m p q = absurd (omega (arith, m))

module _ (h : Header) (block count : ℕ) (elements cells stored : List F) (a b : F) (parts : IsSplitAt elements count cells stored) (two : stored ≡ a ∷ b ∷ []) where
  -- where the parts fit, the whole does
  pub whole_fits : HaveFingerprints h block cells (pair_of a b) → AreCellsThatFit h block count elements
  whole_fits fits = record {
    cells = cells;
    stored = pair_of a b;
    counted = parts.3;
    fits = fits;
    listed = sym (take-append-drop count elements) ∙ ap₂ (λ (s t : List F). s ++ t) (sym parts.1) (sym parts.2 ∙ two);
  }

  -- and the parts fit where the whole does
  pub parts_fit : AreCellsThatFit h block count elements → HaveFingerprints h block cells (pair_of a b)
  parts_fit whole =
      let last : List F = whole.stored.first ∷ whole.stored.second ∷ [] in
      let front : cells ≡ whole.cells =
      parts.1 ∙ ap₂ (λ (n : ℕ) (l : List F). take n l) (sym whole.counted) whole.listed ∙ take-append_seam whole.cells last in
      let back : a ∷ b ∷ [] ≡ last = sym two ∙ parts.2 ∙ ap (drop count) whole.listed ∙ drop_at whole.cells last count whole.counted in
      let first : a ≡ whole.stored.first = ap (λ (l : List F). get_or l 0 a) back in
      let second : b ≡ whole.stored.second = ap (λ (l : List F). get_or l 1 b) back in
      rw (front, first, second) (record { first = whole.fits.first; second = whole.fits.second })
