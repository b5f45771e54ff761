-- A record as bytes: its numbers, and then elements.
use Rattle.std.proofs.Common.{◌≡◌, ℕ, List, [], ◌∷◌, ◌++◌, length, refl, sym, ◌∙◌, ap, ap₂, subst, append_assoc, append-nil}
use Rattle.std.proofs.lemmas.List.{append_cancel_left}
use Rattle.std.proofs.lemmas.List.Concat.{flat_map-append}
use Rattle.math_fields.specs.declared.goldilocks.F.{F}
use Rattle.shard_fingerprints.specs.declared.pairs.Fingerprints.{Fingerprints}
use Rattle.shard_fingerprints.specs.EqualElements.{element_equal}
use Rattle.shard_fingerprints.specs.Fingerprints.{cell_words, fingerprint}
use Rattle.shard_format.specs.declared.header.Header.{Header}
use Rattle.shard_format.specs.Records.{AreCellsThatFit, HaveFingerprints, IsRecordOf, element_spelling, elements_spelling, numbers_spelling, record_spelling}
use Rattle.shard_format.proofs.SpelledElements.{spelled_once}

module _ (h : Header) (block count : ℕ) (bytes numbers words : List ℕ) (elements : List F) (n : numbers ≡ numbers_spelling h count) (e : bytes ≡ numbers ++ words)
    (w : words ≡ elements_spelling elements) where
  -- elements that fit make a record
  pub record_made : AreCellsThatFit h block count elements → IsRecordOf h block count bytes
  record_made fits = record {
    elements = elements;
    fits = fits;
    spelled = rw (e, n, w) refl;
  }

  -- and those of a record fit
  pub elements_fit : IsRecordOf h block count bytes → AreCellsThatFit h block count elements
  elements_fit r =
      let whole : numbers_spelling h count ++ words ≡ numbers_spelling h count ++ elements_spelling r.elements = ap (λ (s : List ℕ). s ++ words) (sym n) ∙ sym e ∙ r.spelled in
      let behind : words ≡ elements_spelling r.elements = append_cancel_left (numbers_spelling h count) words (elements_spelling r.elements) whole in
      subst (AreCellsThatFit h block count) (spelled_once r.elements elements (sym behind ∙ w)) r.fits

-- numbers, the bytes of cells, and the words of their fingerprints
module _ (h : Header) (block : ℕ) (bytes numbers row : List ℕ) (cells : List F) (stored : Fingerprints) (n : numbers ≡ numbers_spelling h (length cells)) (r : row ≡ elements_spelling cells)
    (b : bytes ≡ (numbers ++ row) ++ (element_spelling stored.first ++ element_spelling stored.second)) where
  written_whole : bytes ≡ numbers_spelling h (length cells) ++ elements_spelling (cells ++ (stored.first ∷ stored.second ∷ []))
  written_whole =
      let last = element_spelling stored.second in
      let two : element_spelling stored.first ++ last ≡ elements_spelling (stored.first ∷ stored.second ∷ []) = ap (λ (s : List ℕ). element_spelling stored.first ++ s) (sym (append-nil last)) in
      b ∙ append_assoc numbers row (element_spelling stored.first ++ last)
      ∙ ap₂ (λ (s t : List ℕ). s ++ t) n (ap₂ (λ (s t : List ℕ). s ++ t) r two ∙ sym (flat_map-append element_spelling cells (stored.first ∷ stored.second ∷ [])))

  -- are the record of the cells
  pub record_exact : HaveFingerprints h block cells stored → bytes ≡ record_spelling h block cells
  record_exact fits =
      let words = cell_words block h.index cells in
      let first : stored.first ≡ fingerprint words h.keys.first = element_equal stored.first (fingerprint words h.keys.first) fits.first in
      let second : stored.second ≡ fingerprint words h.keys.second = element_equal stored.second (fingerprint words h.keys.second) fits.second in
      written_whole ∙ ap₂ (λ (x y : F). numbers_spelling h (length cells) ++ elements_spelling (cells ++ (x ∷ y ∷ []))) first second

  -- and a record
  pub record_written : HaveFingerprints h block cells stored → IsRecordOf h block (length cells) bytes
  record_written fits = record {
    elements = cells ++ (stored.first ∷ stored.second ∷ []);
    fits = record {
      cells = cells;
      stored = stored;
      counted = refl;
      fits = fits;
      listed = refl;
    };
    spelled = written_whole;
  }
