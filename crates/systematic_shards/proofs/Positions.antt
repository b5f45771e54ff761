-- The positions of items of which something does not hold, and rows that are written one after the other.
use Rattle.std.proofs.Common.{◌≡◌, ◌∙◌, inl, inr, ℕ, ◌+◌, ◌*◌, ◌<◌, List, length, get_or, sym, subst, arith}
use Rattle.std.proofs.lemmas.Bool.{cases_lt}
use Rattle.std.proofs.lemmas.List.{get_or_default}
use Rattle.std.proofs.lemmas.Nat.{same_from_place}
use Rattle.math_fields.specs.declared.goldilocks.F.{F}
use Rattle.math_decoding.proofs.WrongPlaces.{AreGathered}
use Rattle.systematic_shards.specs.declared.split.Split.{Split}
use Rattle.systematic_shards.specs.Correcting.{ArePositionsWithout}
use Rattle.systematic_shards.specs.Shards.{IsRowOf, word_in}
use Rattle.row_interpolation.specs.Written.{AreWritten}

-- P holds of the item at position i
abbrev pub HoldsAtPosition : {X : Type 0} → (X → Type 0) → List X → ℕ → Type 0
HoldsAtPosition {X} P xs i = (x : X) → get_or xs i x ≡ x → P x

module _ {X : Type 0} (P : X → Type 0) (xs : List X) where
  -- it is enough that it holds of the item there by one name
  pub holds-at : (i : ℕ) (x : X) → i < length xs → x ≡ get_or xs i x → P x → HoldsAtPosition P xs i
  holds-at i x l is p y at = subst P (is ∙ get_or_default xs i x y l ∙ at) p

  -- all positions at which it does not hold
  pub positions-gathered : (n : ℕ) (positions : List ℕ) → n ≡ length xs → AreGathered (HoldsAtPosition P xs) n positions → ArePositionsWithout P xs positions
  positions-gathered n positions all h = record {
    rising = h.rising;
    below = λ k d l. omega (arith, all, h.below k d l);
    differ = λ k d l x is p. h.differ k d l (holds-at (get_or positions k d) x (omega (arith, all, h.below k d l)) (sym is) p);
    agree = λ i x l is n. h.agree i (omega (arith, all, l)) n x is;
  }

-- the words are those of the rows of the first n of these indices of a, row after row
abbrev pub AreRowsBefore : Split → ℕ → (ℕ → ℕ → F) → List ℕ → ℕ → (ℕ → ℕ) → Type 0
AreRowsBefore split mask a indices n word = (t : ℕ) → t < n → IsRowOf split mask a (get_or indices t 0) (λ k. word (t * split.width + k))

-- one row more
pub rows-more : (split : Split) (mask : ℕ) (a : ℕ → ℕ → F) (indices : List ℕ) (n : ℕ) (now new : ℕ → ℕ)
    → AreWritten (λ k. n * split.width + k) (λ k. word_in split.min mask (get_or indices n 0) (a (get_or indices n 0) k)) split.width now new
    → AreRowsBefore split mask a indices n now → AreRowsBefore split mask a indices (n + 1) new
rows-more split mask a indices n now new filled h t l k m =
    elim (cases_lt t n) as (λ _. new (t * split.width + k) ≡ word_in split.min mask (get_or indices t 0) (a (get_or indices t 0) k)) [
      | inl before ↦
          filled.others (t * split.width + k) (λ i b e. omega (arith, before, (same_from_place t k n i split.width m b e).0)) ∙ h t before k m
      | inr after ↦
          let is : n ≡ t = omega (arith, after, l) in
          subst (λ i. new (i * split.width + k) ≡ word_in split.min mask (get_or indices i 0) (a (get_or indices i 0) k)) is (filled.written k m)
    ]
