-- The fingerprint of a list of words under a key, and how many keys do not tell two lists apart.
use Rattle.std.specs.Prelude.{◌≡◌, ◌<◌, ◌≤◌, ◌-◌, ◌++◌, ℕ, List, ◌∷◌, length, slice_index_or, All}
use Rattle.math_theory.specs.Interpolation.{AreApart}
use Rattle.math_theory.specs.Values.{value}
use Rattle.math_fields.specs.declared.goldilocks.F.{F}
use Rattle.math_fields.specs.Elements.{residue, same, sum, product}
use Rattle.math_base.specs.Members.{RingOf}
use Rattle.math_base.specs.Polynomials.{value_in_ring}
use Rattle.shard_fingerprints.specs.declared.pairs.Fingerprints.{Fingerprints}

-- the value at the key of the polynomial whose coefficients the words are: the sum of word i times the key to the power i
abbrev pub fingerprint : List F → F → F
fingerprint words key = value (residue 0) sum product (residue 1) key words

-- the words of a shard of a block: the block's number, the index, the number of cells, and the cells
abbrev pub cell_words : ℕ → ℕ → List F → List F
cell_words block index cells = residue block ∷ residue index ∷ residue (length cells) ∷ cells

-- both fingerprints are the same
pub record AreSameFingerprints (a b : Fingerprints) : Type 0 where
  pub first : same a.first b.first
  pub second : same a.second b.second

-- two lists of n words that differ at a place have one fingerprint under at most n - 1 keys of which no two are same
abbrev pub FewKeysAgree : {A : Type 0} → RingOf A → Type 0
FewKeysAgree {A} R = (p q keys : List A) (k : ℕ) → length p ≡ length q → k < length p → ¬ (R.same (slice_index_or p k R.zero) (slice_index_or q k R.zero))
    → AreApart R.same keys → All (λ key. R.same (value_in_ring R p key) (value_in_ring R q key)) keys → length keys ≤ length p - 1

-- two lists that differ in one word alone have different fingerprints under every key but zero
abbrev pub OneChangeIsSeen : {A : Type 0} → RingOf A → Type 0
OneChangeIsSeen {A} R = (before after : List A) (x y key : A) → ¬ (R.same key R.zero)
    → R.same (value_in_ring R (before ++ x ∷ after) key) (value_in_ring R (before ++ y ∷ after) key) → R.same x y
