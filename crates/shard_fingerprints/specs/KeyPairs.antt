-- How many pairs of keys do not tell two lists of words apart.
use Rattle.std.specs.Prelude.{◌≡◌, ◌≢◌, ◌<◌, ◌≤◌, ◌-◌, ◌*◌, ◌^◌, ℕ, Bool, ◌==◌, ◌&&◌, List, length, take, map, flat_map, count_by}
use Rattle.math_numbers.specs.Goldilocks.{P}
use Rattle.math_theory.specs.Interpolation.{AreApart}
use Rattle.math_fields.specs.declared.goldilocks.F.{F}
use Rattle.math_fields.specs.Elements.{number, residue, same, sum}
use Rattle.shard_fingerprints.specs.Fingerprints.{cell_words, fingerprint}

-- both lists of words have one fingerprint under the key
abbrev pub agree : List F → List F → F → Bool
agree p q key = number (fingerprint p key) == number (fingerprint q key)

-- each of the first keys with each of the second keys
abbrev pub pairs_of : List F → List F → List (F × F)
pairs_of firsts seconds = flat_map (λ a. map (λ b. (a, b)) seconds) firsts

-- under how many of these pairs of keys both lists of words have the same two fingerprints
abbrev pub agreeing_pairs : List F → List F → List F → List F → ℕ
agreeing_pairs p q firsts seconds = count_by (λ keys. agree p q keys.0 && agree p q keys.1) (pairs_of firsts seconds)

-- two different lists of n words have the same two fingerprints under at most (n - 1)^2 pairs of distinct first and distinct second keys
abbrev pub FewPairsAgree : Type 0
FewPairsAgree = (p q firsts seconds : List F) → length p ≡ length q → p ≢ q → AreApart same firsts → AreApart same seconds
    → agreeing_pairs p q firsts seconds ≤ (length p - 1) * (length p - 1)

-- where P - 1 distinct first and P - 1 distinct second keys are there, as many as are not zero, two different lists of n words, at most 2^18, have the same two fingerprints under at most one of 2^90 of all pairs
abbrev pub DamageIsMissedRarely : Type 0
DamageIsMissedRarely = (p q firsts seconds : List F) → length p ≡ length q → length p ≤ 2 ^ 18 → p ≢ q → AreApart same firsts → AreApart same seconds
    → length firsts ≡ P - 1 → length seconds ≡ P - 1 → 2 ^ 90 * agreeing_pairs p q firsts seconds ≤ length (pairs_of firsts seconds)

-- the fingerprint of p under the key with d added to it is the fingerprint of q
abbrev pub agree_with : F → List F → List F → F → Bool
agree_with d p q key = number (sum (fingerprint p key) d) == number (fingerprint q key)

-- under how many of these pairs of keys the fingerprints of p with d and e added to them are the fingerprints of q
abbrev pub agreeing_pairs_with : F → F → List F → List F → List F → List F → ℕ
agreeing_pairs_with d e p q firsts seconds = count_by (λ keys. agree_with d p q keys.0 && agree_with e p q keys.1) (pairs_of firsts seconds)

-- words or fingerprints of them are changed: q stands for p, and d and e are added to its two fingerprints
abbrev pub AreChanged : List F → List F → F → F → Type 0
AreChanged p q d e = ¬ ((p ≡ q) × same d (residue 0) × same e (residue 0))

-- where n words with one first word, their fingerprints or both are changed, by what does not depend on the keys, the fingerprints fit under at most (n - 1)^2 pairs of distinct first and distinct second keys
abbrev pub FewPairsFit : Type 0
FewPairsFit = (p q firsts seconds : List F) (d e : F) → length p ≡ length q → take 1 p ≡ take 1 q → AreChanged p q d e → AreApart same firsts → AreApart same seconds
    → agreeing_pairs_with d e p q firsts seconds ≤ (length p - 1) * (length p - 1)

-- where at most 2^18 words with one first word, their fingerprints or both are changed, by what does not depend on the keys, the
-- fingerprints fit under at most one of 2^90 of all pairs of P - 1 distinct first and P - 1 distinct second keys
abbrev pub ChangesAreMissedRarely : Type 0
ChangesAreMissedRarely = (p q firsts seconds : List F) (d e : F) → length p ≡ length q → length p ≤ 2 ^ 18 → take 1 p ≡ take 1 q → AreChanged p q d e → AreApart same firsts → AreApart same seconds
    → length firsts ≡ P - 1 → length seconds ≡ P - 1 → 2 ^ 90 * agreeing_pairs_with d e p q firsts seconds ≤ length (pairs_of firsts seconds)

-- where block numbers and indices are below P, shards with one list of words have the same block, index and cells
abbrev pub ShardsHaveTheirWords : Type 0
ShardsHaveTheirWords = (block other index place : ℕ) (cells others : List F) → block < P → other < P → index < P → place < P
    → cell_words block index cells ≡ cell_words other place others → (block ≡ other) × (index ≡ place) × (cells ≡ others)
