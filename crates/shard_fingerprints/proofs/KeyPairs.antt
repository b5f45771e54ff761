-- Counting the pairs of keys under which two lists of words have the same fingerprints.
use Rattle.std.proofs.Common.{◌≡◌, ◌≢◌, ◌∙◌, ℕ, suc, ◌+◌, ◌-◌, ◌*◌, ◌^◌, ◌<◌, ◌≤◌, Bool, true, false, cond, ◌&&◌, ◌⊎◌, inl, inr, List, [], ◌∷◌, eqb, length, map, take, drop, get_or, refl, sym, ap, ap₂, subst, arith, length-append}
use Rattle.std.specs.List.{All, AllPairs, filter, count_by}
use Rattle.std.proofs.Math.Nat.{add-mul, mul-le-mul, mod-eq_of_lt, one-mul, zero-mul, mul-zero}
use Rattle.std.proofs.lemmas.Bool.{cases_eq, eqb-true, ne_eqb}
use Rattle.std.proofs.lemmas.List.{length-map}
use Rattle.std.proofs.lemmas.List.Elements.{All-filter, filter_passes}
use Rattle.std.proofs.lemmas.List.Kept.{AllPairs-cons}
use Rattle.std.proofs.lemmas.List.Sums.{sum_by-cons, sum_by-append, length-filter}
use Rattle.math_numbers.specs.Goldilocks.{P}
use Rattle.math_theory.specs.Interpolation.{AreApart}
use Rattle.math_fields.specs.declared.goldilocks.F.{F}
use Rattle.math_fields.specs.Elements.{number, same, sum, residue}
use Rattle.math_fields.specs.ElementLaws.{equality, group, commutes, ring}
use Rattle.math_fields.specs.ElementRootLaws.{field}
use Rattle.shard_fingerprints.specs.EqualElements.{element_equal}
use Rattle.shard_fingerprints.specs.Fingerprints.{fingerprint}
use Rattle.shard_fingerprints.specs.KeyPairs.{agree, agree_with, agreeing_pairs, agreeing_pairs_with, pairs_of, AreChanged, ChangesAreMissedRarely, DamageIsMissedRarely, FewPairsAgree, FewPairsFit, ShardsHaveTheirWords}
use Rattle.shard_fingerprints.proofs.SeenChanges.{added_first, adds_nothing, few_keys}

-- what is left of a list of which each is related to each later one, where some are left out
kept_pairs : {X : Type 0} (R : X → X → Type 0) (test : X → Bool) (xs : List X) → AllPairs R xs → AllPairs R (filter test xs)
kept_pairs R test [] h = h
kept_pairs R test (x ∷ xs) h =
    let head : All (R x) xs = λ k d l. h 0 (suc k) d (omega arith) (omega (arith, l)) in
    let tail : AllPairs R xs = λ i j d a b. h (suc i) (suc j) d (omega (arith, a)) (omega (arith, b)) in
    let rest = kept_pairs R test xs tail in
    elim (test x) as (λ b. AllPairs R (cond b (x ∷ filter test xs) (filter test xs))) [
      | true ↦ AllPairs-cons R x (filter test xs) (All-filter test (R x) xs head) rest
      | false ↦ rest
    ]

-- two lists of one length are one list, or there is a place at which they differ
differ : (p q : List F) → length p ≡ length q → (p ≡ q) ⊎ ((k : ℕ) × (k < length p) × ¬ (same (get_or p k (residue 0)) (get_or q k (residue 0))))
differ [] [] l = inl refl
differ [] (b ∷ q) l = absurd (omega (arith, l))
differ (a ∷ p) [] l = absurd (omega (arith, l))
differ (a ∷ p) (b ∷ q) l =
    let Differ : Type 0 = (a ∷ p ≡ b ∷ q) ⊎ ((k : ℕ) × (k < length (a ∷ p)) × ¬ (same (get_or (a ∷ p) k (residue 0)) (get_or (b ∷ q) k (residue 0)))) in
    elim (cases_eq (number a) (number b)) as (λ _. Differ) [
      | inl e ↦ elim (differ p q (omega (arith, l))) as (λ _. Differ) [
        | inl rest ↦ inl (rw (element_equal a b e, rest) refl)
        | inr place ↦ inr (suc place.0, omega (arith, place.1), place.2)
      ]
      | inr other ↦ inr (0, omega arith, other)
    ]

-- under how many of some distinct keys two different lists have one fingerprint
few : (p q keys : List F) → length p ≡ length q → p ≢ q → AreApart same keys → count_by (agree p q) keys ≤ length p - 1
few p q keys l n apart =
    elim (differ p q l) as (λ _. count_by (agree p q) keys ≤ length p - 1) [
      | inl e ↦ absurd (n e)
      | inr place ↦
          let passing = filter (agree p q) keys in
          let apart_passing : AreApart same passing = kept_pairs (λ x y. ¬ (same x y)) (agree p q) keys apart in
          let agreeing : All (λ key. same (fingerprint p key) (fingerprint q key)) passing =
          λ k d t. eqb-true (number (fingerprint p (get_or passing k d))) (number (fingerprint q (get_or passing k d))) (filter_passes (agree p q) keys k d t) in
          let bound : length passing ≤ length p - 1 = few_keys equality group commutes ring field p q passing place.0 l place.1 place.2 apart_passing agreeing in
          let count : length passing ≡ count_by (agree p q) keys = length-filter (agree p q) keys in
          subst (λ n. n ≤ length p - 1) count bound
    ]

-- tests that agree count the same, and one that nothing passes counts none
count-alike : (p q : F → Bool) → ((key : F) → p key ≡ q key) → (keys : List F) → count_by p keys ≡ count_by q keys
count-alike p q h [] = refl
count-alike p q h (key ∷ keys) =
    sum_by-cons (λ x. cond (p x) 1 0) key keys ∙ ap₂ (λ b n. cond b 1 0 + n) (h key) (count-alike p q h keys) ∙ sym (sum_by-cons (λ x. cond (q x) 1 0) key keys)

count-none : (p : F → Bool) → ((key : F) → p key ≡ false) → (keys : List F) → count_by p keys ≡ 0
count-none p h [] = refl
count-none p h (key ∷ keys) = sum_by-cons (λ x. cond (p x) 1 0) key keys ∙ ap₂ (λ b n. cond b 1 0 + n) (h key) (count-none p h keys)

-- the same where d is added to the fingerprints of the one: it is as good as added to the first word
few_with : (a d : F) (p q keys : List F) → length p ≡ length q → p ≢ q → AreApart same keys → count_by (agree_with d (a ∷ p) (a ∷ q)) keys ≤ length (a ∷ p) - 1
few_with a d p q keys l n apart =
    let first : F = sum a d in
    let test : (key : F) → agree_with d (a ∷ p) (a ∷ q) key ≡ agree (first ∷ p) (a ∷ q) key =
    λ key. ap (λ m. eqb m (number (fingerprint (a ∷ q) key))) (added_first equality group commutes ring field a d p key) in
    let bound : count_by (agree (first ∷ p) (a ∷ q)) keys ≤ length (a ∷ p) - 1 = few (first ∷ p) (a ∷ q) keys (ap suc l) (λ e. n (ap (drop 1) e)) apart in
    subst (λ m. m ≤ length (a ∷ p) - 1) (sym (count-alike (agree_with d (a ∷ p) (a ∷ q)) (agree (first ∷ p) (a ∷ q)) test keys)) bound

-- no fingerprint is as it was where something is added to it
none_with : (d : F) (p keys : List F) → ¬ (same d (residue 0)) → count_by (agree_with d p p) keys ≡ 0
none_with d p keys n = count-none (agree_with d p p) (λ key. ne_eqb (number (sum (fingerprint p key) d)) (number (fingerprint p key)) (λ e. n (adds_nothing equality group commutes ring field (fingerprint p key) d e))) keys

-- how many of the pairs with one first key pass
count-map : (p q : F → Bool) (a : F) (seconds : List F) → count_by (λ (k : F × F). p k.0 && q k.1) (map (λ b. (a, b)) seconds) ≡ cond (p a) (count_by q seconds) 0
count-map p q a [] = elim (p a) as (λ v. ◌≡◌ {A = ℕ} 0 (cond v 0 0)) [ true ↦ refl | false ↦ refl ]
count-map p q a (b ∷ seconds) =
    let step = sum_by-cons (λ (k : F × F). cond (p k.0 && q k.1) 1 0) (a, b) (map (λ b. (a, b)) seconds) in
    step ∙ ap (λ n. cond (p a && q b) 1 0 + n) (count-map p q a seconds)
    ∙ elim (p a) as (λ v. cond (v && q b) 1 0 + cond v (count_by q seconds) 0 ≡ cond v (count_by q (b ∷ seconds)) 0) [
      | true ↦ sym (sum_by-cons (λ x. cond (q x) 1 0) b seconds)
      | false ↦ refl
    ]

-- how many pairs pass: as many as first keys pass the one test times as many as second keys pass the other
count-pairs : (p q : F → Bool) (firsts seconds : List F) → count_by (λ (k : F × F). p k.0 && q k.1) (pairs_of firsts seconds) ≡ count_by p firsts * count_by q seconds
count-pairs p q [] seconds = sym (zero-mul (count_by q seconds))
count-pairs p q (a ∷ firsts) seconds =
    let some = count_by q seconds in
    sum_by-append (λ (k : F × F). cond (p k.0 && q k.1) 1 0) (map (λ b. (a, b)) seconds) (pairs_of firsts seconds)
    ∙ ap (λ n. n + count_by (λ (k : F × F). p k.0 && q k.1) (pairs_of firsts seconds)) (count-map p q a seconds)
    ∙ ap (λ n. cond (p a) some 0 + n) (count-pairs p q firsts seconds)
    ∙ elim (p a) as (λ v. cond v some 0 + count_by p firsts * some ≡ (cond v 1 0 + count_by p firsts) * some) [
      | true ↦ sym (add-mul 1 (count_by p firsts) some ∙ ap (λ n. n + count_by p firsts * some) (one-mul some))
      | false ↦ sym (add-mul 0 (count_by p firsts) some ∙ ap (λ n. n + count_by p firsts * some) (zero-mul some))
    ]
    ∙ sym (ap (λ n. n * some) (sum_by-cons (λ x. cond (p x) 1 0) a firsts))

length-pairs : (firsts seconds : List F) → length (pairs_of firsts seconds) ≡ length firsts * length seconds
length-pairs [] seconds = sym (zero-mul (length seconds))
length-pairs (a ∷ firsts) seconds =
    length-append (map (λ b. (a, b)) seconds) (pairs_of firsts seconds)
    ∙ ap (λ n. n + length (pairs_of firsts seconds)) (length-map seconds (λ b. (a, b)))
    ∙ ap (λ n. length seconds + n) (length-pairs firsts seconds)
    ∙ sym (add-mul 1 (length firsts) (length seconds) ∙ ap (λ n. n + length firsts * length seconds) (one-mul (length seconds)))
    ∙ ap (λ n. n * length seconds) (omega arith)

pub few_pairs : FewPairsAgree
few_pairs p q firsts seconds l n apart others =
    let count = count-pairs (agree p q) (agree p q) firsts seconds in
    subst (λ n. n ≤ (length p - 1) * (length p - 1)) (sym count) (mul-le-mul (few p q firsts l n apart) (few p q seconds l n others))

-- so few pairs are one of 2^90
rare : (n count : ℕ) (firsts seconds : List F) → n ≤ 2 ^ 18 → count ≤ (n - 1) * (n - 1) → length firsts ≡ P - 1 → length seconds ≡ P - 1 → 2 ^ 90 * count ≤ length (pairs_of firsts seconds)
rare n count firsts seconds short few first second =
    let below : n - 1 ≤ 2 ^ 18 = omega (arith, short) in
    let square : (n - 1) * (n - 1) ≤ 2 ^ 18 * 2 ^ 18 = mul-le-mul below below in
    let all : length (pairs_of firsts seconds) ≡ (P - 1) * (P - 1) = length-pairs firsts seconds ∙ ap (λ n. n * length seconds) first ∙ ap (λ n. (P - 1) * n) second in
    omega (arith, few, square, all)

-- how many pairs fit is at most that
abbrev AreFew : F → F → List F → List F → List F → List F → Type 0
AreFew d e firsts seconds p q = count_by (agree_with d p q) firsts * count_by (agree_with e p q) seconds ≤ (length p - 1) * (length p - 1)

few_same : (d e : F) (firsts seconds p : List F) → AreChanged p p d e → AreFew d e firsts seconds p p
few_same d e firsts seconds p changed = elim (cases_eq (number d) (number (residue 0))) as (λ _. AreFew d e firsts seconds p p) [
  | inr first ↦
      subst (λ n. n * count_by (agree_with e p p) seconds ≤ (length p - 1) * (length p - 1)) (sym (none_with d p firsts first)) (omega (arith, zero-mul (count_by (agree_with e p p) seconds)))
  | inl zero_d ↦
      let second : ¬ (same e (residue 0)) = λ zero_e. changed (refl, zero_d, zero_e) in
      subst (λ n. count_by (agree_with d p p) firsts * n ≤ (length p - 1) * (length p - 1)) (sym (none_with e p seconds second)) (omega (arith, mul-zero (count_by (agree_with d p p) firsts)))
]

few_at : (d e : F) (firsts seconds p q : List F) → AreApart same firsts → AreApart same seconds → length p ≡ length q → take 1 p ≡ take 1 q → AreChanged p q d e → AreFew d e firsts seconds p q
few_at d e firsts seconds [] [] apart others l one changed = few_same d e firsts seconds [] changed
few_at d e firsts seconds [] (b ∷ q) apart others l one changed = absurd (omega (arith, l))
few_at d e firsts seconds (a ∷ p) [] apart others l one changed = absurd (omega (arith, l))
few_at d e firsts seconds (a ∷ p) (b ∷ q) apart others l one changed =
    let first : a ≡ b = ap (λ xs. get_or xs 0 a) one in
    let size : length p ≡ length q = omega (arith, l) in
    elim (differ p q size) as (λ _. AreFew d e firsts seconds (a ∷ p) (b ∷ q)) [
      | inl rest ↦
          let words : a ∷ p ≡ b ∷ q = ap₂ (λ x xs. x ∷ xs) first rest in
          subst (AreFew d e firsts seconds (a ∷ p)) words (few_same d e firsts seconds (a ∷ p) (subst (λ xs. AreChanged (a ∷ p) xs d e) (sym words) changed))
      | inr place ↦
          let other : p ≢ q = λ h. place.2 (ap (λ xs. number (get_or xs place.0 (residue 0))) h) in
          subst (λ x. AreFew d e firsts seconds (a ∷ p) (x ∷ q)) first (mul-le-mul (few_with a d p q firsts size other apart) (few_with a e p q seconds size other others))
    ]

pub few_fit : FewPairsFit
few_fit p q firsts seconds d e l one changed apart others =
    subst (λ n. n ≤ (length p - 1) * (length p - 1)) (sym (count-pairs (agree_with d p q) (agree_with e p q) firsts seconds)) (few_at d e firsts seconds p q apart others l one changed)

pub rarely_with : ChangesAreMissedRarely
rarely_with p q firsts seconds d e l short one changed apart others first second =
    rare (length p) (agreeing_pairs_with d e p q firsts seconds) firsts seconds short (few_fit p q firsts seconds d e l one changed apart others) first second

pub rarely : DamageIsMissedRarely
rarely p q firsts seconds l short n apart others first second =
    rare (length p) (agreeing_pairs p q firsts seconds) firsts seconds short (few_pairs p q firsts seconds l n apart others) first second

pub words : ShardsHaveTheirWords
words block other index place cells others a b i j e =
    let first : residue block ≡ residue other = cc in
    let second : residue index ≡ residue place = cc in
    let rest : cells ≡ others = cc in
    (sym (mod-eq_of_lt a) ∙ ap number first ∙ mod-eq_of_lt b, sym (mod-eq_of_lt i) ∙ ap number second ∙ mod-eq_of_lt j, rest)
