-- How many distinct indices shards have: counted one by one, and without those of some.
use Rattle.std.proofs.Common.{◌≡◌, ℕ, zero, suc, ◌+◌, ◌≤◌, ◌⊎◌, inl, inr, List, [], ◌∷◌, ◌||◌, ◌&&◌, Bool, true, false, not, cond, eqb, length, get_or, refl, sym, ◌∙◌, ap, arith}
use Rattle.std.specs.List.{All, Contains, count_by, filter, list_any, range_with_len, sum_by}
use Rattle.std.proofs.lemmas.Bool.{and_from, and_parts, both_ways, cases_Bool, cases_lt, eq-eqb, eqb-true, not-true}
use Rattle.std.proofs.lemmas.List.{map-id}
use Rattle.std.proofs.lemmas.List.Elements.{filter_passes}
use Rattle.std.proofs.lemmas.List.Folds.{list_any_at}
use Rattle.std.proofs.lemmas.List.FromFn.{sum_by-map-range_with_len_more}
use Rattle.math_splitting.specs.declared.shards.Shard.{Shard}
use Rattle.math_splitting.specs.Shards.{distinct_indices, has_index}

-- what a truth value adds to a count
abbrev pub weight : Bool → ℕ
weight b = cond b 1 0

-- how many of the numbers below n pass a test
abbrev pub passing : ℕ → (ℕ → Bool) → ℕ
passing n p = count_by p (range_with_len 0 n)

-- one more number counts where it passes
passing_more : (n : ℕ) (p : ℕ → Bool) → passing (n + 1) p ≡ passing n p + weight (p n)
passing_more n p =
    let w : ℕ → ℕ = λ i. weight (p i) in
    ap (sum_by w) (sym (map-id (range_with_len 0 (n + 1)))) ∙ sum_by-map-range_with_len_more w (λ i. i) 0 n n (omega arith)
    ∙ ap (λ l. sum_by w l + w n) (map-id (range_with_len 0 n))

-- a truth value adds no more than another that is true where it is
pub weight_kept : (a b : Bool) → (a ≡ true → b ≡ true) → weight a ≤ weight b
weight_kept true b h = rw (h refl) (omega arith)
weight_kept false b h = omega arith

-- where all that pass but one pass another test too, as many below that one do, and at most one more in all
pub few_lost : (n one : ℕ) (p q : ℕ → Bool) → ((i : ℕ) → p i ≡ true → (q i ≡ true) ⊎ (one ≡ i)) → (n ≤ one → passing n p ≤ passing n q) × (passing n p ≤ passing n q + 1)
few_lost zero one p q h = (λ _. omega arith, omega arith)
few_lost (suc n) one p q h =
    let before = few_lost n one p q h in
    let next : suc n ≡ n + 1 = omega arith in
    let x : passing (suc n) p ≡ passing n p + weight (p n) = ap (λ m. passing m p) next ∙ passing_more n p in
    let y : passing (suc n) q ≡ passing n q + weight (q n) = ap (λ m. passing m q) next ∙ passing_more n q in
    let kept : ¬ (one ≡ n) → weight (p n) ≤ weight (q n) =
    λ other. weight_kept (p n) (q n) (λ there. elim (h n there) as (λ _. q n ≡ true) [ inl e ↦ e | inr e ↦ absurd (other e) ]) in
    let most : weight (p n) ≤ 1 = weight_kept (p n) true (λ _. refl) in (
      λ l. omega (arith, x, y, before.0 (omega (arith, l)), kept (λ e. omega (arith, e, l))),
      elim (cases_lt n one) as (λ _. passing (suc n) p ≤ passing (suc n) q + 1) [
        | inl early ↦ omega (arith, x, y, before.1, kept (λ e. omega (arith, e, early)))
        | inr late ↦ elim (cases_lt one n) as (λ _. passing (suc n) p ≤ passing (suc n) q + 1) [
          | inl past ↦ omega (arith, x, y, before.1, kept (λ e. omega (arith, e, past)))
          | inr now ↦ omega (arith, x, y, before.0 now, most)
        ]
      ],
    )

-- where all indices are those of others too, there are as many
pub none_lost : (n : ℕ) (xs ys : List Shard) → ((i : ℕ) → has_index xs i ≡ true → has_index ys i ≡ true) → distinct_indices n xs ≤ distinct_indices n ys
none_lost n xs ys h = (few_lost n n (has_index xs) (has_index ys) (λ i there. inl (h i there))).0 (omega arith)

-- what is kept by its index has the indices that are kept
indices-filter : (q : ℕ → Bool) (shards : List Shard) (i : ℕ) → has_index (filter (λ (s : Shard). q s.index) shards) i ≡ (has_index shards i && q i)
indices-filter q [] i = refl
indices-filter q (s ∷ shards) i =
    let rest = indices-filter q shards i in
    elim (cases_Bool (q s.index)) as (λ _. has_index (filter (λ (t : Shard). q t.index) (s ∷ shards)) i ≡ ((eqb s.index i || has_index shards i) && q i)) [
      | inl passes ↦
          rw passes (elim (cases_Bool (eqb s.index i)) as (λ _. (eqb s.index i || has_index (filter (λ (t : Shard). q t.index) shards) i) ≡ ((eqb s.index i || has_index shards i) && q i)) [
            | inl here ↦ rw here (sym (sym (ap q (eqb-true s.index i here)) ∙ passes))
            | inr other ↦ rw other rest
          ])
      | inr fails ↦
          rw fails (elim (cases_Bool (eqb s.index i)) as (λ _. has_index (filter (λ (t : Shard). q t.index) shards) i ≡ ((eqb s.index i || has_index shards i) && q i)) [
            | inl here ↦
                let none : q i ≡ false = sym (ap q (eqb-true s.index i here)) ∙ fails in
                rw (here, none) (rest ∙ ap (λ b. has_index shards i && b) none ∙ and_false (has_index shards i))
            | inr other ↦ rw other rest
          ])
    ]
  where
    and_false : (b : Bool) → (b && false) ≡ false
    and_false true = refl
    and_false false = refl

-- whether the number is none of these
abbrev pub is_outside : List ℕ → ℕ → Bool
is_outside numbers i = not (list_any (λ n. eqb n i) numbers)

-- the shards whose index is none of these
abbrev pub outside : List ℕ → List Shard → List Shard
outside numbers shards = filter (λ (s : Shard). is_outside numbers s.index) shards

-- whose indices are those of the shards, but for these
pub indices-outside : (numbers : List ℕ) (shards : List Shard) (i : ℕ) → has_index (outside numbers shards) i ≡ (has_index shards i && is_outside numbers i)
indices-outside numbers shards i = indices-filter (is_outside numbers) shards i

-- of each of which it is none of these
pub not_among : (numbers : List ℕ) (i : ℕ) → is_outside numbers i ≡ true → ¬ (Contains numbers i)
not_among numbers i h c =
    both_ways (list_any (λ n. eqb n i) numbers) (not-true (list_any (λ n. eqb n i) numbers) h) (list_any_at (λ n. eqb n i) numbers c.0 i c.1 (eq-eqb (get_or numbers c.0 i) i c.2))

pub outside_not_among : (numbers : List ℕ) (shards : List Shard) → All (λ s. ¬ (Contains numbers s.index)) (outside numbers shards)
outside_not_among numbers shards k d l = not_among numbers (get_or (outside numbers shards) k d).index (filter_passes (λ (s : Shard). is_outside numbers s.index) shards k d l)

-- at most so many distinct indices are lost
pub lost_outside : (n : ℕ) (numbers : List ℕ) (shards : List Shard) → distinct_indices n shards ≤ distinct_indices n (outside numbers shards) + length numbers
lost_outside n [] shards = omega (arith, none_lost n shards (outside [] shards) (λ i h. indices-outside [] shards i ∙ and_from (has_index shards i) true h refl))
lost_outside n (m ∷ numbers) shards =
    let one : distinct_indices n (outside numbers shards) ≤ distinct_indices n (outside (m ∷ numbers) shards) + 1 =
    (few_lost n m (has_index (outside numbers shards)) (has_index (outside (m ∷ numbers) shards)) (λ i h.
    let both = and_parts (has_index shards i) (is_outside numbers i) (sym (indices-outside numbers shards i) ∙ h) in
    elim (cases_Bool (eqb m i)) as (λ _. (has_index (outside (m ∷ numbers) shards) i ≡ true) ⊎ (m ≡ i)) [
      | inl here ↦ inr (eqb-true m i here)
      | inr other ↦
          let out : is_outside (m ∷ numbers) i ≡ true = ap (λ b. not (b || list_any (λ k. eqb k i) numbers)) other ∙ both.1 in
          inl (indices-outside (m ∷ numbers) shards i ∙ and_from (has_index shards i) (is_outside (m ∷ numbers) i) both.0 out)
    ])).1 in
    omega (arith, one, lost_outside n numbers shards)
