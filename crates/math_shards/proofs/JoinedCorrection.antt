-- Shards that are all right, or all but those of one index: they are corrected.
use Rattle.std.proofs.Common.{◌≡◌, ℕ, ◌+◌, ◌<◌, ◌≤◌, ◌^◌, ◌⊎◌, inl, inr, List, [], ◌∷◌, Bool, true, not, eqb, length, get_or, refl, sym, ◌∙◌, subst, true≢false, arith}
use Rattle.std.specs.List.{All, AllZip, list_all}
use Rattle.std.proofs.lemmas.Bool.{and_from, cases_Bool, cases_eq, eq-eqb, eqb-true, not_from_false, or_left, or_right}
use Rattle.std.proofs.lemmas.List.{get_or_default}
use Rattle.std.proofs.lemmas.List.Elements.{All-filter, All-head, All-tail, All-weaker}
use Rattle.std.proofs.lemmas.List.Folds.{list_any_at}
use Rattle.math_fields.specs.Elements.{same}
use Rattle.math_splitting.specs.declared.shards.Shard.{Shard}
use Rattle.math_shards.specs.Correcting.{AreCorrected, CorrectTo, HasNumbersOf, are_same, is_settled, settled, settled_indices}
use Rattle.math_splitting.specs.Shards.{IsShardOf, JoinTo, distinct_indices, has_index}
use Rattle.math_shards.proofs.CountedIndices.{few_lost, none_lost}
use Rattle.math_shards.proofs.FilledShards.{index_found, index_there}
use Rattle.math_shards.proofs.JoinedShards.{same_shards}
use Rattle.math_splitting.proofs.LeastDomains.{domain_of}
use Rattle.math_shards.proofs.KeptItems.{kept-passes, kept_of}
use Rattle.math_shards.proofs.SettledShards.{agrees, are_same-decides}

all_pass : {X : Type 0} (p : X → Bool) (xs : List X) → All (λ x. p x ≡ true) xs → list_all p xs ≡ true
all_pass p [] h = refl
all_pass p (x ∷ xs) h = and_from (p x) (list_all p xs) (All-head (λ y. p y ≡ true) x xs h) (all_pass p xs (All-tail (λ y. p y ≡ true) x xs h))

-- an index is settled where each shard that has it has the cells of one
settles : (shards : List Shard) (s : Shard) → ((k : ℕ) (t : Shard) → k < length shards → get_or shards k t ≡ t → t.index ≡ s.index → AllZip same t.cells.items s.cells.items)
    → is_settled shards s ≡ true
settles shards s h = all_pass (agrees s) shards (λ k d l.
    let t = get_or shards k d in
    let cells = are_same t.cells.items s.cells.items in
    elim (cases_Bool (eqb t.index s.index)) as (λ _. agrees s t ≡ true) [
      | inl here ↦ or_right (not (eqb t.index s.index)) cells ((are_same-decides t.cells.items s.cells.items).1 (h k t l (get_or_default shards k t d l) (eqb-true t.index s.index here)))
      | inr other ↦ or_left (not (eqb t.index s.index)) cells (not_from_false (eqb t.index s.index) other)
    ])

-- then it is among those of the settled shards
settled_index : (shards : List Shard) (k : ℕ) (s : Shard) (i : ℕ) → k < length shards → get_or shards k s ≡ s → is_settled shards s ≡ true → s.index ≡ i → has_index (settled shards) i ≡ true
settled_index shards k s i l is settled_there e =
    let kept = kept-passes (is_settled shards) shards k s l (sym is) settled_there in
    list_any_at (λ (t : Shard). eqb t.index i) (settled shards) (kept_of (is_settled shards) shards k) s kept.1
    (subst (λ (t : Shard). eqb t.index i ≡ true) kept.2 (eq-eqb s.index i e))

-- where the shards of an index are all those of the data, it is settled
right_index : (words : List ℕ) (min total : ℕ) (shards : List Shard) (i : ℕ) → 1 ≤ total → total < 2 ^ 32
    → ((k : ℕ) (s : Shard) → k < length shards → get_or shards k s ≡ s → s.index ≡ i → IsShardOf words min total s) → has_index shards i ≡ true → has_index (settled shards) i ≡ true
right_index words min total shards i some short right there =
    let domain = domain_of total some short in
    let found = index_found shards i there in
    let s = found.1 in
    let of = right found.0 s found.2 found.3 found.4 in
    settled_index shards found.0 s i found.2 found.3
    (settles shards s (λ k t l is e. same_shards words min total domain.0 t s domain.1 (right k t l is (e ∙ found.4)) of e)) found.4

numbers_of_shard : (words : List ℕ) (min total : ℕ) (s : Shard) → IsShardOf words min total s → HasNumbersOf words min total s
numbers_of_shard words min total s h = record { index = h.index; least = h.least; most = h.most; count = h.count }

-- shards that join to data are corrected to these
pub joined_correct : (words : List ℕ) (shards : List Shard) → JoinTo words shards → CorrectTo words shards
joined_correct words shards j =
    let all_settled : distinct_indices j.total shards ≤ settled_indices j.total shards =
    none_lost j.total shards (settled shards) (λ i there.
    right_index words j.min j.total shards i (omega (arith, j.some, j.within)) j.short (λ k s l is e. subst (IsShardOf words j.min j.total) is (j.each k s l)) there) in
    record {
      min = j.min;
      total = j.total;
      some = j.some;
      within = j.within;
      short = j.short;
      each_word = j.each_word;
      few = j.few;
      numbers = All-weaker (IsShardOf words j.min j.total) (HasNumbersOf words j.min j.total) (numbers_of_shard words j.min j.total) shards j.each;
      wrong = [];
      enough = omega (arith, j.enough, all_settled);
      right = λ k d l n. All-filter (is_settled shards) (IsShardOf words j.min j.total) shards j.each k d l;
    }

-- and none of them is left out
pub joined_corrected : (words : List ℕ) (shards : List Shard) → JoinTo words shards → AreCorrected words [] shards
unfolding joined_correct
joined_corrected words shards j = (
  joined_correct words shards j,
  record {
    rising = λ k l. absurd (omega (arith, l));
    below = λ k d l. absurd (omega (arith, l));
    differ = λ k d l. absurd (omega (arith, l));
    agree = λ i s l is n. subst (IsShardOf words j.min j.total) is (j.each i s l);
  },
)

-- so are shards of which those of one index alone are wrong, where `min` + 2 distinct indices are there
pub one_index_wrong : (words : List ℕ) (min total wrong_index : ℕ) (shards : List Shard) → 1 ≤ min → min ≤ total → total < 2 ^ 32 → All (λ word. word < 2 ^ 64) words → length words < 2 ^ 64
    → All (HasNumbersOf words min total) shards → min + 2 ≤ distinct_indices total shards
    → ((k : ℕ) (s : Shard) → k < length shards → get_or shards k s ≡ s → ¬ (s.index ≡ wrong_index) → IsShardOf words min total s) → CorrectTo words shards
one_index_wrong words min total x shards some within short each_word few numbers spare right =
    let n = settled_indices total shards in
    let other : (i : ℕ) → ¬ (i ≡ x) → has_index shards i ≡ true → has_index (settled shards) i ≡ true =
    λ i apart there. right_index words min total shards i (omega (arith, some, within)) short (λ k s l is e. right k s l is (λ q. apart (sym e ∙ q))) there in
    let at_most_one : distinct_indices total shards ≤ n + 1 =
    (few_lost total x (has_index shards) (has_index (settled shards)) (λ i there. elim (cases_eq i x) as (λ _. (has_index (settled shards) i ≡ true) ⊎ (x ≡ i)) [
      | inl here ↦ inr (sym here)
      | inr apart ↦ inl (other i apart there)
    ])).1 in
    let of_settled : (k : ℕ) (d : Shard) → k < length (settled shards) → ¬ ((get_or (settled shards) k d).index ≡ x) → IsShardOf words min total (get_or (settled shards) k d) =
    λ k d l. All-filter (is_settled shards) (λ (s : Shard). ¬ (s.index ≡ x) → IsShardOf words min total s) shards
    (λ m e b. right m (get_or shards m e) b (get_or_default shards m (get_or shards m e) e b)) k d l in
    elim (cases_Bool (has_index (settled shards) x)) as (λ _. CorrectTo words shards) [
      | inl there ↦
          let all : distinct_indices total shards ≤ n =
          none_lost total shards (settled shards) (λ i h. elim (cases_eq i x) as (λ _. has_index (settled shards) i ≡ true) [
            | inl here ↦ subst (λ (m : ℕ). has_index (settled shards) m ≡ true) (sym here) there
            | inr apart ↦ other i apart h
          ]) in
          record {
            min = min;
            total = total;
            some = some;
            within = within;
            short = short;
            each_word = each_word;
            few = few;
            numbers = numbers;
            wrong = x ∷ [];
            enough = omega (arith, spare, all);
            right = λ k d l none. of_settled k d l (λ e. none (0, omega arith, sym e));
          }
      | inr missing ↦ record {
        min = min;
        total = total;
        some = some;
        within = within;
        short = short;
        each_word = each_word;
        few = few;
        numbers = numbers;
        wrong = [];
        enough = omega (arith, spare, at_most_one);
        right = λ k d l _. of_settled k d l (λ e. true≢false (sym (subst (λ (m : ℕ). has_index (settled shards) m ≡ true) e (index_there (settled shards) k d l)) ∙ missing));
      }
    ]
