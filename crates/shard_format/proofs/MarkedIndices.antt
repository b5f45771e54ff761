-- Marks at the indices of shards, which are counted.
use Rattle.std.proofs.Common.{◌≡◌, ◌∙◌, ◌+◌, ◌<◌, ◌≤◌, ℕ, Bool, false, true, cond, eqb, ◌||◌, inl, inr, List, [], ◌∷◌, ◌++◌, length, map, get_or, set, refl, sym, ap, arith}
use Rattle.std.specs.List.{list_any, range_with_len, count_by}
use Rattle.std.proofs.lemmas.Bool.{cases_Bool, cases_eq, eq-eqb, ne_eqb}
use Rattle.std.proofs.lemmas.Grind.{get_or-set_at}
use Rattle.std.proofs.lemmas.List.{get_or-set_other}
use Rattle.std.proofs.lemmas.List.Folds.{list_any-append}
use Rattle.std.proofs.lemmas.List.FromFn.{fill_by_all}
use Rattle.std.proofs.lemmas.List.Sums.{sum_by-cons}
use Rattle.shard_format.specs.Indices.{distinct_among}

-- there are n marks, and those are set whose places are among the indices
pub record AreMarks (n : ℕ) (indices : List ℕ) (marks : List Bool) : Type 0 where
  pub count : length marks ≡ n
  pub places : (i : ℕ) → i < n → get_or marks i false ≡ list_any (λ j. eqb j i) indices

-- a mark that is set is the one at its place
pub mark_set : (marks : List Bool) (place i : ℕ) → place < length marks → get_or (set marks place true) i false ≡ (eqb place i || get_or marks i false)
mark_set marks place i l =
    elim (cases_eq i place) as (λ _. get_or (set marks place true) i false ≡ (eqb place i || get_or marks i false)) [
      | inl e ↦ get_or-set_at marks place i true false e l ∙ ap (λ b. b || get_or marks i false) (sym (eq-eqb place i (sym e)))
      | inr ne ↦ get_or-set_other marks place i true false ne ∙ ap (λ b. b || get_or marks i false) (sym (ne_eqb place i (λ e. ne (sym e))))
    ]

-- beyond them none is
pub mark_past : (marks : List Bool) (place i : ℕ) → length marks ≤ place → i < length marks → get_or marks i false ≡ (eqb place i || get_or marks i false)
mark_past marks place i past l = ap (λ b. b || get_or marks i false) (sym (ne_eqb place i (λ e. omega (arith, e, past, l))))

any-push : (p : ℕ → Bool) (xs : List ℕ) (x : ℕ) → list_any p (xs ++ x ∷ []) ≡ (p x || list_any p xs)
any-push p xs x =
    list_any-append p xs (x ∷ [])
    ∙ elim (cases_Bool (p x)) as (λ _. (list_any p xs || list_any p (x ∷ [])) ≡ (p x || list_any p xs)) [
      | inl t ↦ elim (cases_Bool (list_any p xs)) as (λ _. (list_any p xs || list_any p (x ∷ [])) ≡ (p x || list_any p xs)) [ inl u ↦ rw (t, u) refl | inr f ↦ rw (t, f) refl ]
      | inr f ↦ elim (cases_Bool (list_any p xs)) as (λ _. (list_any p xs || list_any p (x ∷ [])) ≡ (p x || list_any p xs)) [ inl u ↦ rw (f, u) refl | inr g ↦ rw (f, g) refl ]
    ]

-- with one index more, its mark is set
pub marks_more : (n : ℕ) (indices : List ℕ) (x : ℕ) (old new : List Bool) → AreMarks n indices old → length new ≡ length old
    → ((i : ℕ) → i < length old → get_or new i false ≡ (eqb x i || get_or old i false)) → AreMarks n (indices ++ x ∷ []) new
marks_more n indices x old new h count marks = record {
  count = count ∙ h.count;
  places = λ i l. marks i (let m : i < length old = omega (arith, l, h.count) in m) ∙ ap (λ b. eqb x i || b) (h.places i l) ∙ sym (any-push (λ j. eqb j i) indices x);
}

count-map : (p : ℕ → Bool) (xs : List ℕ) → count_by p xs ≡ count_by (λ b. b) (map p xs)
count-map p [] = refl
count-map p (x ∷ xs) =
    sum_by-cons (λ x. cond (p x) 1 0) x xs ∙ ap (λ n. cond (p x) 1 0 + n) (count-map p xs) ∙ sym (sum_by-cons (λ b. cond b 1 0) (p x) (map p xs))

-- as many marks are set as there are distinct indices
pub marks_counted : (n : ℕ) (indices : List ℕ) (marks : List Bool) → AreMarks n indices marks → count_by (λ b. b) marks ≡ distinct_among n indices
marks_counted n indices marks h =
    let p : ℕ → Bool = λ i. list_any (λ j. eqb j i) indices in
    ap (count_by (λ b. b)) (fill_by_all p marks n false h.count h.places) ∙ sym (count-map p (range_with_len 0 n))
