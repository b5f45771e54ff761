-- The rows that are wanted: those in hand, and those that are lost.
use Rattle.std.proofs.Common.{◌≡◌, ◌⊎◌, ◌∙◌, inl, inr, ℕ, ◌+◌, ◌-◌, ◌*◌, ◌<◌, ◌≤◌, List, [], ◌∷◌, ◌++◌, length, get_or, Result, Ok, Err, MatchResult, IfNone, refl, sym, ap, subst, arith, rules}
use Rattle.std.specs.List.{Contains}
use Rattle.std.specs.Result.{result_ok}
use Rattle.std.proofs.lemmas.Bool.{cases_lt}
use Rattle.std.proofs.lemmas.List.{get_or-append_right, get_or-map, get_or_append_left, get_or_default, length-map, length_push}
use Rattle.std.proofs.lemmas.Nat.{same_from_place}
use Rattle.math_fields.specs.declared.goldilocks.F.{F}
use Rattle.systematic_shards.specs.declared.rows.Row.{Row}
use Rattle.systematic_shards.specs.declared.split.Split.{Split}
use Rattle.systematic_shards.specs.Filled.{AreFilled, AreWithinRoom, row_word}
use Rattle.systematic_shards.specs.Held.{AreIndexed}
use Rattle.systematic_shards.specs.Shards.{AreRowsAt, AreWithinAt, BelongTo, word_in}
use Rattle.systematic_shards.specs.Wanted.{AreCopied, AreCopiesWithin, AreLost}
use Rattle.systematic_shards.specs.Words.{IsWithin}
use Rattle.systematic_shards.proofs.Held.{rising-more}
use Rattle.systematic_shards.proofs.OneCodeword.{some_item}

-- a wanted row that is in hand
pub lost-held : (indices wanted : List ℕ) (n : ℕ) (lost places : List ℕ) → Contains indices (get_or wanted n 0) → AreLost indices wanted n lost places → AreLost indices wanted (n + 1) lost places
lost-held indices wanted n lost places there h = record {
  count = h.count;
  rise = h.rise;
  inside = λ j l. let b = h.inside j l in omega (arith, b);
  index = h.index;
  missing = h.missing;
  all = λ t l. elim (cases_lt t n) as (λ _. Contains indices (get_or wanted t 0) ⊎ ((j : ℕ) × (j < length places) × (get_or places j 0 ≡ t))) [
    | inl before ↦ h.all t before
    | inr after ↦ let is : n ≡ t = omega (arith, after, l) in inl (subst (λ i. Contains indices (get_or wanted i 0)) is there)
  ];
}

-- one that is lost
pub lost-more : (indices wanted : List ℕ) (n : ℕ) (lost places : List ℕ) → ¬ (Contains indices (get_or wanted n 0)) → AreLost indices wanted n lost places
    → AreLost indices wanted (n + 1) (lost ++ get_or wanted n 0 ∷ []) (places ++ n ∷ [])
lost-more indices wanted n lost places none h =
    let w : ℕ = get_or wanted n 0 in
    let old = λ (xs : List ℕ) (x j : ℕ) (l : j < length xs). get_or_append_left xs (x ∷ []) 0 j l in
    let end = λ (xs : List ℕ) (x j : ℕ) (l : j ≡ length xs).
    get_or-append_right xs (x ∷ []) (length xs) j 0 refl (omega (arith, l)) ∙ ap (λ i. get_or (x ∷ []) i 0) (let e : j - length xs ≡ 0 = omega (arith, l) in e) in
    record {
      count = omega (arith, h.count, length_push lost w, length_push places n);
      rise = rising-more places n h.rise (λ some. h.inside (length places - 1) (omega (arith, some)));
      inside = λ j l. elim (cases_lt j (length places)) as (λ _. get_or (places ++ n ∷ []) j 0 < n + 1) [
        | inl before ↦ let b = h.inside j before in omega (arith, b, old places n j before)
        | inr after ↦ omega (arith, end places n j (omega (arith, after, l, length_push places n)))
      ];
      index = λ j l. elim (cases_lt j (length places)) as (λ _. get_or (lost ++ w ∷ []) j 0 ≡ get_or wanted (get_or (places ++ n ∷ []) j 0) 0) [
        | inl before ↦ old lost w j (omega (arith, before, h.count)) ∙ h.index j before ∙ ap (λ p. get_or wanted p 0) (sym (old places n j before))
        | inr after ↦
            let at : j ≡ length places = omega (arith, after, l, length_push places n) in
            end lost w j (omega (arith, at, h.count)) ∙ ap (λ p. get_or wanted p 0) (sym (end places n j at))
      ];
      missing = λ j l. elim (cases_lt j (length places)) as (λ _. ¬ (Contains indices (get_or (lost ++ w ∷ []) j 0))) [
        | inl before ↦ subst (λ i. ¬ (Contains indices i)) (sym (old lost w j (omega (arith, before, h.count)))) (h.missing j before)
        | inr after ↦
            let at : j ≡ length lost = omega (arith, after, l, length_push places n, h.count) in
            subst (λ i. ¬ (Contains indices i)) (sym (end lost w j at)) none
      ];
      all = λ t l. elim (cases_lt t n) as (λ _. Contains indices (get_or wanted t 0) ⊎ ((j : ℕ) × (j < length (places ++ n ∷ [])) × (get_or (places ++ n ∷ []) j 0 ≡ t))) [
        | inl before ↦ elim (h.all t before) [
          | inl there ↦ inl there
          | inr (j, b, e) ↦ inr (j, omega (arith, b, length_push places n), old places n j b ∙ e)
        ]
        | inr after ↦ let is : n ≡ t = omega (arith, after, l) in inr (length places, omega (arith, length_push places n), end places n (length places) refl ∙ is)
      ];
    }

module _ {M : Type 0} (word : List M → ℕ → ℕ) (split : Split) (mask : ℕ) (indices : List ℕ) (held : List (Row M)) (indexed : AreIndexed split indices held)
    (wanted lost places : List ℕ) (L : AreLost indices wanted (length wanted) lost places) (a : ℕ → ℕ → F) (belong : BelongTo word split mask held a) where
  many : length indices ≡ length held
  many = ap length indexed.are ∙ length-map held (λ row. row.index)

  index-held : (p : ℕ) (d : Row M) → p < length held → (get_or held p d).index ≡ get_or indices p 0
  index-held p d l = sym (ap (λ xs. get_or xs p 0) indexed.are ∙ get_or-map (λ row. row.index) held p d 0 l)

  -- a wanted row that is in hand is that of a
  copy-word : (t p k : ℕ) (d : Row M) → p < length held → get_or indices p 0 ≡ get_or wanted t 0 → k < split.width
      → word (get_or held p d).cells.now k ≡ row_word split mask a wanted t k
  copy-word t p k d l e m = belong p d l k m ∙ ap (λ i. word_in split.min mask i (a i k)) (index-held p d l ∙ e)

  -- one that is lost is that of a in its place
  lost-word : (j k : ℕ) → j < length places → row_word split mask a lost j k ≡ row_word split mask a wanted (get_or places j 0) k
  lost-word j k l = ap (λ i. word_in split.min mask i (a i k)) (L.index j l)

  -- all wanted rows are written
  pub wanted-rows : (mid new : ℕ → ℕ) → AreCopied word split.width indices held wanted (length wanted) mid
      → AreFilled split.width places (row_word split mask a lost) split.width mid new → AreRowsAt split mask a wanted new
  wanted-rows mid new copied filled t l k m = elim (L.all t l) as (λ _. new (t * split.width + k) ≡ row_word split mask a wanted t k) [
    | inl there ↦
        let p : ℕ = there.0 in
        let b : p < length held = omega (arith, there.1, many) in
        let d : Row M = some_item held p b in
        let e : get_or indices p 0 ≡ get_or wanted t 0 = get_or_default indices p 0 (get_or wanted t 0) there.1 ∙ there.2 in
        filled.others (t * split.width + k)
        (λ j i c n f.
        let same : t ≡ get_or places j 0 = (same_from_place t k (get_or places j 0) i split.width m n f).0 in
        L.missing j c (subst (Contains indices) (ap (λ q. get_or wanted q 0) same ∙ sym (L.index j c)) there))
        ∙ copied t p k d l b e m ∙ copy-word t p k d b e m
    | inr (j, b, e) ↦
        ap (λ q. new (q * split.width + k)) (sym e) ∙ filled.written j k b m ∙ lost-word j k b ∙ ap (λ q. row_word split mask a wanted q k) e
  ]

  -- where there is room for the rows of a, there is room for those in hand and for those that are lost
  pub copies-within : (size : ℕ) → AreWithinAt size split mask a wanted → AreCopiesWithin size word split.width indices held wanted (length wanted)
  copies-within size within t p k d l b e m = subst (IsWithin size (t * split.width + k)) (sym (copy-word t p k d b e m)) (within t k l m)

  pub lost-within : (size : ℕ) → AreWithinAt size split mask a wanted → AreWithinRoom size split.width places (row_word split mask a lost)
  lost-within size within j k l m =
      subst (IsWithin size (get_or places j 0 * split.width + k)) (sym (lost-word j k l)) (within (get_or places j 0) k (L.inside j l) m)

-- a search that finds nothing
pub missing-from : (xs : List ℕ) (x : ℕ) (r : Result ℕ ℕ)
    → MatchResult r (λ i. (i < length xs) × (get_or xs i 0 ≡ x)) (λ i. (i ≤ length xs) × ((k : ℕ) → k < i → get_or xs k 0 < x) × ((k : ℕ) → i ≤ k → k < length xs → x < get_or xs k 0))
    → IfNone (result_ok r) (¬ (Contains xs x))
missing-from xs x (Ok i) h = search rules
missing-from xs x (Err i) h = λ there.
    let is = get_or_default xs there.0 0 x there.1 ∙ there.2 in
    elim (cases_lt there.0 i) as (λ _. ⊥) [
      | inl before ↦ let less : get_or xs there.0 0 < x = h.1 there.0 before in omega (arith, is, less)
      | inr after ↦ let more : x < get_or xs there.0 0 = h.2 there.0 after there.1 in omega (arith, is, more)
    ]
