-- Words that are written run by run: of some columns, of all columns, and of one row.
use Rattle.std.proofs.Common.{◌≡◌, ◌∙◌, inl, inr, ℕ, ◌+◌, ◌-◌, ◌*◌, ◌<◌, ◌≤◌, List, length, get_or, refl, sym, ap, subst, arith}
use Rattle.std.specs.List.{Contains}
use Rattle.std.specs.List.Sorted.{IsStrictlyIncreasing}
use Rattle.std.proofs.lemmas.Bool.{cases_lt}
use Rattle.std.proofs.lemmas.List.{get_or_default}
use Rattle.std.proofs.lemmas.Nat.{same_from_place}
use Rattle.math_restoring.specs.Restored.{AreDistinct}
use Rattle.systematic_shards.specs.declared.rows.Row.{Row}
use Rattle.systematic_shards.specs.Filled.{AreFilled, AreRunsFilled}
use Rattle.systematic_shards.specs.Wanted.{AreCopied, AreCopiesWithin}
use Rattle.row_interpolation.specs.Written.{AreWritten}
use Rattle.systematic_shards.specs.Words.{IsWithin}
use Rattle.row_interpolation.proofs.RisingIndices.{rising-before}

-- the run of one row more
pub runs-more : (width from cols n at : ℕ) (places : List ℕ) (value : ℕ → ℕ → ℕ) (run : ℕ → ℕ) (old now new : ℕ → ℕ) → AreDistinct places → n < length places → from + cols ≤ width
    → at ≡ get_or places n 0 * width + from → ((c : ℕ) → c < cols → run c ≡ value n c) → AreWritten (λ c. at + c) run cols now new
    → AreRunsFilled width from cols places value n old now → AreRunsFilled width from cols places value (n + 1) old new
runs-more width from cols n at places value run old now new distinct l within start same put h =
    let there = λ (c : ℕ). (let e : at + c ≡ get_or places n 0 * width + (from + c) = omega (arith, start) in e) in
    record {
      written = λ j c b m. elim (cases_lt j n) as (λ _. new (get_or places j 0 * width + (from + c)) ≡ value j c) [
        | inl before ↦
            put.others (get_or places j 0 * width + (from + c))
            (λ d e f. distinct j n before l ((same_from_place (get_or places j 0) (from + c) (get_or places n 0) (from + d) width (omega (arith, m, within)) (omega (arith, e, within)) (f ∙ there d)).0))
            ∙ h.written j c before m
        | inr after ↦
            let is : n ≡ j = omega (arith, after, b) in
            subst (λ i. new (get_or places i 0 * width + (from + c)) ≡ value i c) is (ap new (sym (there c)) ∙ put.written c m ∙ same c m)
      ];
      others = λ i apart. put.others i (λ c e f. apart n c (omega arith) e (f ∙ there c)) ∙ h.others i (λ j c b e. apart j c (omega (arith, b)) e);
    }

-- no column so far
pub filled-none : (width : ℕ) (places : List ℕ) (value : ℕ → ℕ → ℕ) (old : ℕ → ℕ) → AreFilled width places value 0 old old
filled-none width places value old = record { written = λ j k b m. absurd (omega (arith, m)); others = λ i apart. refl }

-- some columns more
pub filled-more : (width from cols : ℕ) (places : List ℕ) (run value : ℕ → ℕ → ℕ) (old now new : ℕ → ℕ) → from + cols ≤ width
    → ((j c : ℕ) → j < length places → c < cols → run j c ≡ value j (from + c)) → AreRunsFilled width from cols places run (length places) now new
    → AreFilled width places value from old now → AreFilled width places value (from + cols) old new
filled-more width from cols places run value old now new within same put h = record {
  written = λ j i b m. elim (cases_lt i from) as (λ _. new (get_or places j 0 * width + i) ≡ value j i) [
    | inl before ↦
        put.others (get_or places j 0 * width + i)
        (λ s c d e f.
        let q = same_from_place (get_or places j 0) i (get_or places s 0) (from + c) width (omega (arith, before, within)) (omega (arith, e, within)) f in
        omega (arith, before, q.1))
        ∙ h.written j i b before
    | inr after ↦
        let c : ℕ = i - from in
        let e : from + c ≡ i = omega (arith, after) in
        let inside : c < cols = omega (arith, e, m) in
        subst (λ n. new (get_or places j 0 * width + n) ≡ value j n) e (put.written j c b inside ∙ same j c b inside)
  ];
  others = λ i apart. put.others i (λ j c b e. apart j (from + c) b (omega (arith, e, within))) ∙ h.others i apart;
}

-- the item in a place, whichever stands for none
pub at-any : {X : Type 0} (P : X → Type 0) (xs : List X) (p : ℕ) (x : X) → p < length xs → P (get_or xs p x) → (d : X) → P (get_or xs p d)
at-any P xs p x l holds d = subst P (get_or_default xs p x d l) holds

-- an index has one place among rising ones
pub one-place : (xs : List ℕ) (i j : ℕ) → IsStrictlyIncreasing xs → i < length xs → j < length xs → get_or xs i 0 ≡ get_or xs j 0 → i ≡ j
one-place xs i j h l m e = elim (cases_lt i j) as (λ _. i ≡ j) [
  | inl b ↦ absurd (omega (arith, e, rising-before xs i j h b m))
  | inr c ↦ elim (cases_lt j i) as (λ _. i ≡ j) [
    | inl b ↦ absurd (omega (arith, e, rising-before xs j i h b l))
    | inr d ↦ omega (arith, c, d)
  ]
]

module _ {M : Type 0} (word : List M → ℕ → ℕ) (width : ℕ) (indices : List ℕ) (rows : List (Row M)) (wanted : List ℕ) (count : length indices ≡ length rows) where
  -- one wanted row more, which is in hand, and is copied
  pub copied-more : (n p : ℕ) (now new : ℕ → ℕ) → IsStrictlyIncreasing indices → p < length indices → get_or indices p 0 ≡ get_or wanted n 0
      → ((d : Row M) → AreWritten (λ k. n * width + k) (word (get_or rows p d).cells.now) width now new) → AreCopied word width indices rows wanted n now → AreCopied word width indices rows wanted (n + 1) new
  copied-more n p now new rising l is put h t q k d b m same c =
      elim (cases_lt t n) as (λ _. new (t * width + k) ≡ word (get_or rows q d).cells.now k) [
        | inl before ↦
            (put d).others (t * width + k) (λ i e f. omega (arith, before, (same_from_place t k n i width c e f).0)) ∙ h t q k d before m same c
        | inr after ↦
            let at : n ≡ t = omega (arith, after, b) in
            let one : p ≡ q = one-place indices p q rising l (omega (arith, m, count)) (is ∙ ap (λ i. get_or wanted i 0) at ∙ sym same) in
            ap (λ i. new (i * width + k)) (sym at) ∙ (put d).written k c ∙ ap (λ i. word (get_or rows i d).cells.now k) one
      ]

  -- one that is not in hand
  pub copied-none : (n : ℕ) (now : ℕ → ℕ) → ¬ (Contains indices (get_or wanted n 0)) → AreCopied word width indices rows wanted n now → AreCopied word width indices rows wanted (n + 1) now
  copied-none n now none h t q k d b m same c =
      elim (cases_lt t n) as (λ _. now (t * width + k) ≡ word (get_or rows q d).cells.now k) [
        | inl before ↦ h t q k d before m same c
        | inr after ↦
            let at : t ≡ n = omega (arith, after, b) in
            let l : q < length indices = omega (arith, m, count) in
            absurd (none (q, l, get_or_default indices q (get_or wanted n 0) 0 l ∙ same ∙ ap (λ i. get_or wanted i 0) at))
      ]

  -- the same of room for them
  pub within-more : (size n p : ℕ) → IsStrictlyIncreasing indices → p < length indices → get_or indices p 0 ≡ get_or wanted n 0
      → ((d : Row M) (k : ℕ) → k < width → IsWithin size (n * width + k) (word (get_or rows p d).cells.now k))
      → AreCopiesWithin size word width indices rows wanted n → AreCopiesWithin size word width indices rows wanted (n + 1)
  within-more size n p rising l is fit h t q k d b m same c =
      elim (cases_lt t n) as (λ _. IsWithin size (t * width + k) (word (get_or rows q d).cells.now k)) [
        | inl before ↦ h t q k d before m same c
        | inr after ↦
            let at : n ≡ t = omega (arith, after, b) in
            let one : p ≡ q = one-place indices p q rising l (omega (arith, m, count)) (is ∙ ap (λ i. get_or wanted i 0) at ∙ sym same) in
            subst (λ i. IsWithin size (i * width + k) (word (get_or rows q d).cells.now k)) at
            (subst (λ i. IsWithin size (n * width + k) (word (get_or rows i d).cells.now k)) one (fit d k c))
      ]

  pub within-none : (size n : ℕ) → ¬ (Contains indices (get_or wanted n 0)) → AreCopiesWithin size word width indices rows wanted n → AreCopiesWithin size word width indices rows wanted (n + 1)
  within-none size n none h t q k d b m same c =
      elim (cases_lt t n) as (λ _. IsWithin size (t * width + k) (word (get_or rows q d).cells.now k)) [
        | inl before ↦ h t q k d before m same c
        | inr after ↦
            let at : t ≡ n = omega (arith, after, b) in
            let l : q < length indices = omega (arith, m, count) in
            absurd (none (q, l, get_or_default indices q (get_or wanted n 0) 0 l ∙ same ∙ ap (λ i. get_or wanted i 0) at))
      ]
