-- Values that are written one by one, and run by run.
use Rattle.std.proofs.Common.{◌≡◌, ◌≢◌, ◌∙◌, inl, inr, ℕ, ◌+◌, ◌-◌, ◌<◌, refl, ap, subst, arith}
use Rattle.std.proofs.lemmas.Bool.{cases_lt}
use Rattle.row_interpolation.specs.Written.{AreWritten}

module _ {X : Type 0} (place : ℕ → ℕ) (value : ℕ → X) where
  -- no value so far
  pub written-none : (old : ℕ → X) → AreWritten place value 0 old old
  written-none old = record { written = λ k l. absurd (omega (arith, l)); others = λ i apart. refl }

  -- one value more
  pub written-more : (n : ℕ) (old now new : ℕ → X) → ((k : ℕ) → k < n → place k ≢ place n) → new (place n) ≡ value n → ((i : ℕ) → i ≢ place n → new i ≡ now i)
      → AreWritten place value n old now → AreWritten place value (n + 1) old new
  written-more n old now new apart put kept h = record {
    written = λ k l. elim (cases_lt k n) as (λ _. new (place k) ≡ value k) [
      | inl before ↦ kept (place k) (apart k before) ∙ h.written k before
      | inr after ↦ let is : n ≡ k = omega (arith, after, l) in subst (λ i. new (place i) ≡ value i) is put
    ];
    others = λ i other. kept i (other n (omega arith)) ∙ h.others i (λ k l. other k (omega (arith, l)));
  }

-- a run of m values behind the first n, in places one behind the other
pub run-more : {X : Type 0} (at n m : ℕ) (value run : ℕ → X) (old now new : ℕ → X) → ((c : ℕ) → c < m → run c ≡ value (n + c)) → AreWritten (λ k. at + n + k) run m now new
    → AreWritten (λ k. at + k) value n old now → AreWritten (λ k. at + k) value (n + m) old new
run-more at n m value run old now new same put h = record {
  written = λ k l. elim (cases_lt k n) as (λ _. new (at + k) ≡ value k) [
    | inl before ↦ put.others (at + k) (λ c b e. omega (arith, before, e)) ∙ h.written k before
    | inr after ↦
        let c : ℕ = k - n in
        let e : n + c ≡ k = omega (arith, after) in
        let b : c < m = omega (arith, e, l) in
        subst (λ i. new (at + i) ≡ value i) e (ap new (let t : at + (n + c) ≡ at + n + c = omega arith in t) ∙ put.written c b ∙ same c b)
  ];
  others = λ i apart. put.others i (λ c b e. apart (n + c) (omega (arith, b)) (e ∙ (let t : at + n + c ≡ at + (n + c) = omega arith in t))) ∙ h.others i (λ k l. apart k (omega (arith, l)));
}

-- one value more, in the place behind
pub next-written : {X : Type 0} (at n : ℕ) (value old now new : ℕ → X) → new (at + n) ≡ value n → ((i : ℕ) → i ≢ at + n → new i ≡ now i)
    → AreWritten (λ k. at + k) value n old now → AreWritten (λ k. at + k) value (n + 1) old new
next-written at n value old now new put kept h = written-more (λ k. at + k) value n old now new (λ k b e. omega (arith, b, e)) put kept h

-- what holds at each place before a run, and at each place of it, holds at each place before its end
pub below-run : (P : ℕ → Type 0) (from n : ℕ) → ((i : ℕ) → i < from → P i) → ((k : ℕ) → k < n → P (from + k)) → (i : ℕ) → i < from + n → P i
below-run P from n before here i l = elim (cases_lt i from) as (λ _. P i) [
  | inl b ↦ before i b
  | inr after ↦ let e : from + (i - from) ≡ i = omega (arith, after) in subst P e (here (i - from) (omega (arith, e, l)))
]

-- the same values in the same places, said otherwise
pub same-written : {X : Type 0} (place : ℕ → ℕ) (m n : ℕ) (run value old new : ℕ → X) → m ≡ n → ((k : ℕ) → k < n → run k ≡ value k) → AreWritten place run m old new → AreWritten place value n old new
same-written place m n run value old new count same h = record {
  written = λ k l. h.written k (omega (arith, l, count)) ∙ same k l;
  others = λ i apart. h.others i (λ k l. apart k (omega (arith, l, count)));
}

-- so of a run
pub same-run : {X : Type 0} (at m n : ℕ) (run value old new : ℕ → X) → m ≡ n → ((k : ℕ) → k < n → run k ≡ value k) → AreWritten (λ k. at + k) run m old new → AreWritten (λ k. at + k) value n old new
same-run at = same-written (λ k. at + k)
