-- Columns that are combined and turned, and then some more.
use Rattle.std.proofs.Common.{◌∙◌, inl, inr, ℕ, ◌+◌, ◌*◌, ◌≤◌, Bool, List, slice_index_or, refl, arith}
use Rattle.std.proofs.lemmas.Bool.{cases_lt}
use Rattle.math_base.specs.Members.{RingOf}
use Rattle.math_base.specs.Columns.{AreColumnsCombined, AreColumnsTurned, AreCombinedBelow, AreTurnedBelow, IsCombined, IsTurned}

module _ {A : Type 0} (R : RingOf A) (forward : Bool) (c : ℕ) where
  abbrev at : List A → ℕ → A
  at xs i = slice_index_or xs i R.zero

  pub no_column_combined : (w : A) (xs : List A) → AreCombinedBelow R forward w c 0 xs xs
  no_column_combined w xs = record { combined = λ p l. absurd (omega arith); kept = λ p l m. (refl, refl) }

  pub columns_combined : (w : A) (n m : ℕ) (old mid new : List A) → n + m ≤ c → AreCombinedBelow R forward w c n old mid → AreColumnsCombined R forward w c n m mid new
      → AreCombinedBelow R forward w c (n + m) old new
  columns_combined w n m old mid new l h k = record {
    combined = λ p b. elim (cases_lt p n) as (λ _. IsCombined R forward w (at old p) (at old (c + p)) (at new p) (at new (c + p))) [
      | inl before ↦ let e = k.before p before in rw (e.0, e.1) (h.combined p before)
      | inr past ↦ let e = h.kept p (omega (arith, past)) (omega arith) in rw (← e.0, ← e.1) (k.combined p (omega (arith, past)) b)
    ];
    kept = λ p b s.
        let e = k.behind p b s in
        let d = h.kept p (omega arith) s in
        (e.0 ∙ d.0, e.1 ∙ d.1);
  }

  pub no_column_turned : (e f g : A) (xs : List A) → AreTurnedBelow R forward e f g c 0 xs xs
  no_column_turned e f g xs = record { turned = λ p l. absurd (omega arith); kept = λ p l m. (refl, refl, refl, refl) }

  pub columns_turned : (e f g : A) (n m : ℕ) (old mid new : List A) → n + m ≤ c → AreTurnedBelow R forward e f g c n old mid → AreColumnsTurned R forward e f g c n m mid new
      → AreTurnedBelow R forward e f g c (n + m) old new
  columns_turned e f g n m old mid new l h k = record {
    turned = λ p b. elim (cases_lt p n)
        as (λ _. IsTurned R forward e f g (at old p) (at old (c + p)) (at old (2 * c + p)) (at old (3 * c + p)) (at new p) (at new (c + p)) (at new (2 * c + p)) (at new (3 * c + p))) [
          | inl before ↦ let q = k.before p before in rw (q.0, q.1, q.2, q.3) (h.turned p before)
          | inr past ↦ let q = h.kept p (omega (arith, past)) (omega arith) in rw (← q.0, ← q.1, ← q.2, ← q.3) (k.turned p (omega (arith, past)) b)
        ];
    kept = λ p b s.
        let q = k.behind p b s in
        let d = h.kept p (omega arith) s in
        (q.0 ∙ d.0, q.1 ∙ d.1, q.2 ∙ d.2, q.3 ∙ d.3);
  }
