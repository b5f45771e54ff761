-- A run of calls, each of which gives the generator of the next index, gives the generators in order.
use Rattle.std.proofs.Common.{◌≡◌, ◌<◌, ◌+◌, ◌^◌, ◌⊎◌, inl, inr, ℕ, List, [], ◌∷◌, Option, None, Some, Result, Ok, Err, refl, sym, ap, subst, ◌∙◌, arith}
use Rattle.std.proofs.lemmas.Bool.{cases_lt}
use Rattle.std.specs.Iterator.{YieldsThen}
use Rattle.commonware_math.specs.SyntheticGenerators.{GivesGenerator, IsNextIndex, AreGenerators}

-- X is the type of the error
module _ {C S : Type 0} (X : Type 0) (is_generator : ℕ → C → Type 0) (next_of : S → Option ℕ) where
  abbrev gives : Option ℕ → Option (Result C X) → Option ℕ → Type 0
  gives before r after = GivesGenerator {E = X} is_generator before r after

  abbrev steps : S → Option (Result C X) → S → Type 0
  steps s r t = gives (next_of s) r (next_of t)

  -- i is the next index, or there is none and i is the first that has more than 32 bits
  abbrev IsNext : ℕ → Option ℕ → Type 0
  IsNext i next = ((i < 2 ^ 32) × (next ≡ Some i)) ⊎ ((i ≡ 2 ^ 32) × (next ≡ None))

  next_after : (i : ℕ) (next : Option ℕ) → i < 2 ^ 32 → IsNextIndex i next → IsNext (i + 1) next
  next_after i next l h = elim (cases_lt (i + 1) (2 ^ 32)) [ inl m ↦ inl (m, h.some m) | inr m ↦ let e : i + 1 ≡ 2 ^ 32 = omega arith in inr (e, h.none e) ]

  ended : (s : S) → next_of s ≡ None → (items : List (Result C X)) (last : Option (Result C X)) (rest : S) → YieldsThen steps s items last rest → (items ≡ []) × (last ≡ None)
  ended s e [] last rest run = (refl, (subst (λ (n : Option ℕ). gives n last (next_of rest)) (ap next_of (sym run.1) ∙ e) run.2).0)
  ended s e (x ∷ items) last rest run =
      let none : Some x ≡ None = (subst (λ (n : Option ℕ). gives n (Some x) (next_of run.1.0)) e run.1.1).0 in
      absurd (cc none)

  last_given : (i : ℕ) (last : Option (Result C X)) (after : Option ℕ) → i < 2 ^ 32 → gives (Some i) last after → AreGenerators is_generator i [] last
  last_given i None after l h = absurd h
  last_given i (Some (Ok c)) after l h = (l, h.0)
  last_given i (Some (Err e)) after l h = (l, tt)

  last_none : (i : ℕ) (last : Option (Result C X)) → i ≡ 2 ^ 32 → last ≡ None → AreGenerators is_generator i [] last
  last_none i last e f = rw f e

  pub generators_in_order : (i : ℕ) (s : S) → IsNext i (next_of s) → (items : List (Result C X)) (last : Option (Result C X)) (rest : S) → YieldsThen steps s items last rest
      → AreGenerators is_generator i items last
  generators_in_order i s (inl h) [] last rest run =
      last_given i last (next_of rest) h.0 (subst (λ (n : Option ℕ). gives n last (next_of rest)) (ap next_of (sym run.1) ∙ h.1) run.2)
  generators_in_order i s (inl h) (Ok c ∷ items) last rest run =
      let here = subst (λ (n : Option ℕ). gives n (Some (Ok c)) (next_of run.1.0)) h.1 run.1.1 in
      (here.0, generators_in_order (i + 1) run.1.0 (next_after i (next_of run.1.0) h.0 here.1) items last rest (run.0, run.1.2, run.2))
  generators_in_order i s (inl h) (Err e ∷ items) last rest run =
      let here : next_of run.1.0 ≡ None = subst (λ (n : Option ℕ). gives n (Some (Err e)) (next_of run.1.0)) h.1 run.1.1 in
      ended run.1.0 here items last rest (run.0, run.1.2, run.2)
  generators_in_order i s (inr h) [] last rest run = last_none i last h.0 (ended s h.1 [] last rest run).1
  generators_in_order i s (inr h) (x ∷ items) last rest run = let none = (ended s h.1 (x ∷ items) last rest run).0 in absurd (cc none)
