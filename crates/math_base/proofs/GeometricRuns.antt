-- A run of calls, each of which gives the next power, gives a geometric progression.
use Rattle.std.proofs.Common.{◌≡◌, ℕ, suc, List, [], ◌∷◌, Option, None, Some, Result, Ok, Err, refl, sym, ap, subst, ◌∙◌}
use Rattle.std.specs.Iterator.{YieldsThen}
use Rattle.math_theory.specs.Laws.{IsEquality, IsProduct}
use Rattle.math_theory.specs.Powers.{power, power-suc}
use Rattle.math_base.specs.Progressions.{GivesPower, AreGeometric}

-- X is the type of the error
module _ {A S : Type 0} {same : A → A → Type 0} {product : A → A → A} (E : IsEquality same) (P : IsProduct same product) (one : A) (X : Type 0) (next_of : S → Option A) (base_of : S → A) where
  abbrev steps : S → Option (Result A X) → S → Type 0
  steps s r t = GivesPower {E = X} same product (base_of s) (next_of s) r (next_of t) × (base_of t ≡ base_of s)

  -- an item that is given is the next power, and leaves its product with the base
  given : (b c x : A) (after : Option A) → GivesPower {E = X} same product b (Some c) (Some (Ok x)) after → same x c × ((d : A) × (after ≡ Some d) × same d (product c b))
  given b c x None h = absurd h
  given b c x (Some d) h = (h.0, (d, refl, h.1))

  over : (b : A) (after : Option A) (items : List (Result A X)) (last : Option (Result A X)) (x : Option (Result A X)) → GivesPower {E = X} same product b None x after → x ≡ None
  over b after items last None h = refl
  over b after items last (Some x) h = absurd h

  ended : (s : S) → next_of s ≡ None → (items : List (Result A X)) (last : Option (Result A X)) (rest : S) → YieldsThen steps s items last rest → (items ≡ []) × (last ≡ None)
  ended s e [] last rest run =
      (refl, over (base_of run.0) (next_of rest) [] last last (subst (λ (n : Option A). GivesPower {E = X} same product (base_of run.0) n last (next_of rest)) (ap next_of (sym run.1) ∙ e) run.2.0))
  ended s e (x ∷ items) last rest run =
      let none : Some x ≡ None = over (base_of s) (next_of run.1.0) items last (Some x)
      (subst (λ (n : Option A). GivesPower {E = X} same product (base_of s) n (Some x) (next_of run.1.0)) e run.1.1.0) in
      absurd (cc none)

  -- the last of a run, where there is a next power
  last_term : (shift base c : A) (i : ℕ) (after : Option A) (last : Option (Result A X)) → same c (product shift (power one product base i))
      → GivesPower {E = X} same product base (Some c) last after → AreGeometric same product one shift base i [] last
  last_term shift base c i after None h k = absurd k
  last_term shift base c i after (Some (Err e)) h k = tt
  last_term shift base c i after (Some (Ok x)) h k = E.transitive _ _ _ (given base c x after k).0 h

  next_term : (shift base c d : A) (i : ℕ) → same c (product shift (power one product base i)) → same d (product c base) → same d (product shift (power one product base (suc i)))
  next_term shift base c d i h k =
      rw (power-suc one product base i) (E.transitive _ _ _ k (E.transitive _ _ _ (P.respects _ _ _ _ h (E.reflexive base)) (P.associative shift (power one product base i) base)))

  pub geometric : (shift base : A) (i : ℕ) (s : S) (c : A) → next_of s ≡ Some c → base_of s ≡ base → same c (product shift (power one product base i))
      → (items : List (Result A X)) (last : Option (Result A X)) (rest : S) → YieldsThen steps s items last rest → AreGeometric same product one shift base i items last
  geometric shift base i s c e f h [] last rest run =
      let here : GivesPower {E = X} same product base (Some c) last (next_of rest)
      = subst (λ (n : Option A). GivesPower {E = X} same product base n last (next_of rest)) (ap next_of (sym run.1) ∙ e)
      (subst (λ (b : A). GivesPower {E = X} same product b (next_of run.0) last (next_of rest)) (ap base_of (sym run.1) ∙ f) run.2.0) in
      last_term shift base c i (next_of rest) last h here
  geometric shift base i s c e f h (Err x ∷ items) last rest run =
      let refused : next_of run.1.0 ≡ None = subst (λ (n : Option A). GivesPower {E = X} same product (base_of s) n (Some (Err x)) (next_of run.1.0)) e run.1.1.0 in
      ended run.1.0 refused items last rest (run.0, run.1.2, run.2)
  geometric shift base i s c e f h (Ok x ∷ items) last rest run =
      let here : GivesPower {E = X} same product base (Some c) (Some (Ok x)) (next_of run.1.0)
      = subst (λ (n : Option A). GivesPower {E = X} same product base n (Some (Ok x)) (next_of run.1.0)) e
      (subst (λ (b : A). GivesPower {E = X} same product b (next_of s) (Some (Ok x)) (next_of run.1.0)) f run.1.1.0) in
      let g = given base c x (next_of run.1.0) here in (
        E.transitive _ _ _ g.0 h,
        geometric shift base (suc i) run.1.0 g.1.0 g.1.1 (run.1.1.1 ∙ f) (next_term shift base c g.1.0 i h g.1.2) items last rest (run.0, run.1.2, run.2),
      )
