-- The loop that adds the terms of a geometric progression to some sums in turn.
use Rattle.std.proofs.Common.{◌≡◌, ℕ, suc, ◌+◌, ◌<◌, ◌≤◌, List, [], ◌∷◌, ◌++◌, Option, None, Some, Result, Ok, length, map, refl, sym, ap, ◌∙◌, subst, arith, add-one}
use Rattle.std.proofs.lemmas.List.{map-append, append_assoc, length-append, append-nil}
use Rattle.std.proofs.Math.ListN.{set, get_or}
use Rattle.std.proofs.Math.Seq.{set-append_seam, get_or-append_seam}
use Rattle.std.proofs.iter.Next.{Yields-more}
use Rattle.std.specs.List.{zip}
use Rattle.std.specs.Iterator.{Yields, YieldsThen}
use Rattle.math_theory.specs.Laws.{IsEquality, IsGroup}
use Rattle.math_theory.specs.Powers.{powers_from}
use Rattle.math_theory.specs.Domains.{coset}
use Rattle.math_theory.proofs.polynomials.WeightedPowers.{AreSums}
use Rattle.math_base.specs.Progressions.{AreGeometric}
use Rattle.math_poly.proofs.GeometricItems.{items-endless}

-- i terms came, and were added to the first i sums, which are `done`; the others are as they were
pub record TermsAdded {A X S : Type 0} (same : A → A → Type 0) (sum : A → A → A) (product : A → A → A) (one shift base : A) (steps : S → Option (Result A X) → S → Type 0)
    (start terms : S) (initial sums : List A) (i : ℕ) : Type 0 where
  pub before : List A
  pub done : List A
  pub todo : List A
  pub given : List A
  pub initial_is : initial ≡ before ++ todo
  pub sums_is : sums ≡ done ++ todo
  pub before_count : length before ≡ i
  pub done_count : length done ≡ i
  pub given_count : length given ≡ i
  pub run : Yields steps start (map Ok given) terms
  pub added : AreSums same sum (zip before (coset one product shift base (length before))) done

module _ {A X S : Type 0} {same : A → A → Type 0} {zero : A} {sum : A → A → A} {negative : A → A} (E : IsEquality same) (G : IsGroup same zero sum negative)
    (product : A → A → A) (one shift base : A) (steps : S → Option (Result A X) → S → Type 0) (start : S)
    (geometric : (items : List (Result A X)) (last : Option (Result A X)) (rest : S) → YieldsThen steps start items last rest → AreGeometric {E = X} same product one shift base 0 items last) where
  added_from : (i : ℕ) (before done given : List A) (x v t : A) → length given ≡ length before
      → AreSums same sum (zip before (map (product shift) (powers_from one product base i (length before)))) done
      → AreGeometric {E = X} same product one shift base i (map Ok given) (Some (Ok t)) → same v (sum x t)
      → AreSums same sum (zip (before ++ (x ∷ [])) (map (product shift) (powers_from one product base i (length (before ++ (x ∷ [])))))) (done ++ (v ∷ []))
  added_from i [] [] [] x v t n h k e = (E.transitive _ _ _ e (G.respects_sum _ _ _ _ (E.reflexive x) k), tt)
  added_from i [] (d ∷ done) given x v t n h k e = absurd h
  added_from i [] [] (g ∷ given) x v t n h k e = absurd (omega arith)
  added_from i (b ∷ before) [] given x v t n h k e = absurd h
  added_from i (b ∷ before) (d ∷ done) [] x v t n h k e = absurd (omega arith)
  added_from i (b ∷ before) (d ∷ done) (g ∷ given) x v t n h k e =
      let later = subst (λ (j : ℕ). AreSums same sum (zip before (map (product shift) (powers_from one product base j (length before)))) done) (add-one i) h.1 in (
        h.0,
        subst (λ (j : ℕ). AreSums same sum (zip (before ++ (x ∷ [])) (map (product shift) (powers_from one product base j (length (before ++ (x ∷ [])))))) (done ++ (v ∷ []))) (sym (add-one i))
            (added_from (suc i) before done given x v t (omega arith) later k.1 e),
      )

  abbrev Added : S → List A → List A → ℕ → Type 0
  Added terms initial sums i = TermsAdded same sum product one shift base steps start terms initial sums i

  split_at : (initial sums : List A) (i : ℕ) (d : A) (terms : S) (a : Added terms initial sums i) → i < length sums → (todo : List A) → a.todo ≡ todo
      → (x : A) × (rest : List A) × (todo ≡ x ∷ rest)
  split_at initial sums i d terms a h [] e = absurd (omega (arith, a.done_count, simp length-append at (ap length (a.sums_is ∙ ap (λ k. a.done ++ k) e))))
  split_at initial sums i d terms a h (x ∷ rest) e = (x, rest, refl)

  all_done : (todo : List A) → length todo ≡ 0 → todo ≡ []
  all_done [] h = refl
  all_done (x ∷ todo) h = absurd (omega arith)

  -- before the first
  pub added-none : (initial : List A) → Added start initial initial 0
  added-none initial = record {
    before = [];
    done = [];
    todo = initial;
    given = [];
    initial_is = refl;
    sums_is = refl;
    before_count = refl;
    done_count = refl;
    given_count = refl;
    run = refl;
    added = tt;
  }

  -- one term more
  pub added-more : (terms terms' : S) (initial sums sums' : List A) (i : ℕ) (r : Option (Result A X)) (d t v : A) → Added terms initial sums i → i < length sums
      → steps terms r terms' → r ≡ Some (Ok t) → same v (sum (get_or sums i d) t) → sums' ≡ set sums i v → Added terms' initial sums' (i + 1)
  added-more terms terms' initial sums sums' i r d t v a h step e k f =
      let p = split_at initial sums i d terms a h a.todo refl in
      let x = p.0 in
      let rest = p.1 in
      let step' : steps terms (Some (Ok t)) terms' = subst (λ o. steps terms o terms') e step in
      let sums_are : sums ≡ a.done ++ (x ∷ rest) = a.sums_is ∙ ap (λ l. a.done ++ l) p.2 in
      let at : i ≡ length a.done = sym a.done_count in
      let here : get_or sums i d ≡ x = ap (λ l. get_or l i d) sums_are ∙ ap (λ n. get_or (a.done ++ (x ∷ rest)) n d) at ∙ get_or-append_seam a.done x rest d in
      record {
        before = a.before ++ (x ∷ []);
        done = a.done ++ (v ∷ []);
        todo = rest;
        given = a.given ++ (t ∷ []);
        initial_is = a.initial_is ∙ ap (λ l. a.before ++ l) p.2 ∙ sym (append_assoc a.before (x ∷ []) rest);
        sums_is = f ∙ ap (λ l. set l i v) sums_are ∙ ap (λ n. set (a.done ++ (x ∷ rest)) n v) at ∙ set-append_seam a.done x rest v ∙ sym (append_assoc a.done (v ∷ []) rest);
        before_count = omega (arith, length-append a.before (x ∷ []), a.before_count);
        done_count = omega (arith, length-append a.done (v ∷ []), a.done_count);
        given_count = omega (arith, length-append a.given (t ∷ []), a.given_count);
        run = rw map-append (Yields-more steps start (map Ok a.given) terms (Ok t) terms' a.run step');
        added = added_from 0 a.before a.done a.given x v t (omega (arith, a.before_count, a.given_count)) a.added
            (geometric (map Ok a.given) (Some (Ok t)) terms' (terms, a.run, step')) (subst (λ y. same v (sum y t)) here k);
      }

  -- a term comes each time
  pub added-endless : (terms terms' : S) (initial sums : List A) (i : ℕ) (r : Option (Result A X)) → Added terms initial sums i → steps terms r terms' → r ≡ None → ⊥
  added-endless terms terms' initial sums i r a step e =
      items-endless X same product one shift base 0 a.given (geometric (map Ok a.given) None terms' (terms, a.run, subst (λ o. steps terms o terms') e step))

  -- at the end each sum has its term
  pub added-all : (terms : S) (initial sums : List A) (i : ℕ) → Added terms initial sums i → length sums ≤ i → AreSums same sum (zip initial (coset one product shift base (length initial))) sums
  added-all terms initial sums i a h =
      let none : a.todo ≡ [] = all_done a.todo (omega (arith, a.done_count, simp length-append at (ap length a.sums_is))) in
      let first : initial ≡ a.before = a.initial_is ∙ ap (λ l. a.before ++ l) none ∙ append-nil a.before in
      let last : sums ≡ a.done = a.sums_is ∙ ap (λ l. a.done ++ l) none ∙ append-nil a.done in
      subst (λ l. AreSums same sum (zip l (coset one product shift base (length l))) sums) (sym first)
      (subst (λ l. AreSums same sum (zip a.before (coset one product shift base (length a.before))) l) (sym last) a.added)
