-- Items of a geometric progression that come one by one, and the first n of them.
use Rattle.std.proofs.Common.{◌≡◌, ℕ, zero, suc, ◌+◌, ◌<◌, List, [], ◌∷◌, ◌++◌, Option, None, Some, Result, Ok, length, map, sym, ap, subst, arith, add-one}
use Rattle.std.proofs.lemmas.List.{length-map}
use Rattle.std.specs.List.{AllZip}
use Rattle.std.specs.Iterator.{Yields, YieldsThen}
use Rattle.std.specs.Iterator.Adapters.{take_source, take_count, take_steps}
use Rattle.std.specs.declared.alloc.AllocError.{AllocError}
use Rattle.std.specs.declared.iter.Take.{Take}
use Rattle.math_theory.specs.Powers.{powers_from}
use Rattle.math_theory.specs.Domains.{coset}
use Rattle.math_base.proofs.TakenItems.{take-yields}
use Rattle.math_base.specs.Progressions.{GivesPower, AreGeometric}
use Rattle.math_base.specs.declared.algebra.Powers.{Powers}

-- one call of an iterator of powers
abbrev pub gives_power : {A : Type 0} → (A → A → Type 0) → (A → A → A) → Powers A → Option (Result A AllocError) → Powers A → Type 0
gives_power same product s r t = GivesPower same product s.base.now s.next_power r t.next_power × (t.base.now ≡ s.base.now)

-- X is the type of the error
module _ {A : Type 0} (X : Type 0) (same : A → A → Type 0) (product : A → A → A) (one shift base : A) where
  items_from : (i : ℕ) (xs : List A) (x : A) → AreGeometric {E = X} same product one shift base i (map Ok xs) (Some (Ok x))
      → AllZip same (xs ++ (x ∷ [])) (map (product shift) (powers_from one product base i (length (xs ++ (x ∷ [])))))
  items_from i [] x h = (h, tt)
  items_from i (y ∷ xs) x h =
      (h.0, subst (λ (j : ℕ). AllZip same (xs ++ (x ∷ [])) (map (product shift) (powers_from one product base j (length (xs ++ (x ∷ [])))))) (sym (add-one i)) (items_from (suc i) xs x h.1))

  -- no progression ends after items that were not refused
  pub items-endless : (i : ℕ) (xs : List A) → AreGeometric {E = X} same product one shift base i (map Ok xs) None → ⊥
  items-endless i [] h = h
  items-endless i (y ∷ xs) h = items-endless (suc i) xs h.1

  none_left : (n : ℕ) {m : ℕ} (out : List A) → (0 < n → ⊥) → length out + n ≡ m → length out ≡ m
  none_left zero out h e = omega arith
  none_left (suc n) out h e = absurd (h (omega arith))

  module _ {S : Type 0} (steps : S → Option (Result A X) → S → Type 0) (start : S)
      (geometric : (items : List (Result A X)) (last : Option (Result A X)) (rest : S) → YieldsThen steps start items last rest → AreGeometric {E = X} same product one shift base 0 items last) where
    -- the items that came, and the next one, are the first of the progression
    pub taken_items : (s it it' : Take S) (yielded : List (Result A X)) (out : List A) (r : Option (Result A X)) (x : A) → take_source s ≡ start
        → Yields (take_steps steps) s yielded it → map Ok out ≡ yielded → r ≡ Some (Ok x) → take_steps steps it r it'
        → AllZip same (out ++ (x ∷ [])) (coset one product shift base (length (out ++ (x ∷ []))))
    taken_items s it it' yielded out r x b h e f step =
        let run : Yields steps start (map Ok out) (take_source it) = rw (e, ← b) (take-yields steps s it yielded h).0 in
        let last : steps (take_source it) (Some (Ok x)) (take_source it') = (subst (λ o. take_steps steps it o it') f step).0 in
        items_from 0 out x (geometric (map Ok out) (Some (Ok x)) (take_source it') (take_source it, run, last))

    -- where the first n items have come to an end, n have come
    pub taken_count : (s it it' : Take S) (yielded : List (Result A X)) (out : List A) (r : Option (Result A X)) → take_source s ≡ start
        → Yields (take_steps steps) s yielded it → map Ok out ≡ yielded → r ≡ None → take_steps steps it r it' → length out ≡ take_count s
    taken_count s it it' yielded out r b h e f step =
        let run : Yields steps start (map Ok out) (take_source it) = rw (e, ← b) (take-yields steps s it yielded h).0 in
        let count : length out + take_count it ≡ take_count s = omega (arith, (take-yields steps s it yielded h).1, simp length-map at (ap length e)) in
        let ended : 0 < take_count it → steps (take_source it) None (take_source it') = subst (λ o. take_steps steps it o it') f step in
        none_left (take_count it) out (λ more. items-endless 0 out (geometric (map Ok out) None (take_source it') (take_source it, run, ended more))) count
