-- The loops by which quotients with one inversion are made: products before and after each place, and the quotients.
use Rattle.std.proofs.Common.{◌≡◌, ◌≢◌, inl, inr, ℕ, suc, ◌+◌, ◌-◌, ◌<◌, ◌≤◌, List, [], length, take, drop, get_or, refl, sym, ◌∙◌, arith}
use Rattle.std.proofs.Math.ListN.{set, drop_of_length-le}
use Rattle.std.proofs.lemmas.Bool.{cases_eq}
use Rattle.std.proofs.lemmas.Grind.{get_or-set_at}
use Rattle.std.proofs.lemmas.List.{get_or_default, get_or-set_other}
use Rattle.std.specs.List.{All}
use Rattle.math_theory.specs.Laws.{IsEquality, IsGroup, IsProduct, IsRing, IsField}
use Rattle.math_theory.specs.Sums.{total}
use Rattle.math_theory.proofs.interpolation.SharedInverse.{product-take_more, product-drop, quotient-times, quotient-of_zero}

module _ {A : Type 0} {same : A → A → Type 0} {zero_of : A} {sum : A → A → A} {negative : A → A} {product : A → A → A} {one : A}
    (E : IsEquality same) (G : IsGroup same zero_of sum negative) (P : IsProduct same product) (R : IsRing same sum product one) where
  abbrev all : List A → A
  all fs = total one product fs

  -- the product of the factors before the next place
  pub before-next : (out new f : A) (fs : List A) (i : ℕ) → i < length fs → f ≡ get_or fs i f → same out (all (take i fs)) → same new (product out f) → same new (all (take (i + 1) fs))
  before-next out new f fs i l e h n =
      let e' : get_or fs i f ≡ f = sym e in
      E.transitive _ _ _ n
      (E.transitive _ _ _ (P.respects _ _ _ _ h (E.reflexive f)) (E.symmetric _ _ (rw e' at (product-take_more E G P R fs i f l))))

  -- at first no factor follows
  pub after-none : (start : A) (fs : List A) (n : ℕ) → length fs ≤ n → same start (product start (all (drop n fs)))
  after-none start fs n l =
      let e : drop n fs ≡ [] = drop_of_length-le fs l in
      rw e (E.symmetric _ _ (E.transitive _ _ _ (P.commutative start one) (R.identity start)))

  -- one factor more follows
  pub after-next : (start out new f : A) (fs : List A) (i : ℕ) → 0 < i → i ≤ length fs → f ≡ get_or fs (i - 1) f → same out (product start (all (drop i fs))) → same new (product out f)
      → same new (product start (all (drop (i - 1) fs)))
  after-next start out new f fs i p l e h n =
      let next : suc (i - 1) ≡ i = omega arith in
      let e' : get_or fs (i - 1) f ≡ f = sym e in
      let split : all (drop (i - 1) fs) ≡ product f (all (drop i fs)) = rw (e', next) at (product-drop E G P R fs (i - 1) f (omega arith)) in
      rw split
      (E.transitive _ _ _ n
      (E.transitive _ _ _ (P.respects _ _ _ _ h (E.reflexive f))
      (E.transitive _ _ _ (P.associative start (all (drop i fs)) f) (P.respects _ _ _ _ (E.reflexive start) (P.commutative (all (drop i fs)) f)))))

  -- one item more is multiplied
  pub done-next : (start after item new : A) (initial items fs : List A) (i : ℕ) → 0 < i → i ≤ length items → same after (product start (all (drop i fs)))
      → same new (product (get_or items (i - 1) item) after)
      → ((k : ℕ) → k < i → get_or items k zero_of ≡ get_or initial k zero_of)
      → ((k : ℕ) → i ≤ k → k < length fs → same (get_or items k zero_of) (product (get_or initial k zero_of) (product start (all (drop (suc k) fs)))))
      → (k : ℕ) → i - 1 ≤ k → k < length fs → same (get_or (set items (i - 1) new) k zero_of) (product (get_or initial k zero_of) (product start (all (drop (suc k) fs))))
  done-next start after item new initial items fs i p l h n before done k m b =
      elim (cases_eq k (i - 1)) [
        | inl o ↦
            let next : suc (i - 1) ≡ i = omega arith in
            let here : get_or items (i - 1) item ≡ get_or initial (i - 1) zero_of = get_or_default items (i - 1) item zero_of (omega arith) ∙ before (i - 1) (omega arith) in
            rw (o, get_or-set_at items (i - 1) (i - 1) new zero_of refl (omega arith), next, ← here)
            (E.transitive _ _ _ n (P.respects _ _ _ _ (E.reflexive (get_or items (i - 1) item)) h))
        | inr o ↦ rw (get_or-set_other items (i - 1) k new zero_of o) (done k (omega (arith, o)) b)
      ]

  -- an item before is as it was
  pub before-kept : (new : A) (initial items : List A) (i : ℕ) → ((k : ℕ) → k < i → get_or items k zero_of ≡ get_or initial k zero_of) → (k : ℕ) → k < i - 1
      → get_or (set items (i - 1) new) k zero_of ≡ get_or initial k zero_of
  before-kept new initial items i before k l = let o : k ≢ i - 1 = omega arith in get_or-set_other items (i - 1) k new zero_of o ∙ before k (omega arith)

  module _ {inverse : A → A} (F : IsField same zero_of product one inverse) where
    factor-is : (whole inverted factor numerator : A) (ds : List A) → same whole (all ds) → same inverted (inverse whole) → same factor (product inverted numerator)
        → same factor (product (inverse (all ds)) numerator)
    factor-is whole inverted factor numerator ds w i f = E.transitive _ _ _ f (P.respects _ _ _ _ (E.transitive _ _ _ i (F.respects _ _ w)) (E.reflexive numerator))

    module _ (whole inverted factor numerator : A) (ds old new : List A) (w : same whole (all ds)) (i : same inverted (inverse whole)) (f : same factor (product inverted numerator))
        (before : (k : ℕ) → k < length ds → same (get_or old k zero_of) (all (take k ds)))
        (after : (k : ℕ) → k < length ds → same (get_or new k zero_of) (product (get_or old k zero_of) (product factor (all (drop (suc k) ds))))) where
      joined : (k : ℕ) → k < length ds → same (get_or new k zero_of) (product (all (take k ds)) (product factor (all (drop (suc k) ds))))
      joined k l = E.transitive _ _ _ (after k l) (P.respects _ _ _ _ (before k l) (E.reflexive (product factor (all (drop (suc k) ds)))))

      pub quotients-times : All (λ d. ¬ (same d zero_of)) ds → (k : ℕ) → k < length ds → same (product (get_or new k zero_of) (get_or ds k zero_of)) numerator
      quotients-times h k l = quotient-times E G P R F factor numerator ds k zero_of (get_or new k zero_of) h l (factor-is whole inverted factor numerator ds w i f) (joined k l)

      pub quotients-zero : length new ≡ length ds → (k : ℕ) → k < length ds → same (get_or ds k zero_of) zero_of → All (λ v. same v zero_of) new
      quotients-zero n k l z j d m =
          let e : get_or new j zero_of ≡ get_or new j d = get_or_default new j zero_of d m in
          rw (← e) (quotient-of_zero E G P R F factor numerator ds j k zero_of (get_or new j zero_of) l z (factor-is whole inverted factor numerator ds w i f) (joined j (omega (arith, m, n))))
