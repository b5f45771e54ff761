-- Values at some points: weights give those at the further points from those at the first t, where all are the values of one polynomial of t coefficients.
use Rattle.std.proofs.Common.{◌≡◌, ◌∙◌, ℕ, zero, suc, ◌+◌, ◌-◌, ◌<◌, ◌≤◌, inl, inr, List, [], ◌∷◌, length, map, take, drop, get_or, refl, sym, ap, subst, arith}
use Rattle.std.specs.List.{AllZip}
use Rattle.std.proofs.lemmas.Bool.{cases_lt}
use Rattle.std.proofs.lemmas.List.{get_or-drop, length-take-le, length-drop}
use Rattle.math_theory.specs.Interpolation.{AreApart}
use Rattle.math_theory.specs.Laws.{IsEquality, IsGroup, IsProduct, IsRing, IsField}
use Rattle.math_theory.specs.Sums.{weighted_sum}
use Rattle.math_theory.proofs.decoding.CarriedDecoding.{decoding_once-same}
use Rattle.math_base.specs.Members.{RingOf}
use Rattle.math_base.specs.Polynomials.{AreWeightsAt, value_in_ring}
use Rattle.math_decoding.specs.Decodings.{IsDecoded}

-- what is related place by place
pub zip-at : {A B : Type 0} (related : A → B → Type 0) (xs : List A) (ys : List B) (k : ℕ) (d : A) (e : B) → AllZip related xs ys → k < length xs → related (get_or xs k d) (get_or ys k e)
zip-at related [] ys k d e h l = absurd (omega (arith, l))
zip-at related (x ∷ xs) [] k d e h l = absurd h
zip-at related (x ∷ xs) (y ∷ ys) zero d e h l = h.0
zip-at related (x ∷ xs) (y ∷ ys) (suc k) d e h l = zip-at related xs ys k d e h.1 (omega (arith, l))

pub zip-item : {A B : Type 0} (related : A → B → Type 0) (xs : List A) (ys : List B) (k : ℕ) (d : A) → AllZip related xs ys → k < length xs
    → (y : B) × related (get_or xs k d) y × (get_or ys k y ≡ y)
zip-item related [] ys k d h l = absurd (omega (arith, l))
zip-item related (x ∷ xs) [] k d h l = absurd h
zip-item related (x ∷ xs) (y ∷ ys) zero d h l = (y, h.0, refl)
zip-item related (x ∷ xs) (y ∷ ys) (suc k) d h l = zip-item related xs ys k d h.1 (omega (arith, l))

pub zip-count : {A B : Type 0} (related : A → B → Type 0) (xs : List A) (ys : List B) → AllZip related xs ys → length xs ≡ length ys
zip-count related [] [] h = refl
zip-count related [] (y ∷ ys) h = absurd h
zip-count related (x ∷ xs) [] h = absurd h
zip-count related (x ∷ xs) (y ∷ ys) h = ap suc (zip-count related xs ys h.1)

module _ {A : Type 0} (R : RingOf A) (E : IsEquality R.same) (G : IsGroup R.same R.zero R.sum R.negative) (P : IsProduct R.same R.product) where
  -- the sum of the values, each times its weight
  abbrev pub weighed : List A → List A → A
  weighed vs w = weighted_sum R.zero R.sum R.product vs w

  pub weighed-alike : (vs us w : List A) → AllZip R.same vs us → R.same (weighed vs w) (weighed us w)
  weighed-alike [] [] w h = E.reflexive _
  weighed-alike [] (u ∷ us) w h = absurd h
  weighed-alike (v ∷ vs) [] w h = absurd h
  weighed-alike (v ∷ vs) (u ∷ us) [] h = E.reflexive _
  weighed-alike (v ∷ vs) (u ∷ us) (x ∷ w) h = G.respects_sum _ _ _ _ (P.respects _ _ _ _ h.0 (E.reflexive x)) (weighed-alike vs us w h.1)

  first-values : (f : A → A) (t : ℕ) (xs vs : List A) → t ≤ length xs → length vs ≡ length xs → ((i : ℕ) → i < t → R.same (f (get_or xs i R.zero)) (get_or vs i R.zero))
      → AllZip R.same (take t vs) (map f (take t xs))
  first-values f zero xs vs l e h = tt
  first-values f (suc t) [] vs l e h = absurd (omega (arith, l))
  first-values f (suc t) (x ∷ xs) [] l e h = absurd (omega (arith, e))
  first-values f (suc t) (x ∷ xs) (v ∷ vs) l e h =
      (E.symmetric _ _ (h 0 (omega arith)), first-values f t xs vs (omega (arith, l)) (omega (arith, e)) (λ i m. h (suc i) (omega (arith, m))))

  module _ (t : ℕ) (xs vs : List A) (enough : t ≤ length xs) (count : length vs ≡ length xs) where
    -- weights for x give the value at x of a polynomial that has the first t values
    pub weighed-value : (q : List A) (x : A) (w : List A) → length q ≤ t → ((i : ℕ) → i < t → R.same (value_in_ring R q (get_or xs i R.zero)) (get_or vs i R.zero))
        → AreWeightsAt R x (take t xs) w → R.same (weighed (take t vs) w) (value_in_ring R q x)
    weighed-value q x w short h W =
        E.transitive _ _ _ (weighed-alike (take t vs) (map (λ p. value_in_ring R q p) (take t xs)) w (first-values (λ p. value_in_ring R q p) t xs vs enough count h))
        (W.give q (omega (arith, short, length-take-le t xs enough)))

    -- what the weights give of value k, beyond the first t, is that value, where q has all values
    pub weighed-further : (q : List A) (k : ℕ) (w : List A) → length q ≤ t → ((i : ℕ) → i < length xs → R.same (value_in_ring R q (get_or xs i R.zero)) (get_or vs i R.zero))
        → k < length (drop t xs) → AreWeightsAt R (get_or (drop t xs) k R.zero) (take t xs) w → R.same (weighed (take t vs) w) (get_or (drop t vs) k R.zero)
    weighed-further q k w short h l W =
        let at : get_or (drop t xs) k R.zero ≡ get_or xs (t + k) R.zero = get_or-drop t xs k R.zero in
        let there : get_or (drop t vs) k R.zero ≡ get_or vs (t + k) R.zero = get_or-drop t vs k R.zero in
        let below : t + k < length xs = omega (arith, l, enough, length-drop t xs) in
        E.transitive _ _ _ (weighed-value q (get_or (drop t xs) k R.zero) w short (λ i m. h i (omega (arith, m, enough))) W)
        (subst (λ y. R.same (value_in_ring R q (get_or (drop t xs) k R.zero)) y) (sym there)
        (subst (λ x. R.same (value_in_ring R q x) (get_or vs (t + k) R.zero)) (sym at) (h (t + k) below)))

    module _ {inverse : A → A} (L : IsRing R.same R.sum R.product R.one) (F : IsField R.same R.zero R.product R.one inverse) (apart : AreApart R.same xs) where
      -- a polynomial of t coefficients that has the first t values, and all others where the weights give these, is decoded from all, and no value is wrong
      pub decoded-whole : (p : List A) → length p ≡ t → ((i : ℕ) → i < t → R.same (value_in_ring R p (get_or xs i R.zero)) (get_or vs i R.zero))
          → ((k : ℕ) → k < length (drop t xs) → (w : List A) × AreWeightsAt R (get_or (drop t xs) k R.zero) (take t xs) w × R.same (weighed (take t vs) w) (get_or (drop t vs) k R.zero))
          → IsDecoded R xs vs t p []
      decoded-whole p long h further = record {
        number = long;
        places = record { rising = λ k l. absurd (omega (arith, l)); below = λ k d l. absurd (omega (arith, l)); differ = λ k d l. absurd (omega (arith, l)); agree = λ i l n. agrees i l };
        few = omega (arith, enough);
        only = λ b w. decoding_once-same E G P L F xs vs b p t apart enough (omega (arith, long), [], omega (arith, enough), λ i l n. agrees i l) w;
      }
        where
          agrees : (i : ℕ) → i < length xs → R.same (value_in_ring R p (get_or xs i R.zero)) (get_or vs i R.zero)
          agrees i l =
              elim (cases_lt i t) as (λ _. R.same (value_in_ring R p (get_or xs i R.zero)) (get_or vs i R.zero)) [
                | inl less ↦ h i less
                | inr not_less ↦
                    let k = i - t in
                    let e : t + k ≡ i = omega (arith, not_less) in
                    let at : get_or (drop t xs) k R.zero ≡ get_or xs i R.zero = get_or-drop t xs k R.zero ∙ ap (λ n. get_or xs n R.zero) e in
                    let there : get_or (drop t vs) k R.zero ≡ get_or vs i R.zero = get_or-drop t vs k R.zero ∙ ap (λ n. get_or vs n R.zero) e in
                    let w = further k (omega (arith, l, e, length-drop t xs)) in
                    subst (λ x. R.same (value_in_ring R p x) (get_or vs i R.zero)) at
                    (subst (λ y. R.same (value_in_ring R p (get_or (drop t xs) k R.zero)) y) there
                    (E.transitive _ _ _ (E.symmetric _ _ (weighed-value p (get_or (drop t xs) k R.zero) w.0 (omega (arith, long)) h w.1)) w.2))
              ]
