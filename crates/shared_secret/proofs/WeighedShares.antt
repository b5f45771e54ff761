-- Shares whose weights are made once: what these say of the values of all shares.
use Rattle.std.proofs.Common.{◌≡◌, ◌∙◌, ℕ, zero, suc, ◌+◌, ◌-◌, ◌<◌, ◌≤◌, inl, inr, List, [], ◌∷◌, length, map, take, drop, get_or, sym, ap, subst, arith}
use Rattle.std.specs.List.{AllZip}
use Rattle.std.proofs.lemmas.Bool.{cases_lt}
use Rattle.std.proofs.lemmas.List.{get_or-take, get_or_read, length-map, length-take-le, length-drop}
use Rattle.math_theory.specs.Interpolation.{AreApart}
use Rattle.math_theory.specs.Laws.{IsEquality, IsGroup, IsProduct, IsRing, IsField}
use Rattle.math_theory.specs.ModuleLaws.{ring_is_module}
use Rattle.math_theory.proofs.polynomials.ValuesRespect.{value_over-respects}
use Rattle.math_base.specs.Members.{RingOf}
use Rattle.math_base.specs.Polynomials.{AreWeightsAt, value_in_ring}
use Rattle.shared_secret.specs.declared.shares.Share.{Share}
use Rattle.shared_secret.specs.CorrectedShares.{IsCorrectedSecret}
use Rattle.shared_secret.specs.Shares.{point, points, values, AreCombinable}
use Rattle.shared_secret.proofs.ExplainedValues.{zip-drop}
use Rattle.shared_secret.proofs.NestedPolynomials.{through, length-through, value-through}
use Rattle.shared_secret.proofs.WeighedValues.{decoded-whole, weighed, weighed-alike, weighed-further, weighed-value, zip-at, zip-count, zip-item}

zip-take : {A B : Type 0} (related : A → B → Type 0) (n : ℕ) (a : List A) (b : List B) → AllZip related a b → AllZip related (take n a) (take n b)
zip-take related zero a b h = tt
zip-take related (suc n) [] [] h = tt
zip-take related (suc n) [] (y ∷ b) h = absurd h
zip-take related (suc n) (x ∷ a) [] h = absurd h
zip-take related (suc n) (x ∷ a) (y ∷ b) h = (h.0, zip-take related n a b h.1)

-- of points that are apart the first ones are
pub apart-take : {A : Type 0} (same : A → A → Type 0) (n : ℕ) (xs : List A) → n ≤ length xs → AreApart same xs → AreApart same (take n xs)
apart-take same n xs e h i j d l m s =
    let below : j < n = omega (arith, m, length-take-le n xs e) in
    h i j d l (omega (arith, below, e)) (subst (λ x. same x (get_or xs j d)) (get_or-take n xs i d (omega (arith, l, below))) (subst (λ y. same (get_or (take n xs) i d) y) (get_or-take n xs j d below) s))

-- what is taken of a list that is equal to another
pub part-of : {A : Type 0} (part : ℕ → List A → List A) (x given vs : List A) (n t : ℕ) → x ≡ part n given → n ≡ t → given ≡ vs → x ≡ part t vs
part-of part x given vs n t h e k = h ∙ ap (λ m. part m given) e ∙ ap (part t) k

-- what holds of item v and value y at place i, and at all places before it, holds at all places up to i
pub next-read : {A V : Type 0} (Holds : V → A → Type 0) (fs : List V) (others : List A) (z : A) (i : ℕ) (v : V) (y : A) → i < length fs → i < length others → v ≡ get_or fs i v → y ≡ get_or others i y
    → Holds v y → ((k : ℕ) (d : V) → k < i → Holds (get_or fs k d) (get_or others k z)) → (k : ℕ) (d : V) → k < i + 1 → Holds (get_or fs k d) (get_or others k z)
next-read Holds fs others z i v y l m e f h before k d n =
    elim (cases_lt k i) as (λ _. Holds (get_or fs k d) (get_or others k z)) [
      | inl less ↦ before k d less
      | inr not_less ↦
          let at : i ≡ k = omega (arith, not_less, n) in
          subst (λ j. Holds (get_or fs j d) (get_or others j z)) at
          (subst (λ u. Holds u (get_or others i z)) (get_or_read fs i v l e d) (subst (λ x. Holds v x) (get_or_read others i y m f z) h))
    ]

module _ {A : Type 0} (R : RingOf A) (E : IsEquality R.same) (G : IsGroup R.same R.zero R.sum R.negative) (P : IsProduct R.same R.product) (L : IsRing R.same R.sum R.product R.one) where
  reflexive-all : (a : List A) → AllZip R.same a a
  reflexive-all [] = tt
  reflexive-all (c ∷ a) = (E.reflexive c, reflexive-all a)

  value-alike : (a : List A) (x y : A) → R.same x y → R.same (value_in_ring R a x) (value_in_ring R a y)
  value-alike a x y h = value_over-respects E G (ring_is_module E G P L) E P x y h a a (reflexive-all a)

  values-alike : (a xs ys : List A) → AllZip R.same xs ys → AllZip R.same (map (λ x. value_in_ring R a x) ys) (map (λ x. value_in_ring R a x) xs)
  values-alike a [] [] h = tt
  values-alike a [] (y ∷ ys) h = absurd h
  values-alike a (x ∷ xs) [] h = absurd h
  values-alike a (x ∷ xs) (y ∷ ys) h = (E.symmetric _ _ (value-alike a x y h.0), values-alike a xs ys h.1)

  -- weights of points are weights of points that are same as these
  moved-weights : (x y : A) (xs ys w : List A) → R.same x y → AllZip R.same xs ys → AreWeightsAt R x xs w → AreWeightsAt R y ys w
  moved-weights x y xs ys w h k W =
      let count : length xs ≡ length ys = zip-count R.same xs ys k in
      record {
        lengths = sym count ∙ W.lengths;
        give = λ a l.
            E.transitive _ _ _ (weighed-alike R E G P (map (λ p. value_in_ring R a p) ys) (map (λ p. value_in_ring R a p) xs) w (values-alike a xs ys k))
            (E.transitive _ _ _ (W.give a (omega (arith, l, count))) (value-alike a x y h));
      }

  -- weights for what is same as zero are weights for zero
  pub weights-at-zero : (x : A) (first w : List A) → R.same x R.zero → AreWeightsAt R x first w → AreWeightsAt R R.zero first w
  weights-at-zero x first w h W = moved-weights x R.zero first first w h (reflexive-all first) W

  module _ {V : Type 0} (items : V → List A) where
    moved-each : (first others xs ys : List A) (ws : List V) → AllZip R.same first others → AllZip R.same xs ys → AllZip (λ x v. AreWeightsAt R x first (items v)) xs ws
        → AllZip (λ y v. AreWeightsAt R y others (items v)) ys ws
    moved-each first others [] [] [] h k W = tt
    moved-each first others [] [] (w ∷ ws) h k W = absurd W
    moved-each first others [] (y ∷ ys) ws h k W = absurd k
    moved-each first others (x ∷ xs) [] ws h k W = absurd k
    moved-each first others (x ∷ xs) (y ∷ ys) [] h k W = absurd W
    moved-each first others (x ∷ xs) (y ∷ ys) (w ∷ ws) h k W = (moved-weights x y first others (items w) k.0 h W.0, moved-each first others xs ys ws h k.1 W.1)

    pub moved-further : (t : ℕ) (xs ys : List A) (ws : List V) → AllZip R.same xs ys → AllZip (λ x v. AreWeightsAt R x (take t xs) (items v)) (drop t xs) ws
        → AllZip (λ y v. AreWeightsAt R y (take t ys) (items v)) (drop t ys) ws
    moved-further t xs ys ws h W = moved-each (take t xs) (take t ys) (drop t xs) (drop t ys) ws (zip-take R.same t xs ys h) (zip-drop R.same t xs ys h) W

  pub moved-secret : (t : ℕ) (xs ys w : List A) → AllZip R.same xs ys → AreWeightsAt R R.zero (take t xs) w → AreWeightsAt R R.zero (take t ys) w
  moved-secret t xs ys w h W = moved-weights R.zero R.zero (take t xs) (take t ys) w (E.reflexive R.zero) (zip-take R.same t xs ys h) W

  point-count : (shares : List (Share A)) → length (points R shares) ≡ length shares
  point-count shares = length-map shares (λ s. point R s.index)

  pub value-count : (shares : List (Share A)) → length (values shares) ≡ length shares
  value-count shares = length-map shares (λ s. s.value)

  module _ {V : Type 0} (items : V → List A) (t : ℕ) (shares : List (Share A)) (secret : List A) (further : List V) (ready : AreCombinable R t shares)
      (W : AreWeightsAt R R.zero (take t (points R shares)) secret) (Ws : AllZip (λ x v. AreWeightsAt R x (take t (points R shares)) (items v)) (drop t (points R shares)) further) where
    enough : t ≤ length (points R shares)
    enough = omega (arith, ready.enough, point-count shares)

    count : length (values shares) ≡ length (points R shares)
    count = value-count shares ∙ sym (point-count shares)

    -- there are t weights for the secret, and one list of them for each further share
    pub secret-count : length secret ≡ t
    secret-count = sym W.lengths ∙ length-take-le t (points R shares) enough

    pub further-count : length further ≡ length (values shares) - t
    further-count = sym (zip-count (λ x v. AreWeightsAt R x (take t (points R shares)) (items v)) (drop t (points R shares)) further Ws) ∙ length-drop t (points R shares) ∙ ap (λ n. n - t) (sym count)

    below-further : (k : ℕ) → k < length (drop t (values shares)) → k < length (drop t (points R shares))
    below-further k l = omega (arith, l, length-drop t (values shares), length-drop t (points R shares), count)

    -- where a further value is not what the weights give, the values are not those of one polynomial of t coefficients
    pub not-whole : (k : ℕ) (v : V) → k < length (drop t (values shares)) → get_or further k v ≡ v → ¬ (R.same (weighed R E G P (take t (values shares)) (items v)) (get_or (drop t (values shares)) k R.zero))
        → (a : A) → ¬ (IsCorrectedSecret R t shares a [])
    not-whole k v l e differ a h =
        let below = below-further k l in
        differ (weighed-further R E G P t (points R shares) (values shares) enough count h.polynomial k (items v) (omega (arith, h.decoded.number))
        (λ i m. h.decoded.places.agree i m (λ n. absurd (omega (arith, n.1)))) below
        (subst (λ u. AreWeightsAt R (get_or (drop t (points R shares)) k R.zero) (take t (points R shares)) (items u)) e
        (zip-at (λ x u. AreWeightsAt R x (take t (points R shares)) (items u)) (drop t (points R shares)) further k R.zero v Ws below)))

    module _ {inverse : A → A} (F : IsField R.same R.zero R.product R.one inverse) where
      -- where each further value is what the weights give, none is wrong, and the weights give the secret
      pub whole : (a : A) → R.same a (weighed R E G P (take t (values shares)) secret)
          → ((k : ℕ) (d : V) → k < length (drop t (values shares)) → R.same (weighed R E G P (take t (values shares)) (items (get_or further k d))) (get_or (drop t (values shares)) k R.zero))
          → IsCorrectedSecret R t shares a []
      whole a s h =
          let xs = points R shares in
          let vs = values shares in
          let first-long : length (take t xs) ≡ t = length-take-le t xs enough in
          let first-count : length (take t xs) ≡ length (take t vs) = first-long ∙ sym (length-take-le t vs (omega (arith, enough, count))) in
          let p = through E G P L F (take t xs) (take t vs) in
          let long : length p ≡ t = length-through E G P L F (take t xs) (take t vs) first-count ∙ first-long in
          let fits : (i : ℕ) → i < t → R.same (value_in_ring R p (get_or xs i R.zero)) (get_or vs i R.zero) =
          λ i l.
          subst (λ x. R.same (value_in_ring R p x) (get_or vs i R.zero)) (get_or-take t xs i R.zero l)
          (subst (λ y. R.same (value_in_ring R p (get_or (take t xs) i R.zero)) y) (get_or-take t vs i R.zero l)
          (value-through E G P L F (take t xs) (take t vs) (apart-take R.same t xs enough ready.apart) first-count i (omega (arith, l, first-long)))) in
          record {
            polynomial = p;
            decoded = decoded-whole R E G P t xs vs enough count L F ready.apart p long fits
                (λ k l.
                let y = zip-item (λ x u. AreWeightsAt R x (take t xs) (items u)) (drop t xs) further k R.zero Ws l in (
                  items y.0,
                  y.1,
                  subst (λ u. R.same (weighed R E G P (take t vs) (items u)) (get_or (drop t vs) k R.zero)) y.2
                      (h k y.0 (omega (arith, l, length-drop t vs, length-drop t xs, count))),
                ));
            constant = E.transitive _ _ _ s (weighed-value R E G P t xs vs enough count p R.zero secret (omega (arith, long)) fits W);
          }
