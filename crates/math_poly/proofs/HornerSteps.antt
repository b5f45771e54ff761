-- The loops of Horner's rule, up to the type's own equality: what is left of the coefficients and then what was made has the value.
use Rattle.std.proofs.Common.{◌≡◌, ℕ, ◌+◌, ◌-◌, ◌<◌, ◌≤◌, List, [], ◌∷◌, ◌++◌, length, take, get_or, append_assoc, refl, arith}
use Rattle.std.proofs.lemmas.List.{take_more, take_all}
use Rattle.math_theory.specs.Laws.{IsEquality, IsGroup, IsModule, IsProduct}
use Rattle.math_theory.specs.Values.{value_over}
use Rattle.math_theory.proofs.polynomials.Horner.{scaling_zero, value_over-cons}
use Rattle.math_poly.specs.PolynomialLaws.{sum_with_zero}

module _ {A : Type 0} where
  one-more : (xs : List A) (x : A) (i j : ℕ) → j ≡ i + 1 → i < length xs → x ≡ get_or xs i x → take j xs ≡ take i xs ++ x ∷ []
  one-more xs x i j e l h = rw (e, take_more xs i x l, ← h) refl

  -- all but the last one, and then this one
  pub last-apart : (xs : List A) (x : A) → 1 ≤ length xs → x ≡ get_or xs (length xs - 1) x → take (length xs - 1) xs ++ x ∷ [] ≡ xs
  last-apart xs x l h = rw (← one-more xs x (length xs - 1) (length xs) (omega arith) (omega arith) h) (take_all (length xs) xs (omega arith))

  -- all but the last four, and then these four
  pub four-apart : (xs : List A) (e f g h : A) → 4 ≤ length xs → e ≡ get_or xs (length xs - 4) e → f ≡ get_or xs (length xs - 3) f → g ≡ get_or xs (length xs - 2) g → h ≡ get_or xs (length xs - 1) h
      → take (length xs - 4) xs ++ e ∷ f ∷ g ∷ h ∷ [] ≡ xs
  four-apart xs e f g h l i j k m =
      let n = length xs in
      let first : take (n - 3) xs ≡ take (n - 4) xs ++ e ∷ [] = one-more xs e (n - 4) (n - 3) (omega arith) (omega arith) i in
      let second : take (n - 2) xs ≡ take (n - 3) xs ++ f ∷ [] = one-more xs f (n - 3) (n - 2) (omega arith) (omega arith) j in
      let third : take (n - 1) xs ≡ take (n - 2) xs ++ g ∷ [] = one-more xs g (n - 2) (n - 1) (omega arith) (omega arith) k in
      let all : ((((take (n - 4) xs ++ e ∷ []) ++ f ∷ []) ++ g ∷ []) ++ h ∷ []) ≡ xs = rw (← first, ← second, ← third) (last-apart xs h (omega arith) m) in
      simp append_assoc at all

module _ {A B : Type 0} {same : A → A → Type 0} {zero : A} {sum : A → A → A} {negative : A → A} {scaling : A → B → A} {same_scalar : B → B → Type 0}
    {zero_scalar : B} {sum_scalar : B → B → B} {product : B → B → B} {one : B}
    (E : IsEquality same) (G : IsGroup same zero sum negative) (M : IsModule same zero sum scaling same_scalar zero_scalar sum_scalar product one) where
  abbrev at : B → List A → A
  at r p = value_over zero sum scaling one product r p

  by_horner : (r : B) (a : A) (p : List A) → same (at r (a ∷ p)) (sum a (scaling (at r p) r))
  by_horner r a p = value_over-cons E G M r a p

  -- lists with the same value have the same value after the same coefficients too
  value-after : (r : B) (front xs ys : List A) → same (at r xs) (at r ys) → same (at r (front ++ xs)) (at r (front ++ ys))
  value-after r [] xs ys h = h
  value-after r (a ∷ front) xs ys h =
      E.transitive _ _ _ (by_horner r a (front ++ xs))
      (E.transitive _ _ _ (G.respects_sum _ _ _ _ (E.reflexive a) (M.respects_points _ _ r (value-after r front xs ys h))) (E.symmetric _ _ (by_horner r a (front ++ ys))))

  value-one : (r : B) (a : A) → same (at r (a ∷ [])) a
  value-one r a = E.transitive _ _ _ (by_horner r a []) (E.transitive _ _ _ (G.respects_sum _ _ _ _ (E.reflexive a) (scaling_zero E G M r)) (sum_with_zero E G a))

  -- a step of Horner's rule
  horner-next : (r : B) (front : List A) (c out new : A) → same new (sum (scaling out r) c) → same (at r (front ++ new ∷ [])) (at r (front ++ c ∷ out ∷ []))
  horner-next r front c out new h =
      let made : same new (sum c (scaling out r)) = E.transitive _ _ _ h (G.commutative (scaling out r) c) in
      let last : same (scaling out r) (scaling (at r (out ∷ [])) r) = M.respects_points _ _ r (E.symmetric _ _ (value-one r out)) in
      value-after r front (new ∷ []) (c ∷ out ∷ [])
      (E.transitive _ _ _ (value-one r new) (E.transitive _ _ _ made (E.transitive _ _ _ (G.respects_sum _ _ _ _ (E.reflexive c) last) (E.symmetric _ _ (by_horner r c (out ∷ []))))))

  -- the last coefficient that is left is taken
  pub horner-taken : (r : B) (front : List A) (c out new whole : A) → 1 ≤ length front → c ≡ get_or front (length front - 1) c → same new (sum (scaling out r) c)
      → same (at r (front ++ out ∷ [])) whole → same (at r (take (length front - 1) front ++ new ∷ [])) whole
  horner-taken r front c out new whole l e h k =
      let apart : (take (length front - 1) front ++ c ∷ []) ++ out ∷ [] ≡ front ++ out ∷ [] = rw (last-apart front c l e) refl in
      let apart' : take (length front - 1) front ++ c ∷ out ∷ [] ≡ front ++ out ∷ [] = simp append_assoc at apart in
      let k' : same (at r (take (length front - 1) front ++ c ∷ out ∷ [])) whole = rw apart' k in
      E.transitive _ _ _ (horner-next r (take (length front - 1) front) c out new h) k'

  -- no coefficient is left
  pub horner-done : (r : B) (front : List A) (out whole : A) → length front < 1 → same (at r (front ++ out ∷ [])) whole → same out whole
  horner-done r [] out whole l h = E.transitive _ _ _ (E.symmetric _ _ (value-one r out)) h
  horner-done r (c ∷ front) out whole l h = absurd (omega (arith, l))

  -- from all but the last coefficient, and a copy of this one
  pub horner-all : (r : B) (xs ys : List A) (c copy out : A) → xs ≡ ys → 1 ≤ length xs → c ≡ get_or xs (length xs - 1) c → same copy c
      → same out (at r (take (length xs - 1) xs ++ copy ∷ [])) → same out (at r ys)
  horner-all r xs ys c copy out i l e h k =
      let last : same (at r (copy ∷ [])) (at r (c ∷ [])) = E.transitive _ _ _ (value-one r copy) (E.transitive _ _ _ h (E.symmetric _ _ (value-one r c))) in
      rw (← i) (E.transitive _ _ _ k (rw (last-apart xs c l e) at (value-after r (take (length xs - 1) xs) (copy ∷ []) (c ∷ []) last)))

  module _ (E' : IsEquality same_scalar) (P' : IsProduct same_scalar product) where
    -- a copy, squared
    pub square-made : (x copy new : B) → same_scalar copy x → same_scalar new (product copy copy) → same_scalar new (product x x)
    square-made x copy new h k = E'.transitive _ _ _ k (P'.respects _ _ _ _ h h)

  two-more : (r r2 : B) (a b : A) (p : List A) → same_scalar r2 (product r r) → same (at r (a ∷ b ∷ p)) (sum (sum a (scaling b r)) (scaling (at r p) r2))
  two-more r r2 a b p e =
      let s = λ (x y : A). E.symmetric x y in
      let next : same (scaling (at r (b ∷ p)) r) (scaling (sum b (scaling (at r p) r)) r) = M.respects_points _ _ r (by_horner r b p) in
      let square : same (scaling (at r p) (product r r)) (scaling (at r p) r2) = s _ _ (M.respects_scalars (at r p) _ _ e) in
      grw (
        E.transitive,
        E.reflexive,
        G.respects_sum,
        by_horner r a (b ∷ p),
        next,
        M.sum_of_points b (scaling (at r p) r) r,
        M.product_of_scalars (at r p) r r,
        square,
        s _ _ (G.associative a (scaling b r) (scaling (at r p) r2)),
      )

  -- four coefficients by two halves
  four-more : (r r2 r4 : B) (a b c d b' d' low high group : A) (p : List A) → same_scalar r2 (product r r) → same_scalar r4 (product r2 r2)
      → same b' b → same low (sum (scaling b' r) a) → same d' d → same high (sum (scaling d' r) c) → same group (sum (scaling high r2) low)
      → same (at r (a ∷ b ∷ c ∷ d ∷ p)) (sum group (scaling (at r p) r4))
  four-more r r2 r4 a b c d b' d' low high group p e f hb hl hd hh hg =
      let s = λ (x y : A). E.symmetric x y in
      let half : (x y y' z : A) → same y' y → same z (sum (scaling y' r) x) → same (sum x (scaling y r)) z =
      λ x y y' z k l. s _ _ (E.transitive _ _ _ l (E.transitive _ _ _ (G.respects_sum _ _ _ _ (M.respects_points _ _ r k) (E.reflexive x)) (G.commutative (scaling y r) x))) in
      let rest : same (scaling (at r (c ∷ d ∷ p)) r2) (scaling (sum high (scaling (at r p) r2)) r2) =
      M.respects_points _ _ r2 (E.transitive _ _ _ (two-more r r2 c d p e) (G.respects_sum _ _ _ _ (half c d d' high hd hh) (E.reflexive (scaling (at r p) r2)))) in
      let fourth : same (scaling (at r p) (product r2 r2)) (scaling (at r p) r4) = s _ _ (M.respects_scalars (at r p) _ _ f) in
      grw (
        E.transitive,
        E.reflexive,
        G.respects_sum,
        two-more r r2 a b (c ∷ d ∷ p) e,
        half a b b' low hb hl,
        rest,
        M.sum_of_points high (scaling (at r p) r2) r2,
        M.product_of_scalars (at r p) r2 r2,
        fourth,
        s _ _ (G.associative low (scaling high r2) (scaling (at r p) r4)),
        G.commutative low (scaling high r2),
        s _ _ hg,
      )

  -- the last four coefficients that are left are taken
  pub horner-four_taken : (r r2 r4 : B) (front : List A) (a b c d b' d' low high group out new whole : A) → same_scalar r2 (product r r) → same_scalar r4 (product r2 r2) → 4 ≤ length front
      → a ≡ get_or front (length front - 4) a → b ≡ get_or front (length front - 3) b → c ≡ get_or front (length front - 2) c → d ≡ get_or front (length front - 1) d
      → same b' b → same low (sum (scaling b' r) a) → same d' d → same high (sum (scaling d' r) c) → same group (sum (scaling high r2) low) → same new (sum (scaling out r4) group)
      → same (at r (front ++ out ∷ [])) whole → same (at r (take (length front - 4) front ++ new ∷ [])) whole
  horner-four_taken r r2 r4 front a b c d b' d' low high group out new whole e f l ia ib ic id hb hl hd hh hg hn k =
      let left = take (length front - 4) front in
      let apart : (left ++ a ∷ b ∷ c ∷ d ∷ []) ++ out ∷ [] ≡ front ++ out ∷ [] = rw (four-apart front a b c d l ia ib ic id) refl in
      let apart' : left ++ a ∷ b ∷ c ∷ d ∷ out ∷ [] ≡ front ++ out ∷ [] = simp append_assoc at apart in
      let k' : same (at r (left ++ a ∷ b ∷ c ∷ d ∷ out ∷ [])) whole = rw apart' k in
      let last : same (scaling out r4) (scaling (at r (out ∷ [])) r4) = M.respects_points _ _ r4 (E.symmetric _ _ (value-one r out)) in
      let made : same new (sum group (scaling (at r (out ∷ [])) r4)) =
      E.transitive _ _ _ hn (E.transitive _ _ _ (G.commutative (scaling out r4) group) (G.respects_sum _ _ _ _ (E.reflexive group) last)) in
      let four = four-more r r2 r4 a b c d b' d' low high group (out ∷ []) e f hb hl hd hh hg in
      E.transitive _ _ _ (value-after r left (new ∷ []) (a ∷ b ∷ c ∷ d ∷ out ∷ []) (E.transitive _ _ _ (value-one r new) (E.transitive _ _ _ made (E.symmetric _ _ four)))) k'
