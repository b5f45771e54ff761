-- The polynomials with a given constant, given values at points other than zero, and given last coefficients, up to a type's own equality.
use Rattle.std.proofs.Common.{◌≡◌, ℕ, zero, suc, ◌+◌, ◌<◌, ◌≤◌, List, [], ◌∷◌, ◌++◌, length, take, drop, get_or, refl, ap, arith, subst, sym, ◌∙◌}
use Rattle.std.specs.List.{AllZip}
use Rattle.std.proofs.lemmas.List.{take-append-drop, length-append, length-take-le}
use Rattle.std.proofs.lemmas.List.Elements.{All-from_get_or}
use Rattle.std.proofs.Math.Seq.{drop-append_seam}
use Rattle.math_theory.specs.Coefficients.{HaveSameCoefficients}
use Rattle.math_theory.specs.Interpolation.{AreApart}
use Rattle.math_theory.specs.Laws.{IsEquality, IsGroup, IsProduct, IsRing, IsField}
use Rattle.math_theory.specs.ModuleLaws.{ring_is_module}
use Rattle.math_theory.specs.Powers.{power}
use Rattle.math_theory.specs.Values.{value}
use Rattle.math_theory.proofs.classes.RingUpToSame.{combine_same, combine2_same}
use Rattle.math_theory.proofs.polynomials.BuiltPolynomials.{value-joined}
use Rattle.math_theory.proofs.polynomials.CarriedRoots.{agreement-same}
use Rattle.math_theory.proofs.polynomials.CarriedValues.{value-cons}
use Rattle.math_theory.proofs.polynomials.ValuesRespect.{value_over-respects}
use Rattle.math_theory.proofs.rings.Normal.{◌⊕◌, ◌⊗◌, ◌⊖◌, minus, 𝟙, v0, v1, v2, v3, v4}
use Rattle.shared_secret.proofs.NestedPolynomials.{through, length-through, value-through}

module _ {A B : Type 0} (related : A → B → Type 0) where
  pub zip-append : (a b : List A) (c d : List B) → AllZip related a c → AllZip related b d → AllZip related (a ++ b) (c ++ d)
  zip-append [] b [] d h k = k
  zip-append [] b (y ∷ c) d h k = absurd h
  zip-append (x ∷ a) b [] d h k = absurd h
  zip-append (x ∷ a) b (y ∷ c) d h k = (h.0, zip-append a b c d h.1 k)

  pub zip-drop : (n : ℕ) (a : List A) (b : List B) → AllZip related a b → AllZip related (drop n a) (drop n b)
  zip-drop zero a b h = h
  zip-drop (suc n) [] [] h = h
  zip-drop (suc n) [] (y ∷ b) h = absurd h
  zip-drop (suc n) (x ∷ a) [] h = absurd h
  zip-drop (suc n) (x ∷ a) (y ∷ b) h = zip-drop n a b h.1

module _ {A : Type 0} {same : A → A → Type 0} {zero_of : A} {sum : A → A → A} {negative : A → A} {product : A → A → A} {one : A} {inverse : A → A}
    (E : IsEquality same) (G : IsGroup same zero_of sum negative) (P : IsProduct same product) (L : IsRing same sum product one) (F : IsField same zero_of product one inverse) where
  abbrev at : A → List A → A
  at r p = value zero_of sum product one r p

  abbrev less : A → A → A
  less a b = sum a (negative b)

  abbrev pow : A → ℕ → A
  pow r n = power one product r n

  zip-from_places : (a b : List A) → length a ≡ length b → ((i : ℕ) → same (get_or a i zero_of) (get_or b i zero_of)) → AllZip same a b
  zip-from_places [] [] e h = tt
  zip-from_places [] (y ∷ b) e h = absurd (omega arith)
  zip-from_places (x ∷ a) [] e h = absurd (omega arith)
  zip-from_places (x ∷ a) (y ∷ b) e h = (h 0, zip-from_places a b (omega arith) (λ i. h (suc i)))

  pub zip-symmetric : (a b : List A) → AllZip same a b → AllZip same b a
  zip-symmetric [] [] h = tt
  zip-symmetric [] (y ∷ b) h = absurd h
  zip-symmetric (x ∷ a) [] h = absurd h
  zip-symmetric (x ∷ a) (y ∷ b) h = (E.symmetric _ _ h.0, zip-symmetric a b h.1)

  pub zip-transitive : (a b c : List A) → AllZip same a b → AllZip same b c → AllZip same a c
  zip-transitive [] [] [] h k = tt
  zip-transitive [] [] (z ∷ c) h k = absurd k
  zip-transitive [] (y ∷ b) c h k = absurd h
  zip-transitive (x ∷ a) [] c h k = absurd h
  zip-transitive (x ∷ a) (y ∷ b) [] h k = absurd k
  zip-transitive (x ∷ a) (y ∷ b) (z ∷ c) h k = (E.transitive _ _ _ h.0 k.0, zip-transitive a b c h.1 k.1)

  pub zip-reflexive : (a : List A) → AllZip same a a
  zip-reflexive [] = tt
  zip-reflexive (x ∷ a) = (E.reflexive x, zip-reflexive a)

  cancelled : (a b c d : A) → same (sum a c) (sum b d) → same c d → same a b
  cancelled a b c d h k = combine2_same E G P L (a ∷ b ∷ c ∷ d ∷ []) v0 v1 𝟙 (v0 ⊕ v2) (v1 ⊕ v3) (minus 𝟙) v2 v3 h k refl

  -- the value by the first n coefficients and the others
  parts : (n : ℕ) (r : A) (p : List A) → n ≤ length p → same (at r p) (sum (at r (take n p)) (product (pow r n) (at r (drop n p))))
  parts n r p l =
      subst (λ q. same (at r q) (sum (at r (take n p)) (product (pow r n) (at r (drop n p))))) (take-append-drop n p)
      (value-joined E G P L r (take n p) (drop n p) n (length-take-le n p l))

  alike-at : (r : A) (p q : List A) → AllZip same p q → same (at r p) (at r q)
  alike-at r p q h = value_over-respects E G (ring_is_module E G P L) E P r r (E.reflexive r) p q h

  -- polynomials that agree at n points, and in all but their first n coefficients, are the same
  pub agreed : (n : ℕ) (zs p q : List A) → AreApart same zs → length zs ≡ n → length p ≡ length q → n ≤ length p → AllZip same (drop n p) (drop n q)
      → ((k : ℕ) → k < n → same (at (get_or zs k zero_of) p) (at (get_or zs k zero_of) q)) → AllZip same p q
  agreed n zs p q d e m l h values =
      let cp : length (take n p) ≡ n = length-take-le n p l in
      let cq : length (take n q) ≡ n = length-take-le n q (omega (arith, l, m)) in
      let low : HaveSameCoefficients same zero_of (take n p) (take n q) =
      agreement-same E G P L F zs (take n p) (take n q) (omega (arith, cp, e)) (omega (arith, cq, e)) d
      (All-from_get_or (λ x. same (at x (take n p)) (at x (take n q))) zs zero_of
      (λ k b. let r = get_or zs k zero_of in
      cancelled (at r (take n p)) (at r (take n q)) (product (pow r n) (at r (drop n p))) (product (pow r n) (at r (drop n q)))
      (E.transitive _ _ _ (E.symmetric _ _ (parts n r p l)) (E.transitive _ _ _ (values k (omega (arith, b, e))) (parts n r q (omega (arith, l, m)))))
      (P.respects _ _ _ _ (E.reflexive _) (alike-at r (drop n p) (drop n q) h)))) in
      subst (λ a. AllZip same a q) (take-append-drop n p)
      (subst (λ b. AllZip same (take n p ++ drop n p) b) (take-append-drop n q)
      (zip-append same (take n p) (drop n p) (take n q) (drop n q) (zip-from_places (take n p) (take n q) (cp ∙ sym cq) low) h))

  -- what the first coefficients after the constant have as values
  abbrev targets : ℕ → A → List A → List A → List A → List A
  targets n secret last [] vs = []
  targets n secret last (x ∷ xs) [] = []
  targets n secret last (x ∷ xs) (v ∷ vs) = less (product (less v secret) (inverse x)) (product (pow x n) (at x last)) ∷ targets n secret last xs vs

  length-targets : (n : ℕ) (secret : A) (last xs vs : List A) → length xs ≡ length vs → length (targets n secret last xs vs) ≡ length xs
  length-targets n secret last [] vs e = refl
  length-targets n secret last (x ∷ xs) [] e = absurd (omega arith)
  length-targets n secret last (x ∷ xs) (v ∷ vs) e = ap suc (length-targets n secret last xs vs (omega arith))

  target-at : (n : ℕ) (secret : A) (last xs vs : List A) (k : ℕ) → k < length xs → length xs ≡ length vs
      → get_or (targets n secret last xs vs) k zero_of
      ≡ less (product (less (get_or vs k zero_of) secret) (inverse (get_or xs k zero_of))) (product (pow (get_or xs k zero_of) n) (at (get_or xs k zero_of) last))
  target-at n secret last [] vs k l e = absurd (omega arith)
  target-at n secret last (x ∷ xs) [] k l e = absurd (omega arith)
  target-at n secret last (x ∷ xs) (v ∷ vs) zero l e = refl
  target-at n secret last (x ∷ xs) (v ∷ vs) (suc k) l e = target-at n secret last xs vs k (omega arith) (omega arith)

  -- the coefficients between the constant and the last ones
  abbrev middle : A → List A → List A → List A → List A
  middle secret xs vs last = through E G P L F xs (targets (length xs) secret last xs vs)

  -- the polynomial with this constant, these values and these last coefficients
  abbrev pub explained : A → List A → List A → List A → List A
  explained secret xs vs last = secret ∷ (middle secret xs vs last ++ last)

  length-middle : (secret : A) (xs vs last : List A) → length xs ≡ length vs → length (middle secret xs vs last) ≡ length xs
  length-middle secret xs vs last e =
      length-through E G P L F xs (targets (length xs) secret last xs vs) (sym (length-targets (length xs) secret last xs vs e))

  pub length-explained : (secret : A) (xs vs last : List A) → length xs ≡ length vs → length (explained secret xs vs last) ≡ length xs + 1 + length last
  length-explained secret xs vs last e = omega (arith, length-append (middle secret xs vs last) last, length-middle secret xs vs last e)

  pub last-explained : (secret : A) (xs vs last : List A) → length xs ≡ length vs → drop (length xs + 1) (explained secret xs vs last) ≡ last
  last-explained secret xs vs last e =
      let n : length xs + 1 ≡ suc (length (middle secret xs vs last)) = omega (arith, length-middle secret xs vs last e) in
      ap (λ k. drop k (explained secret xs vs last)) n ∙ drop-append_seam (middle secret xs vs last) last

  at_point : (s v x ix m : A) → same (product x ix) one → same (sum s (product (sum (less (product (less v s) ix) m) m) x)) v
  at_point s v x ix m h =
      combine_same E G P L (s ∷ v ∷ ix ∷ x ∷ m ∷ []) (v0 ⊕ (((((v1 ⊖ v0) ⊗ v2) ⊖ v4) ⊕ v4) ⊗ v3)) v1 (v1 ⊖ v0) (v3 ⊗ v2) 𝟙 h refl

  pub value-explained : (secret : A) (xs vs last : List A) → AreApart same xs → ((k : ℕ) → k < length xs → ¬ (same (get_or xs k zero_of) zero_of)) → length xs ≡ length vs
      → (k : ℕ) → k < length xs → same (at (get_or xs k zero_of) (explained secret xs vs last)) (get_or vs k zero_of)
  value-explained secret xs vs last d nonzero e k l =
      let n = length xs in
      let x = get_or xs k zero_of in
      let m = product (pow x n) (at x last) in
      let low = middle secret xs vs last in
      let ts = targets n secret last xs vs in
      let c : length xs ≡ length ts = sym (length-targets n secret last xs vs e) in
      let there : same (at x low) (less (product (less (get_or vs k zero_of) secret) (inverse x)) m) =
      subst (λ y. same (at x low) y) (target-at n secret last xs vs k l e) (value-through E G P L F xs ts d c k l) in
      let joined : same (at x (low ++ last)) (sum (less (product (less (get_or vs k zero_of) secret) (inverse x)) m) m) =
      E.transitive _ _ _ (value-joined E G P L x low last n (length-middle secret xs vs last e)) (G.respects_sum _ _ _ _ there (E.reflexive m)) in
      E.transitive _ _ _ (value-cons E G P L x secret (low ++ last))
      (E.transitive _ _ _ (G.respects_sum _ _ _ _ (E.reflexive secret) (P.respects _ _ _ _ joined (E.reflexive x)))
      (at_point secret (get_or vs k zero_of) x (inverse x) m (F.inverts x (nonzero k l))))
