-- Shares beside their points, which are told apart one by one, and beside copies of their values.
use Rattle.std.proofs.Common.{◌≡◌, ◌∙◌, ℕ, ◌+◌, ◌<◌, ◌≤◌, List, [], ◌∷◌, ◌++◌, length, map, get_or, take, Bool, IsTrue, ◌↔◌, true, false, Option, Some, None, refl, sym, arith}
use Rattle.std.specs.List.{All, AllZip}
use Rattle.std.specs.Option.{IfSome, is_some}
use Rattle.std.proofs.lemmas.Bool.{true≢false}
use Rattle.std.proofs.lemmas.List.{length-map, take_more}
use Rattle.std.proofs.lemmas.List.Elements.{AllZip-get_or, length_all_zip}
use Rattle.math_theory.specs.Interpolation.{AreApart}
use Rattle.math_theory.specs.Laws.{IsEquality, IsGroup, IsProduct, IsRing}
use Rattle.math_theory.specs.ModuleLaws.{ring_is_module}
use Rattle.math_theory.specs.Sums.{weighted_sum}
use Rattle.math_theory.proofs.polynomials.ValuesRespect.{value_over-respects}
use Rattle.math_base.specs.Members.{RingOf}
use Rattle.math_base.proofs.PlaceByPlace.{AllZip-append}
use Rattle.math_base.specs.Polynomials.{AreWeightsAt, value_in_ring}
use Rattle.math_poly.proofs.InterpolatedValues.{interpolated-value}
use Rattle.shared_secret.specs.declared.shares.Share.{Share}
use Rattle.shared_secret.specs.Shares.{point, points, values, AreCombinable, IsCombined}

-- one more place that is related
pub alike_next : {A B : Type 0} (alike : A → B → Type 0) (xs : List A) (ys : List B) (i : ℕ) (x : A) (y : B) → i < length xs → x ≡ get_or xs i x → AllZip alike (take i xs) ys → alike x y
    → AllZip alike (take (i + 1) xs) (ys ++ y ∷ [])
alike_next alike xs ys i x y l e h k = rw (take_more xs i x l, ← e) (AllZip-append alike (take i xs) ys x y h k)

-- the value that an option has
pub value_of_some : {A : Type 0} (P : A → Type 0) (o : Option A) → is_some o ≡ true → IfSome o P → (x : A) × P x
value_of_some P None e h = absurd (true≢false (sym e))
value_of_some P (Some x) e h = (x, h)

pub no_value : {A : Type 0} (o : Option A) → is_some o ≡ false → o ≡ None
no_value None e = refl
no_value (Some x) e = absurd (true≢false e)

module _ {A : Type 0} (R : RingOf A) (E : IsEquality R.same) (G : IsGroup R.same R.zero R.sum R.negative) where
  -- place by place the point of a share
  abbrev ArePointsOf : List (Share A) → List A → Type 0
  ArePointsOf shares xs = AllZip (λ share x. R.same x (point R share.index)) shares xs

  pub alike_points : (shares : List (Share A)) (xs : List A) → ArePointsOf shares xs → AllZip R.same xs (points R shares)
  alike_points [] [] h = tt
  alike_points [] (x ∷ xs) h = absurd h
  alike_points (s ∷ shares) [] h = absurd h
  alike_points (s ∷ shares) (x ∷ xs) h = (h.0, alike_points shares xs h.1)

  pub not_zero : (b : Bool) (x z : A) → (IsTrue b ↔ R.same x z) → b ≡ false → R.same z R.zero → ¬ (R.same x R.zero)
  not_zero b x z answer e s h = absurd (true≢false (sym (answer.1 (E.transitive _ _ _ h (E.symmetric _ _ s))) ∙ e))

  pub combinable : (t : ℕ) (shares : List (Share A)) (xs : List A) → t ≤ length shares → ArePointsOf shares xs → All (λ x. ¬ (R.same x R.zero)) xs → AreApart R.same xs → AreCombinable R t shares
  combinable t shares xs enough h nonzero apart =
      let alike = alike_points shares xs h in
      let count : length xs ≡ length (points R shares) = length_all_zip R.same xs (points R shares) alike in
      record {
        enough = enough;
        nonzero = λ z.
            let l : z.0 < length xs = omega (arith, z.2, count, length-map shares (λ u. point R u.index)) in
            nonzero z.0 z.1 l (E.transitive _ _ _ (AllZip-get_or R.same xs (points R shares) z.0 z.1 z.1 alike l) z.3);
        apart = λ i j x l m s.
            let n : j < length xs = omega (arith, m, count) in
            apart i j x l n
            (E.transitive _ _ _ (AllZip-get_or R.same xs (points R shares) i x x alike (omega (arith, l, n)))
            (E.transitive _ _ _ s (E.symmetric _ _ (AllZip-get_or R.same xs (points R shares) j x x alike n))));
      }

  module _ (P : IsProduct R.same R.product) (L : IsRing R.same R.sum R.product R.one) where
    reflexive_all : (a : List A) → AllZip R.same a a
    reflexive_all [] = tt
    reflexive_all (c ∷ a) = (E.reflexive c, reflexive_all a)

    alike_values : (a : List A) (shares : List (Share A)) (xs : List A) → ArePointsOf shares xs
        → AllZip R.same (map (λ x. value_in_ring R a x) (points R shares)) (map (λ x. value_in_ring R a x) xs)
    alike_values a [] [] h = tt
    alike_values a [] (x ∷ xs) h = absurd h
    alike_values a (s ∷ shares) [] h = absurd h
    alike_values a (s ∷ shares) (x ∷ xs) h =
        (value_over-respects E G (ring_is_module E G P L) E P (point R s.index) x (E.symmetric _ _ h.0) a a (reflexive_all a), alike_values a shares xs h.1)

    alike_sums : (shares : List (Share A)) (vs weights : List A) → AllZip (λ share v. R.same v share.value) shares vs
        → R.same (weighted_sum R.zero R.sum R.product vs weights) (weighted_sum R.zero R.sum R.product (values shares) weights)
    alike_sums [] [] weights h = E.reflexive R.zero
    alike_sums [] (v ∷ vs) weights h = absurd h
    alike_sums (s ∷ shares) [] weights h = absurd h
    alike_sums (s ∷ shares) (v ∷ vs) [] h = E.reflexive R.zero
    alike_sums (s ∷ shares) (v ∷ vs) (w ∷ weights) h = G.respects_sum _ _ _ _ (P.respects _ _ _ _ h.0 (E.reflexive w)) (alike_sums shares vs weights h.1)

    pub combined : (shares : List (Share A)) (xs vs weights : List A) (secret : A) → ArePointsOf shares xs → AllZip (λ share v. R.same v share.value) shares vs
        → AreWeightsAt R R.zero xs weights → R.same secret (weighted_sum R.zero R.sum R.product vs weights) → IsCombined R shares secret
    combined shares xs vs weights secret h copies W s =
        let count : length xs ≡ length (points R shares) = length_all_zip R.same xs (points R shares) (alike_points shares xs h) in
        record {
          weights = weights;
          give = record {
            lengths = sym count ∙ W.lengths;
            give = λ a l.
                interpolated-value E G P L E G (ring_is_module E G P L) (weighted_sum R.zero R.sum R.product (map (λ x. value_in_ring R a x) (points R shares)) weights)
                (map (λ x. value_in_ring R a x) (points R shares)) weights (E.reflexive _) R.zero xs a W (omega (arith, l, count)) (alike_values a shares xs h);
          };
          sum = E.transitive _ _ _ s (alike_sums shares vs weights copies);
        }
