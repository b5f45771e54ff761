-- From points and copies of values to those of the shares.
use Rattle.std.proofs.Common.{◌≡◌, ◌∙◌, ℕ, List, [], ◌∷◌, length, get_or, sym, arith}
use Rattle.std.specs.List.{AllZip}
use Rattle.std.proofs.lemmas.List.{length-map}
use Rattle.std.proofs.lemmas.List.Elements.{AllZip-get_or, length_all_zip}
use Rattle.math_theory.specs.Laws.{IsEquality, IsGroup, IsProduct, IsRing}
use Rattle.math_theory.specs.ModuleLaws.{ring_is_module}
use Rattle.math_theory.proofs.polynomials.Horner.{value_over-at_zero}
use Rattle.math_base.specs.Members.{RingOf}
use Rattle.math_base.specs.Polynomials.{value_in_ring}
use Rattle.math_decoding.specs.Decodings.{IsDecoded, IsWithinRadius}
use Rattle.math_decoding.proofs.AlikeValues.{AreAlike, alike-back, radius-alike, places-alike}
use Rattle.shared_secret.specs.declared.shares.Share.{Share}
use Rattle.shared_secret.specs.Shares.{point, points, values}
use Rattle.shared_secret.specs.CorrectedShares.{AreSharesWithinRadius, IsCorrectedSecret}
use Rattle.shared_secret.proofs.CombinedShares.{alike_points}

module _ {A : Type 0} (R : RingOf A) (E : IsEquality R.same) (G : IsGroup R.same R.zero R.sum R.negative) where
  abbrev AreValuesOf : List (Share A) → List A → Type 0
  AreValuesOf shares vs = AllZip (λ share v. R.same v share.value) shares vs

  abbrev ArePointsOf : List (Share A) → List A → Type 0
  ArePointsOf shares xs = AllZip (λ share x. R.same x (point R share.index)) shares xs

  alike-lists : (xs ys : List A) → AllZip R.same xs ys → AreAlike R.same R.zero xs ys
  alike-lists xs ys h = record { count = length_all_zip R.same xs ys h; alike = λ i l. AllZip-get_or R.same xs ys i R.zero R.zero h l }

  copied : (shares : List (Share A)) (vs : List A) → AreValuesOf shares vs → AllZip R.same vs (values shares)
  copied [] [] h = tt
  copied [] (v ∷ vs) h = absurd h
  copied (s ∷ shares) [] h = absurd h
  copied (s ∷ shares) (v ∷ vs) h = (h.0, copied shares vs h.1)

  alike-points_of : (shares : List (Share A)) (xs : List A) → ArePointsOf shares xs → AreAlike R.same R.zero xs (points R shares)
  alike-points_of shares xs h = alike-lists xs (points R shares) (alike_points R E G shares xs h)

  alike-values_of : (shares : List (Share A)) (vs : List A) → AreValuesOf shares vs → AreAlike R.same R.zero vs (values shares)
  alike-values_of shares vs h = alike-lists vs (values shares) (copied shares vs h)

  pub point_count : (shares : List (Share A)) (xs : List A) → ArePointsOf shares xs → length xs ≡ length shares
  point_count shares xs h = (alike-points_of shares xs h).count ∙ length-map shares (λ s. point R s.index)

  pub value_count : (shares : List (Share A)) (vs : List A) → AreValuesOf shares vs → length vs ≡ length shares
  value_count shares vs h = (alike-values_of shares vs h).count ∙ length-map shares (λ s. s.value)

  module _ (P : IsProduct R.same R.product) (L : IsRing R.same R.sum R.product R.one) where
    -- the first coefficient is the value at zero
    pub constant_at_zero : (p : List A) (c : A) → R.same c (get_or p 0 R.zero) → R.same c (value_in_ring R p R.zero)
    constant_at_zero p c h = E.transitive _ _ _ h (E.symmetric _ _ (value_over-at_zero E G (ring_is_module E G P L) p))

    -- what is decoded from the points and copies is decoded from the shares
    pub corrected : (t : ℕ) (shares : List (Share A)) (xs vs a : List A) (wrong : List ℕ) (secret : A) → ArePointsOf shares xs → AreValuesOf shares vs
        → IsDecoded R xs vs t a wrong → R.same secret (value_in_ring R a R.zero) → IsCorrectedSecret R t shares secret wrong
    corrected t shares xs vs a wrong secret h k d s =
        let ps = alike-points_of shares xs h in
        let ws = alike-values_of shares vs k in
        let e : length vs ≡ length xs = value_count shares vs k ∙ sym (point_count shares xs h) in
        let e' : length (values shares) ≡ length (points R shares) = sym ws.count ∙ e ∙ ps.count in
        record {
          polynomial = a;
          decoded = record {
            number = d.number;
            places = places-alike E G P L xs (points R shares) vs (values shares) a wrong ps ws e d.places;
            few = omega (arith, d.few, ps.count);
            only = λ b w. d.only b (radius-alike E G P L (points R shares) xs (values shares) vs b t (alike-back E G P L xs (points R shares) ps) (alike-back E G P L vs (values shares) ws) e' w);
          };
          constant = s;
        }

    -- and where there is nothing within the radius of those, there is nothing within that of the shares
    pub none-corrected : (t : ℕ) (shares : List (Share A)) (xs vs : List A) → ArePointsOf shares xs → AreValuesOf shares vs
        → ((a : List A) → ¬ (IsWithinRadius R xs vs t a)) → (p : List A) → ¬ (AreSharesWithinRadius R t p shares)
    none-corrected t shares xs vs h k none p w =
        let ps = alike-points_of shares xs h in
        let ws = alike-values_of shares vs k in
        let e : length vs ≡ length xs = value_count shares vs k ∙ sym (point_count shares xs h) in
        let e' : length (values shares) ≡ length (points R shares) = sym ws.count ∙ e ∙ ps.count in
        none p (radius-alike E G P L (points R shares) xs (values shares) vs p t (alike-back E G P L xs (points R shares) ps) (alike-back E G P L vs (values shares) ws) e' w)
