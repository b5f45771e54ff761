-- Where the search for wrong shares ends with too many, nothing is recovered.
use Rattle.std.proofs.Common.{◌≡◌, ◌≢◌, ◌∙◌, ℕ, zero, suc, ◌+◌, ◌<◌, ◌≤◌, inl, inr, Bool, true, false, eqb, List, [], ◌∷◌, ◌++◌, length, get_or, refl, sym, ap, subst, arith}
use Rattle.std.specs.List.{All, AllPairs, Contains, filter}
use Rattle.std.proofs.lemmas.Bool.{cases_Bool, eq-eqb}
use Rattle.std.proofs.lemmas.List.{get_or_default}
use Rattle.std.proofs.lemmas.List.Elements.{All-append, All-contains, All-head, All-tail}
use Rattle.math_fields.specs.declared.goldilocks.F.{F}
use Rattle.secret_bytes.specs.declared.share.SecretShare.{SecretShare}
use Rattle.shared_secret.specs.CorrectedShares.{AreSharesWithinRadius, IsCorrectedSecret}
use Rattle.math_decoding.specs.Polynomials.{AreSame}
use Rattle.math_fields.specs.Elements.{goldilocks}
use Rattle.secret_bytes.specs.Columns.{column}
use Rattle.secret_bytes.specs.Combined.{AreElementsOfShares, FitsShare, IsWrong, is_outside, others}
use Rattle.secret_bytes.specs.Passes.{AreReady, indices_at}
use Rattle.secret_bytes.proofs.LeftShares.{filter-has, left-count, others-each, outside-cases, pairs-head, pairs-tail}
use Rattle.secret_bytes.proofs.RecoveredShares.{IsProgress, apart-more, at-wrong, fits-cases, fits-same, kept-each, more-count, progress-ready, within}

-- a test that passes less keeps no more
fewer-kept : (p q : ℕ → Bool) → ((i : ℕ) → p i ≡ true → q i ≡ true) → (xs : List ℕ) → length (filter p xs) ≤ length (filter q xs)
fewer-kept p q h [] = omega arith
fewer-kept p q h (x ∷ xs) =
    let rest = fewer-kept p q h xs in
    elim (cases_Bool (p x)) as (λ _. length (filter p (x ∷ xs)) ≤ length (filter q (x ∷ xs))) [
      | inl t ↦ rw (t, h x t) (omega (arith, rest))
      | inr f ↦ rw f (elim (cases_Bool (q x)) as (λ _. length (filter p xs) ≤ length (filter q (x ∷ xs))) [
        | inl u ↦ rw u (omega (arith, rest))
        | inr g ↦ rw g rest
      ])
    ]

-- and fewer where it does not pass one of them
one-less : (p q : ℕ → Bool) → ((i : ℕ) → p i ≡ true → q i ≡ true) → (xs : List ℕ) (w : ℕ) → Contains xs w → p w ≡ false → q w ≡ true → length (filter p xs) + 1 ≤ length (filter q xs)
one-less p q h [] w (k, l, e) f t = absurd (omega (arith, l))
one-less p q h (x ∷ xs) w (zero, l, e) f t =
    let a : p x ≡ false = ap p e ∙ f in
    let b : q x ≡ true = ap q e ∙ t in
    rw (a, b) (omega (arith, fewer-kept p q h xs))
one-less p q h (x ∷ xs) w (suc k, l, e) f t =
    let rest = one-less p q h xs w (k, omega (arith, l), e) f t in
    elim (cases_Bool (p x)) as (λ _. length (filter p (x ∷ xs)) + 1 ≤ length (filter q (x ∷ xs))) [
      | inl u ↦ rw (u, h x u) (omega (arith, rest))
      | inr g ↦ rw g (elim (cases_Bool (q x)) as (λ _. length (filter p xs) + 1 ≤ length (filter q (x ∷ xs))) [
        | inl v ↦ rw v (omega (arith, rest))
        | inr o ↦ rw o rest
      ])
    ]

-- of some indices those are left that are none of others among them
pub without-count : (ws all : List ℕ) → AllPairs (λ i k. i ≢ k) ws → All (Contains all) ws → length (filter (is_outside ws) all) + length ws ≤ length all
without-count [] all apart among = omega (arith, all-kept all)
  where
    all-kept : (xs : List ℕ) → length (filter (is_outside []) xs) ≡ length xs
    all-kept [] = refl
    all-kept (x ∷ xs) = ap suc (all-kept xs)
without-count (w ∷ ws) all apart among =
    let rest = without-count ws all (pairs-tail (λ (i k : ℕ). i ≢ k) w ws apart) (All-tail (Contains all) w ws among) in
    let out : is_outside ws w ≡ true = elim (outside-cases ws w) as (λ _. is_outside ws w ≡ true) [
      | inl there ↦ absurd (pairs-head (λ (i k : ℕ). i ≢ k) w ws apart there.0 w there.1 (sym there.2))
      | inr none ↦ none.0
    ] in
    let here : is_outside (w ∷ ws) w ≡ false = rw (eq-eqb w w refl) refl in
    omega (arith, rest, one-less (is_outside (w ∷ ws)) (is_outside ws) passes all w (All-head (Contains all) w ws among) here out)
  where
    passes : (i : ℕ) → is_outside (w ∷ ws) i ≡ true → is_outside ws i ≡ true
    passes i e =
        elim (cases_Bool (eqb w i)) as (λ _. is_outside ws i ≡ true) [
          | inl t ↦ let z : is_outside (w ∷ ws) i ≡ false = rw t refl in cc
          | inr f ↦ rw f at e
        ]

module _ (t width : ℕ) (shares kept : List SecretShare) (wrong : List ℕ) (ready : AreReady t width shares) (g : IsProgress t width shares kept wrong)
    (all : List F) (ws : List ℕ) (r : AreElementsOfShares t width shares all ws) where
  -- the indices that were found are those of wrong shares
  found-among : All (Contains ws) wrong
  found-among k d l =
      let w = g.found k d l in
      subst (Contains ws) w.2 ((All-contains (λ (s : SecretShare). (Contains ws s.index → IsWrong t width shares s) × (IsWrong t width shares s → Contains ws s.index)) shares w.0 r.exactly w.1).1 w.3)

  -- each other share fits the polynomial of each element
  fits-right : (j : ℕ) (l : j < width) (s : SecretShare) → Contains shares s → ¬ (Contains ws s.index) → FitsShare j (r.elements j l).polynomial s
  fits-right j l s here n =
      elim (fits-cases j (r.elements j l).polynomial s) as (λ _. FitsShare j (r.elements j l).polynomial s) [
        | inl f ↦ f
        | inr o ↦ absurd (n ((All-contains (λ (s : SecretShare). (Contains ws s.index → IsWrong t width shares s) × (IsWrong t width shares s → Contains ws s.index)) shares s r.exactly here).1
            (j, (r.elements j l).polynomial, l, (r.elements j l).within, o)))
      ]

  -- so it is within the radius of those that are left
  within-left : (j : ℕ) (l : j < width) → AreSharesWithinRadius goldilocks t (r.elements j l).polynomial (column j kept)
  within-left j l =
      let rest = filter (is_outside wrong) ws in
      let fewer = without-count wrong ws g.apart found-among in
      let left = left-count wrong shares ready.apart in
      let kept-long : length kept ≡ length (others wrong shares) = ap length g.left in
      within t j kept rest (r.elements j l).polynomial (progress-ready t width shares kept wrong ready g).apart (r.elements j l).within.0
      (omega (arith, fewer, left, kept-long, r.few))
      (λ k d m.
      let s = get_or (others rest kept) k d in
      let each = others-each rest kept k d m in
      let of_shares = All-contains (λ (u : SecretShare). Contains shares u × ¬ (Contains wrong u.index)) (others wrong shares) s (others-each wrong shares) (subst (λ us. Contains us s) g.left each.0) in
      let outside : is_outside wrong s.index ≡ true = elim (outside-cases wrong s.index) as (λ _. is_outside wrong s.index ≡ true) [
        | inl there ↦ absurd (of_shares.1 there)
        | inr none ↦ none.0
      ] in
      fits-right j l s of_shares.0 (λ n. each.1 (filter-has (is_outside wrong) ws s.index n outside)))

  -- no element is without a polynomial within the radius
  pub not-none : (j : ℕ) → j < width → ¬ ((p : List F) → ¬ (AreSharesWithinRadius goldilocks t p (column j kept)))
  not-none j l none = none (r.elements j l).polynomial (within-left j l)

  -- and not too many shares are found
  pub not-more : (j : ℕ) (a : F) (places : List ℕ) (l : j < width) (h : IsCorrectedSecret goldilocks t (column j kept) a places)
      → ¬ (length shares < length (wrong ++ indices_at kept places) + length (wrong ++ indices_at kept places) + t)
  not-more j a places l h many =
      let same_polynomial : AreSame goldilocks (r.elements j l).polynomial h.polynomial = h.decoded.only (r.elements j l).polynomial (within-left j l) in
      let new : All (Contains ws) (indices_at kept places) =
      λ k d m.
      let s = at-wrong t width shares kept wrong j a places ready g l h k (omega (arith, m, more-count t width shares kept wrong j a places ready g l h)) in
      let of_shares = kept-each t width shares kept wrong j a places ready g l h s.0 s.1 in
      let there : Contains ws s.0.index = elim (outside-cases ws s.0.index) as (λ _. Contains ws s.0.index) [
        | inl c ↦ c
        | inr none ↦ absurd (s.4 (fits-same j (r.elements j l).polynomial h.polynomial s.0 same_polynomial (fits-right j l s.0 of_shares.0 none.1)))
      ] in
      subst (Contains ws) (sym s.2 ∙ get_or_default (indices_at kept places) k 0 d m) there in
      let count = without-count (wrong ++ indices_at kept places) ws (apart-more t width shares kept wrong j a places ready g l h) (All-append (Contains ws) wrong (indices_at kept places) found-among new) in
      omega (arith, count, many, r.few)
