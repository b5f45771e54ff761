-- The points of indices in the Goldilocks field, and polynomials there that are the same.
use Rattle.std.proofs.Common.{◌≡◌, ◌≢◌, ◌∙◌, ℕ, zero, suc, ◌+◌, ◌%◌, ◌<◌, ◌≤◌, ◌^◌, List, [], ◌∷◌, length, map, get_or, refl, sym, ap, ap₂, arith, mod-eq_of_lt}
use Rattle.std.specs.List.{All, AllPairs}
use Rattle.std.proofs.lemmas.List.{get_or-map, length-map}
use Rattle.std.proofs.lemmas.List.Elements.{All-head, All-tail}
use Rattle.math_fields.proofs.ElementNumbers.{same_number}
use Rattle.math_numbers.specs.Goldilocks.{P}
use Rattle.math_theory.specs.Interpolation.{AreApart}
use Rattle.math_theory.specs.Powers.{power-suc, power-zero}
use Rattle.math_theory.proofs.classes.Classes.{class, same_class, ring_of_classes}
use Rattle.math_theory.proofs.classes.ClassesOfLists.{value-class}
use Rattle.math_theory.proofs.classes.ClassesOfProducts.{HaveSameCoefficients-classes}
use Rattle.math_theory.proofs.decoding.CarriedDecoding.{decoding_once-same}
use Rattle.math_theory.proofs.polynomials.Coefficients.{value-HaveSameCoefficients}
use Rattle.math_fields.specs.declared.goldilocks.F.{F}
use Rattle.math_fields.specs.ElementLaws.{commutes, equality, group, ring}
use Rattle.math_fields.specs.ElementRootLaws.{field}
use Rattle.math_fields.specs.Elements.{number, residue, same, sum, goldilocks}
use Rattle.math_base.specs.Polynomials.{value_in_ring}
use Rattle.math_decoding.specs.Polynomials.{AreSame}
use Rattle.secret_bytes.specs.declared.share.SecretShare.{SecretShare}
use Rattle.shared_secret.specs.declared.shares.Share.{Share}
use Rattle.shared_secret.specs.CorrectedShares.{AreSharesWithinRadius}
use Rattle.shared_secret.specs.Shares.{point, points, values}
use Rattle.secret_bytes.specs.Columns.{column, share_of}

-- the number of the point of an index below P is the index
pub point-number : (n : ℕ) → n < P → number (point goldilocks n) ≡ n
point-number zero l = ap number (power-zero (residue 0) sum (residue 1))
point-number (suc n) l =
    let before : number (point goldilocks n) ≡ n = point-number n (omega (arith, l)) in
    let next : number (point goldilocks (suc n)) ≡ (number (point goldilocks n) + 1) % P = ap number (power-suc (residue 0) sum (residue 1) n) in
    next ∙ ap (λ m. (m + 1) % P) before ∙ mod-eq_of_lt (omega (arith, l)) ∙ omega arith

-- the indices as elements are the points of the shares
pub points-of_indices : (j : ℕ) (shares : List SecretShare) → All (λ s. s.index < 2 ^ 32) shares → map (λ (s : SecretShare). residue s.index) shares ≡ points goldilocks (column j shares)
points-of_indices j [] small = refl
points-of_indices j (s ∷ shares) small =
    let few : s.index < 2 ^ 32 = All-head (λ (u : SecretShare). u.index < 2 ^ 32) s shares small in
    let below : s.index < P = omega (arith, few) in
    let first : residue s.index ≡ point goldilocks s.index = same_number _ _ (mod-eq_of_lt below ∙ sym (point-number s.index below)) in
    ap₂ (λ (x : F) (xs : List F). x ∷ xs) first (points-of_indices j shares (All-tail (λ (u : SecretShare). u.index < 2 ^ 32) s shares small))

-- shares of distinct indices below 2^32 are at points of which no two are same
pub points_apart : (j : ℕ) (shares : List SecretShare) → AllPairs (λ s u. s.index ≢ u.index) shares → All (λ s. s.index < 2 ^ 32) shares → AreApart same (points goldilocks (column j shares))
points_apart j shares apart small i k x l m h =
    let long : length (points goldilocks (column j shares)) ≡ length shares = points-count j shares in
    let below : k < length shares = omega (arith, m, long) in
    let s = item_at shares i (omega (arith, l, below)) in
    let u = item_at shares k below in
    let first : number (get_or (points goldilocks (column j shares)) i x) ≡ (get_or shares i s).index =
    ap number (point_at j shares i s x (omega (arith, l, below))) ∙ point-number (get_or shares i s).index (omega (arith, small i s (omega (arith, l, below)))) in
    let second : number (get_or (points goldilocks (column j shares)) k x) ≡ (get_or shares k s).index =
    ap number (point_at j shares k s x below) ∙ point-number (get_or shares k s).index (omega (arith, small k s below)) in
    apart i k s l below (sym first ∙ h ∙ second)
  where
    points-count : (j : ℕ) (shares : List SecretShare) → length (points goldilocks (column j shares)) ≡ length shares
    points-count j shares = length-map (column j shares) (λ (v : Share F). point goldilocks v.index) ∙ length-map shares (share_of j)

    item_at : (shares : List SecretShare) (i : ℕ) → i < length shares → SecretShare
    item_at [] i l = absurd (omega (arith, l))
    item_at (s ∷ shares) i l = s

    point_at : (j : ℕ) (shares : List SecretShare) (i : ℕ) (d : SecretShare) (x : F) → i < length shares → get_or (points goldilocks (column j shares)) i x ≡ point goldilocks (get_or shares i d).index
    point_at j shares i d x l =
        get_or-map (λ (v : Share F). point goldilocks v.index) (column j shares) i (share_of j d) x (omega (arith, l, length-map shares (share_of j)))
        ∙ ap (λ (v : Share F). point goldilocks v.index) (get_or-map (share_of j) shares i d (share_of j d) l)

-- two polynomials within the radius of shares at distinct points are the same
pub within-once : (t : ℕ) (shares : List (Share F)) (p q : List F) → AreApart same (points goldilocks shares) → t ≤ length shares → AreSharesWithinRadius goldilocks t p shares
    → AreSharesWithinRadius goldilocks t q shares → AreSame goldilocks q p
within-once t shares p q apart enough h k =
    decoding_once-same equality group commutes ring field (points goldilocks shares) (values shares) q p t apart (omega (arith, enough, length-map shares (λ (v : Share F). point goldilocks v.index))) h k

-- polynomials that are the same have the same values
pub values-same : (p q : List F) (x : F) → AreSame goldilocks p q → same (value_in_ring goldilocks p x) (value_in_ring goldilocks q x)
values-same p q x h =
    same_class equality _ _
    (sym (value-class equality group commutes ring x p)
    ∙ value-HaveSameCoefficients (ring_of_classes equality group commutes ring) (class equality x) (map (class equality) p) (map (class equality) q) (HaveSameCoefficients-classes equality group commutes ring p q h)
    ∙ value-class equality group commutes ring x q)
