-- The spelling of a share is a list of bytes.
use Rattle.std.proofs.Common.{◌≡◌, ℕ, zero, suc, ◌+◌, ◌*◌, ◌/◌, ◌%◌, ◌<◌, List, [], ◌∷◌, Bool, true, false, cond, ltb, length, refl, sym, subst, arith}
use Rattle.std.proofs.lemmas.Bool.{ltb-true}
use Rattle.std.specs.Int.{to_be_bytes, w64}
use Rattle.std.specs.List.{All, flat_map}
use Rattle.std.proofs.lemmas.List.Concat.{flat_map-cons}
use Rattle.std.proofs.lemmas.List.Elements.{All-nil, All-cons, All-append}
use Rattle.math_codec.specs.Lengths.{groups}
use Rattle.math_fields.specs.declared.goldilocks.F.{F}
use Rattle.math_fields.specs.Elements.{number}
use Rattle.secret_bytes.specs.declared.share.SecretShare.{SecretShare}
use Rattle.secret_bytes.specs.SecretShares.{AdmitsShare, element_spelling, share_spelling}

abbrev AreBytes : List ℕ → Type 0
AreBytes xs = All (λ b. b < 256) xs

abbrev limit : ℕ → ℕ
limit zero = 256
limit (suc m) = 128 * limit m

groups-bytes : (more n : ℕ) → n < limit more → AreBytes (groups more n)
unfolding groups
groups-bytes zero n l = All-cons (λ b. b < 256) n [] l (All-nil (λ b. b < 256))
groups-bytes (suc more) n l = step (ltb n 128) refl (groups-bytes more (n / 128) (omega (arith, l)))
  where
    step : (b : Bool) → ltb n 128 ≡ b → AreBytes (groups more (n / 128)) → AreBytes (cond b (n ∷ []) ((128 + n % 128) ∷ groups more (n / 128)))
    step true e h = All-cons (λ b. b < 256) n [] (omega (arith, ltb-true n 128 e)) (All-nil (λ b. b < 256))
    step false e h = All-cons (λ b. b < 256) (128 + n % 128) (groups more (n / 128)) (omega arith) h

below : (n : ℕ) → n % 256 < 256
below n = omega arith

eight : {a b c d e f g h : ℕ} → a < 256 → b < 256 → c < 256 → d < 256 → e < 256 → f < 256 → g < 256 → h < 256 → AreBytes (a ∷ b ∷ c ∷ d ∷ e ∷ f ∷ g ∷ h ∷ [])
eight {a} {b} {c} {d} {e} {f} {g} {h} la lb lc ld le lf lg lh =
    let P : ℕ → Type 0 = λ x. x < 256 in
    All-cons P a (b ∷ c ∷ d ∷ e ∷ f ∷ g ∷ h ∷ []) la (All-cons P b (c ∷ d ∷ e ∷ f ∷ g ∷ h ∷ []) lb (All-cons P c (d ∷ e ∷ f ∷ g ∷ h ∷ []) lc (All-cons P d (e ∷ f ∷ g ∷ h ∷ []) ld
    (All-cons P e (f ∷ g ∷ h ∷ []) le (All-cons P f (g ∷ h ∷ []) lf (All-cons P g (h ∷ []) lg (All-cons P h [] lh (All-nil P))))))))

pub word-bytes : (n : ℕ) → AreBytes (to_be_bytes w64 n)
word-bytes n =
    eight (below (n / 72057594037927936)) (below (n / 281474976710656)) (below (n / 1099511627776)) (below (n / 4294967296)) (below (n / 16777216)) (below (n / 65536)) (below (n / 256)) (below n)

values-bytes : (xs : List F) → AreBytes (flat_map element_spelling xs)
values-bytes [] = All-nil (λ b. b < 256)
values-bytes (x ∷ xs) =
    subst AreBytes (sym (flat_map-cons element_spelling x xs)) (All-append (λ b. b < 256) (element_spelling x) (flat_map element_spelling xs) (word-bytes (number x)) (values-bytes xs))

pub share-bytes : (most : ℕ) (s : SecretShare) → AdmitsShare most s → AreBytes (share_spelling s)
share-bytes most s h =
    let P : ℕ → Type 0 = λ b. b < 256 in
    let count = groups-bytes 4 (length s.values.items) (omega (arith, h.values.fits)) in
    All-append P (groups 4 s.threshold) _ (groups-bytes 4 s.threshold (omega (arith, h.threshold_fits)))
    (All-append P (groups 4 s.index) _ (groups-bytes 4 s.index (omega (arith, h.index_fits)))
    (All-append P (element_spelling s.deal) _ (word-bytes (number s.deal)) (All-append P (groups 4 (length s.values.items)) _ count (values-bytes s.values.items))))
