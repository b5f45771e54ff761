-- A change of the elements of bytes that does not depend on the key is combined to other bytes for few keys.
use Rattle.std.proofs.Common.{◌≡◌, ◌≢◌, ◌∙◌, ◌⊎◌, inl, inr, ℕ, zero, suc, ◌+◌, ◌-◌, ◌*◌, ◌%◌, ◌<◌, ◌≤◌, List, [], ◌∷◌, ◌++◌, length, take, get_or, map, refl, sym, ap, ap₂, arith}
use Rattle.std.specs.List.{All}
use Rattle.std.proofs.Math.Nat.{mod-eq_of_lt, zero-mul}
use Rattle.std.proofs.lemmas.Bool.{cases_eq}
use Rattle.std.proofs.lemmas.List.{length-take-le}
use Rattle.std.proofs.lemmas.List.Elements.{All-head}
use Rattle.math_numbers.specs.Goldilocks.{P}
use Rattle.math_theory.specs.Interpolation.{AreApart}
use Rattle.math_theory.specs.Powers.{multiple, power-suc, power-zero}
use Rattle.math_theory.proofs.classes.RingUpToSame.{combine2_same}
use Rattle.math_theory.proofs.rings.Normal.{◌⊗◌, ◌⊖◌, 𝟘, 𝟙, v0, v1, v2}
use Rattle.math_fields.specs.declared.goldilocks.F.{F}
use Rattle.math_fields.specs.ElementLaws.{commutes, equality, group, ring}
use Rattle.math_fields.specs.ElementRootLaws.{field}
use Rattle.math_fields.specs.Elements.{inverse, number, product, residue, same, sum}
use Rattle.math_fields.proofs.ElementNumbers.{same_number}
use Rattle.secret_bytes.specs.declared.share.SecretShare.{SecretShare}
use Rattle.secret_bytes.specs.Combined.{AreCombined}
use Rattle.secret_bytes.specs.KeyChecks.{added, check_of}
use Rattle.secret_bytes.specs.Keyed.{AreKeyedBy, element_count}
use Rattle.secret_bytes.specs.Packings.{ArePackedBytes}
use Rattle.secret_bytes.proofs.KeyedBytes.{keyed-parts}
use Rattle.secret_bytes.proofs.PackedAlone.{packed-alone}
use Rattle.secret_bytes.proofs.SeenChanges.{few_keys}
use Rattle.secret_bytes.proofs.UnpackedBytes.{packed-length, packed-once}

-- with this key, some shares are combined to other bytes: the elements that they give are those of the bytes, the key and the check, each with what is added to it
pub record PassesAsOther (bytes : List ℕ) (ds : List F) (key : F) : Type 0 where
  pub all : List F
  pub keyed : AreKeyedBy key bytes all
  pub shares : List SecretShare
  pub found : List ℕ
  pub wrong : List ℕ
  pub combined : AreCombined shares found wrong
  pub changed : combined.all ≡ added sum all ds
  pub other : found ≢ bytes

-- a multiple as a product
multiple-number : (a : F) (m : ℕ) → number (multiple (residue 0) sum a m) ≡ (m * number a) % P
multiple-number a zero = ap number (power-zero (residue 0) sum a) ∙ sym (ap (λ k. k % P) (zero-mul (number a)))
multiple-number a (suc m) =
    let next : number (multiple (residue 0) sum a (suc m)) ≡ (number (multiple (residue 0) sum a m) + number a) % P = ap number (power-suc (residue 0) sum a m) in
    let more : suc m * number a ≡ m * number a + number a = grind arith in
    next ∙ ap (λ n. (n + number a) % P) (multiple-number a m) ∙ mod-sum (m * number a) (number a) ∙ ap (λ n. n % P) (sym more)
  where
    mod-sum : (x y : ℕ) → (x % P + y) % P ≡ (x + y) % P
    mod-sum x y = omega arith

-- so many times an element are zero for zero alone
no-multiple : (m : ℕ) → 0 < m → m < P → (a : F) → same (multiple (residue 0) sum a m) (residue 0) → same a (residue 0)
no-multiple m some small a h =
    let some_m : ¬ (same (residue m) (residue 0)) = λ e. omega (arith, sym (mod-eq_of_lt small) ∙ e, some) in
    let zero_product : same (product (residue m) a) (residue 0) = ap (λ k. (k * number a) % P) (mod-eq_of_lt small) ∙ sym (multiple-number a m) ∙ h in
    combine2_same equality group commutes ring (a ∷ residue m ∷ inverse (residue m) ∷ []) v0 𝟘 v2 (v1 ⊗ v0) 𝟘 (𝟘 ⊖ v0) (v1 ⊗ v2) 𝟙 zero_product (field.inverts (residue m) some_m) refl

-- what is added to a list whose end is added to apart
added-end : (xs : List F) (key check : F) (ds : List F) → length ds ≡ length xs + 2
    → added sum (xs ++ (key ∷ check ∷ [])) ds
    ≡ added sum xs (take (length xs) ds) ++ (sum key (get_or ds (length xs) (residue 0)) ∷ sum check (get_or ds (suc (length xs)) (residue 0)) ∷ [])
added-end [] key check [] e = absurd (omega (arith, e))
added-end [] key check (d ∷ []) e = absurd (omega (arith, e))
added-end [] key check (d ∷ f ∷ []) e = refl
added-end [] key check (d ∷ f ∷ g ∷ ds) e = absurd (omega (arith, e))
added-end (x ∷ xs) key check [] e = absurd (omega (arith, e))
added-end (x ∷ xs) key check (d ∷ ds) e = ap (λ ys. sum x d ∷ ys) (added-end xs key check ds (omega (arith, e)))

-- nothing is added, or there is a place at which something is
added-somewhere : (xs ds : List F) → length ds ≡ length xs → (added sum xs ds ≡ xs) ⊎ ((k : ℕ) × (k < length ds) × ¬ (same (get_or ds k (residue 0)) (residue 0)))
added-somewhere [] [] e = inl refl
added-somewhere [] (d ∷ ds) e = absurd (omega (arith, e))
added-somewhere (x ∷ xs) [] e = absurd (omega (arith, e))
added-somewhere (x ∷ xs) (d ∷ ds) e =
    let Somewhere : Type 0 = (added sum (x ∷ xs) (d ∷ ds) ≡ x ∷ xs) ⊎ ((k : ℕ) × (k < length (d ∷ ds)) × ¬ (same (get_or (d ∷ ds) k (residue 0)) (residue 0))) in
    elim (cases_eq (number d) (number (residue 0))) as (λ _. Somewhere) [
      | inr other ↦ inr (0, omega arith, other)
      | inl zero_d ↦ elim (added-somewhere xs ds (omega (arith, e))) as (λ _. Somewhere) [
        | inl rest ↦ inl (ap₂ (λ y ys. y ∷ ys) (same_number (sum x d) x (plus-zero x d zero_d)) rest)
        | inr place ↦ inr (suc place.0, omega (arith, place.1), place.2)
      ]
    ]
  where
    plus-zero : (x d : F) → same d (residue 0) → same (sum x d) x
    plus-zero x d h = equality.transitive (sum x d) (sum x (residue 0)) x (group.respects_sum x x d (residue 0) (equality.reflexive x) h)
        (equality.transitive (sum x (residue 0)) (sum (residue 0) x) x (group.commutative x (residue 0)) (group.identity x))

module _ (bytes : List ℕ) (ds es : List F) (packed : ArePackedBytes es bytes) (count : length ds ≡ element_count (length bytes)) where
  low : List F
  low = take (length es) ds

  e : F
  e = get_or ds (length es) (residue 0)

  f : F
  f = get_or ds (suc (length es)) (residue 0)

  size : length ds ≡ length es + 2
  size = omega (arith, count, packed-length es bytes packed)

  low-size : length low ≡ length es
  unfolding low
  low-size = length-take-le (length es) ds (omega (arith, size))

  -- the check of the elements under the key
  fits-key : (key : F) (p : PassesAsOther bytes ds key) → same p.keyed.0.check (check_of sum product es key)
  fits-key key p =
      p.keyed.0.fits ∙ ap₂ (λ xs x. number (check_of sum product xs x)) (packed-alone p.keyed.0.elements es bytes p.keyed.0.packed packed) p.keyed.1

  -- what the shares give, in its parts
  parts : (key : F) (p : PassesAsOther bytes ds key)
      → (p.combined.keyed.elements ≡ added sum es low) × (p.combined.keyed.key ≡ sum key e) × (p.combined.keyed.check ≡ sum p.keyed.0.check f)
  unfolding low e f
  parts key p =
      let k = p.keyed.0 in
      let all : p.all ≡ es ++ (key ∷ k.check ∷ []) = k.parts ∙ ap₂ (λ xs x. xs ++ (x ∷ k.check ∷ [])) (packed-alone k.elements es bytes k.packed packed) p.keyed.1 in
      keyed-parts p.combined.all (added sum es (take (length es) ds)) (sum key (get_or ds (length es) (residue 0))) (sum k.check (get_or ds (suc (length es)) (residue 0))) p.found
      (p.changed ∙ ap (λ xs. added sum xs ds) all ∙ added-end es key k.check ds size) p.combined.keyed

  passes : (key : F) → PassesAsOther bytes ds key → same (sum (check_of sum product es key) f) (check_of sum product (added sum es low) (sum key e))
  passes key p =
      let K = p.combined.keyed in
      let is = parts key p in
      let check : same (sum p.keyed.0.check f) (check_of sum product (added sum es low) (sum key e)) =
      ap number (sym is.2) ∙ K.fits ∙ ap₂ (λ xs x. number (check_of sum product xs x)) is.0 is.1 in
      let mine = check_of sum product es key in
      let given = p.keyed.0.check in
      equality.transitive (sum mine f) (sum given f) (check_of sum product (added sum es low) (sum key e))
      (group.respects_sum mine given f f (equality.symmetric given mine (fits-key key p)) (equality.reflexive f)) check

  place : (key : F) → PassesAsOther bytes ds key → (k : ℕ) × (k < length low) × ¬ (same (get_or low k (residue 0)) (residue 0))
  place key p = elim (added-somewhere es low low-size) as (λ _. (k : ℕ) × (k < length low) × ¬ (same (get_or low k (residue 0)) (residue 0))) [
    | inr there ↦ there
    | inl none ↦
        let same_elements : p.combined.keyed.elements ≡ es = (parts key p).0 ∙ none in
        absurd (p.other (packed-once p.combined.keyed.elements es p.found bytes p.combined.keyed.packed packed (ap (map number) same_elements)))
  ]

  pub few : (x : F) (keys : List F) → AreApart same (x ∷ keys) → All (PassesAsOther bytes ds) (x ∷ keys) → length (x ∷ keys) ≤ length es + 1
  few x keys apart h =
      let there = place x (All-head (PassesAsOther bytes ds) x keys h) in
      let short : length es + 2 < P = omega (arith, packed-length es bytes packed, packed.0.few) in
      few_keys equality group commutes ring field es low (x ∷ keys) e f there.0 low-size there.1 there.2 (no-multiple (length es + 2) (omega arith) short) apart
      (λ k d l. passes (get_or (x ∷ keys) k d) (h k d l))

-- what is added to the elements passes for few keys
pub few-passes : (bytes : List ℕ) (ds keys : List F) → length ds ≡ element_count (length bytes) → AreApart same keys → All (PassesAsOther bytes ds) keys
    → length keys ≤ element_count (length bytes) - 1
few-passes bytes ds [] count apart h = omega arith
few-passes bytes ds (x ∷ keys) count apart h =
    let k = (All-head (PassesAsOther bytes ds) x keys h).keyed.0 in
    let bound = few bytes ds k.elements k.packed count x keys apart h in
    omega (arith, bound, packed-length k.elements bytes k.packed)
