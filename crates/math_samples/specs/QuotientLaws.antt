-- The laws of quotients: each represents a number modulo 97, and the operations on quotients are those on the numbers that they represent.
use Rattle.std.proofs.Common.{◌≡◌, ◌≢◌, ◌⊎◌, inl, inr, ℕ, ◌+◌, ◌-◌, ◌*◌, ◌%◌, ◌<◌, ◌≤◌, ◌∙◌, lit<, one-mul, mul-one, sym, ap, refl, arith}
use Rattle.std.proofs.Math.Nat.{mod-eq_of_lt, mod-mod, ℕ_set}
use Rattle.std.proofs.lemmas.Bool.{cases_lt}
use Rattle.std.proofs.lemmas.Nat.{mul-mod_first}
use Rattle.math_theory.specs.CarriedLaws.{equality_carried, group_carried, product_carried, ring_carried, field_carried, roots_carried}
use Rattle.math_numbers.specs.Congruence.{congruent, negative_mod, inverse_mod}
use Rattle.math_theory.specs.Laws.{IsEquality, IsGroup, IsProduct, IsRing, IsField}
use Rattle.math_theory.specs.RootLaws.{HasRootsOfUnity}
use Rattle.math_theory.proofs.rings.CongruenceLaws.{congruence, congruence_group, congruence_product, congruence_ring, congruence_field}
use Rattle.math_theory.proofs.classes.FractionLaws.{fraction-value, fraction-sum, fraction-negative, fraction-product, fraction-inverse, cross_products, over_cross_products}
use Rattle.math_numbers.proofs.InversesModulo.{cancel_factor}
use Rattle.math_samples.specs.ModulusLaws.{modulus_is_prime, product_above}
use Rattle.math_samples.specs.Quotients.{numerator_of, denominator_of, same, whole, sum, negative, product, inverse, inverse_by, half, root, root_of, shift}
use Rattle.math_samples.specs.RootsModulo.{half_of_number, roots_modulo}
use Rattle.math_samples.specs.declared.quotients.Quotient.{Quotient}
use Rattle.math_samples.specs.declared.quotients.TheConstants.{MODULUS}

-- the laws of whole numbers up to congruence modulo 97
abbrev E : IsEquality (congruent MODULUS)
E = congruence MODULUS

abbrev G : IsGroup (congruent MODULUS) 0 (λ a b. a + b) (negative_mod MODULUS)
G = congruence_group MODULUS (lit< tt)

abbrev P : IsProduct (congruent MODULUS) (λ a b. a * b)
P = congruence_product MODULUS

abbrev R : IsRing (congruent MODULUS) (λ a b. a + b) (λ a b. a * b) 1
R = congruence_ring MODULUS

abbrev F : IsField (congruent MODULUS) 0 (λ a b. a * b) 1 (inverse_mod MODULUS)
F = congruence_field MODULUS modulus_is_prime (lit< tt)

-- the denominator times z is congruent to the numerator
abbrev Represents : Quotient → ℕ → Type 0
Represents q z = congruent MODULUS (denominator_of q * z) (numerator_of q)

denominator_nonzero : (q : Quotient) → denominator_of q % MODULUS ≢ 0
denominator_nonzero q h =
    let e : denominator_of q % MODULUS ≡ denominator_of q = mod-eq_of_lt q.denominator_below in
    let a : 0 < denominator_of q = q.denominator_above in
    omega arith

-- the numerator times the inverse of the denominator
abbrev value_of : Quotient → ℕ
value_of q = numerator_of q * inverse_mod MODULUS (denominator_of q)

value-represented : (q : Quotient) → Represents q (value_of q)
value-represented q =
    let b = denominator_of q in
    let h : congruent MODULUS (b * inverse_mod MODULUS b) 1 = F.inverts b (denominator_nonzero q) in
    fraction-value E G P R (numerator_of q) b (inverse_mod MODULUS b) h

-- and no other number is represented
value-unique : (q : Quotient) (z : ℕ) → Represents q z → congruent MODULUS (value_of q) z
value-unique q z h = cancel_factor MODULUS (denominator_of q) (value_of q) z modulus_is_prime (denominator_nonzero q) (value-represented q ∙ sym h)

remainders-represent : (n d z : ℕ) → congruent MODULUS (d * z) n → congruent MODULUS (d % MODULUS * z) (n % MODULUS)
remainders-represent n d z h = mul-mod_first d z MODULUS ∙ h ∙ sym (mod-mod n MODULUS)

value-whole : (n : ℕ) → congruent MODULUS (value_of (whole n)) n
value-whole n = value-unique (whole n) n (ap (λ t. t % MODULUS) (one-mul n) ∙ sym (mod-mod n MODULUS))

value-negative : (q : Quotient) → congruent MODULUS (value_of (negative q)) (negative_mod MODULUS (value_of q))
value-negative q =
    let h = fraction-negative E G P R (numerator_of q) (denominator_of q) (value_of q) (value-represented q) in
    let e : (MODULUS - numerator_of q % MODULUS) % MODULUS ≡ (MODULUS - numerator_of q) % MODULUS = ap (λ t. (MODULUS - t) % MODULUS) (mod-eq_of_lt q.numerator_below) in
    value-unique (negative q) (negative_mod MODULUS (value_of q)) (h ∙ e ∙ sym (mod-mod (MODULUS - numerator_of q) MODULUS))

module _ (q r : Quotient) where
  value-sum : congruent MODULUS (value_of (sum q r)) (value_of q + value_of r)
  value-sum = value-unique (sum q r) _ (remainders-represent _ _ _ (fraction-sum E G P R _ _ _ _ _ _ (value-represented q) (value-represented r)))

  value-product : congruent MODULUS (value_of (product q r)) (value_of q * value_of r)
  value-product = value-unique (product q r) _ (remainders-represent _ _ _ (fraction-product E G P R _ _ _ _ _ _ (value-represented q) (value-represented r)))

  -- two quotients are the same exactly where they represent the same number
  same-value : congruent MODULUS (value_of q) (value_of r) → same q r
  same-value s = cross_products E G P R _ _ _ _ _ _ (value-represented q) (value-represented r) s

  value-same : same q r → congruent MODULUS (value_of q) (value_of r)
  value-same s =
      let above : 0 < denominator_of q * denominator_of r % MODULUS = product_above _ _ q.denominator_above q.denominator_below r.denominator_above r.denominator_below in
      cancel_factor MODULUS (denominator_of q * denominator_of r) _ _ modulus_is_prime (λ z. omega arith)
      (over_cross_products E G P R _ _ _ _ _ _ (value-represented q) (value-represented r) s)

pub equality : IsEquality same
equality = equality_carried value_of E value-same same-value (λ q r. hlevel ℕ_set)

pub group : IsGroup same (whole 0) sum negative
group = group_carried value_of E value-same same-value G (value-whole 0) value-sum value-negative

pub commutes : IsProduct same product
commutes = product_carried value_of E value-same same-value P value-product

pub ring : IsRing same sum product (whole 1)
ring = ring_carried value_of E value-same same-value G P R value-sum value-product (value-whole 1)

-- the inverse represents the inverse of the number
value-inverse_by : (q : Quotient) (c : (0 < numerator_of q) ⊎ (numerator_of q ≤ 0)) → congruent MODULUS (value_of (inverse_by q c)) (inverse_mod MODULUS (value_of q))
value-inverse_by q (inl above) =
    let nonzero : congruent MODULUS (value_of q) 0 → ⊥ = λ z.
    let e : congruent MODULUS (denominator_of q * value_of q) (denominator_of q * 0) = P.respects _ _ _ _ (E.reflexive (denominator_of q)) z in
    let f : numerator_of q % MODULUS ≡ numerator_of q = mod-eq_of_lt q.numerator_below in
    let g : Represents q (value_of q) = value-represented q in
    omega arith in
    value-unique (inverse_by q (inl above)) _ (fraction-inverse E G P R _ _ _ _ (value-represented q) (F.inverts (value_of q) nonzero))
value-inverse_by q (inr none) =
    let zero_represented : congruent MODULUS (value_of q) 0 = value-unique q 0 (omega arith) in
    value-whole 0 ∙ sym (F.respects _ _ zero_represented ∙ F.inverse_of_zero)

-- half a quotient is its product with 1 over 2, which represents 49
value-half : (q : Quotient) → congruent MODULUS (value_of (half q)) (half_of_number (value_of q))
value-half q =
    let h : congruent MODULUS (denominator_of q * 2 * half_of_number (value_of q)) (numerator_of q * 1) = fraction-product E G P R _ _ 1 2 _ 49 (value-represented q) refl in
    value-unique (half q) _ (mul-mod_first (denominator_of q * 2) (half_of_number (value_of q)) MODULUS ∙ h ∙ ap (λ t. t % MODULUS) (mul-one (numerator_of q)))

pub field : IsField same (whole 0) product (whole 1) inverse
field = field_carried value_of E value-same same-value P F (value-whole 0) value-product (value-whole 1) (λ q. value-inverse_by q (cases_lt 0 (numerator_of q)))

pub roots_of_unity : HasRootsOfUnity same (whole 0) sum product (whole 1) 5 root_of (whole shift) half
roots_of_unity = roots_carried value_of E value-same same-value P value-product (value-whole 1) G roots_modulo (value-whole 0) value-sum (λ lg. value-whole (root lg)) (value-whole shift) value-half
