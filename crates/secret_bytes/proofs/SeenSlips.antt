-- One other character, or two neighbours exchanged, change the check.
use Rattle.std.proofs.Common.{◌≡◌, ◌∙◌, ℕ, ◌<◌, ◌≤◌, List, [], ◌∷◌, ◌++◌, length, drop, get_or, true, inl, inr, refl, sym, ap, ap₂, subst, arith, append_assoc}
use Rattle.std.specs.List.{All}
use Rattle.std.proofs.lemmas.Bool.{cases_lt}
use Rattle.std.proofs.lemmas.List.{append_cancel_left, length-append}
use Rattle.std.proofs.lemmas.List.Elements.{All-append, All-cons, All-head, All-tail}
use Rattle.math_theory.proofs.classes.RingUpToSame.{combine_same, combine2_same}
use Rattle.math_theory.proofs.rings.Normal.{◌⊕◌, ◌⊗◌, ◌⊖◌, 𝟙, v0, v1, v2, v3, v4}
use Rattle.math_fields.specs.declared.goldilocks.F.{F}
use Rattle.math_fields.specs.ElementEncodingLaws.{element_apart}
use Rattle.math_fields.specs.ElementLaws.{equality, group, commutes, ring}
use Rattle.math_fields.specs.ElementRootLaws.{field}
use Rattle.math_fields.specs.Elements.{number, residue, same, sum, negative, product, inverse}
use Rattle.secret_bytes.specs.declared.share.SecretShare.{SecretShare}
use Rattle.secret_bytes.specs.SecretShares.{share_spelling}
use Rattle.secret_bytes.specs.Letters.{grouped}
use Rattle.secret_bytes.specs.LineChecks.{check_point, check_from, check_value, check_bytes}
use Rattle.secret_bytes.specs.Lines.{body_spelling, with_check, line_spelling, SlipsAreSeen}
use Rattle.secret_bytes.proofs.LettersRead.{grouped_once, grouped-small}
use Rattle.secret_bytes.proofs.SharesAreBytes.{word-bytes}

-- the point
abbrev r : F
r = residue check_point

inverted : same (product r (inverse r)) (residue 1)
inverted = field.inverts r (λ e. omega (arith, e))

abbrev r-1 : F
r-1 = sum r (negative (residue 1))

inverted-1 : same (product r-1 (inverse r-1)) (residue 1)
inverted-1 = field.inverts r-1 (λ e. omega (arith, e))

cancel_step : (c d y : F) → same (sum (product c r) y) (sum (product d r) y) → same c d
cancel_step c d y h =
    combine2_same equality group commutes ring (c ∷ d ∷ r ∷ inverse r ∷ y ∷ []) v0 v1 v3 ((v0 ⊗ v2) ⊕ v4) ((v1 ⊗ v2) ⊕ v4) (v1 ⊖ v0) (v2 ⊗ v3) 𝟙 h inverted refl

cancel_step_left : (c a b : F) → same (sum (product c r) a) (sum (product c r) b) → same a b
cancel_step_left c a b h = combine_same equality group commutes ring (c ∷ a ∷ b ∷ r ∷ []) v1 v2 𝟙 ((v0 ⊗ v3) ⊕ v1) ((v0 ⊗ v3) ⊕ v2) h refl

cancel_exchange : (c a b : F) → same (sum (product (sum (product c r) a) r) b) (sum (product (sum (product c r) b) r) a) → same a b
cancel_exchange c a b h =
    combine2_same equality group commutes ring (a ∷ b ∷ r ∷ c ∷ inverse r-1 ∷ []) v0 v1 v4 ((((v3 ⊗ v2) ⊕ v0) ⊗ v2) ⊕ v1) ((((v3 ⊗ v2) ⊕ v1) ⊗ v2) ⊕ v0)
    (v1 ⊖ v0) ((v2 ⊖ 𝟙) ⊗ v4) 𝟙 h inverted-1 refl

-- what follows a change does not undo it
cancel : (ys : List ℕ) (c d : F) → same (check_from c ys) (check_from d ys) → same c d
cancel [] c d h = h
cancel (y ∷ ys) c d h = cancel_step c d (residue y) (cancel ys (sum (product c r) (residue y)) (sum (product d r) (residue y)) h)

from-append : (xs ys : List ℕ) (c : F) → check_from c (xs ++ ys) ≡ check_from (check_from c xs) ys
from-append [] ys c = refl
from-append (x ∷ xs) ys c = from-append xs ys (sum (product c r) (residue x))

small : (a b : ℕ) → a < 128 → b < 128 → same (residue a) (residue b) → a ≡ b
small a b l m h = omega (arith, h)

one_seen : (xs ys : List ℕ) (a b : ℕ) → a < 128 → b < 128 → same (check_value (xs ++ (a ∷ ys))) (check_value (xs ++ (b ∷ ys))) → a ≡ b
one_seen xs ys a b l m h =
    let c = check_from (residue 0) xs in
    small a b l m (cancel_step_left c (residue a) (residue b) (cancel ys (sum (product c r) (residue a)) (sum (product c r) (residue b))
    (sym (ap number (from-append xs (a ∷ ys) (residue 0))) ∙ h ∙ ap number (from-append xs (b ∷ ys) (residue 0)))))

exchange_seen : (xs ys : List ℕ) (a b : ℕ) → a < 128 → b < 128 → same (check_value (xs ++ (a ∷ b ∷ ys))) (check_value (xs ++ (b ∷ a ∷ ys))) → a ≡ b
exchange_seen xs ys a b l m h =
    let c = check_from (residue 0) xs in
    small a b l m (cancel_exchange c (residue a) (residue b)
    (cancel ys (sum (product (sum (product c r) (residue a)) r) (residue b)) (sum (product (sum (product c r) (residue b)) r) (residue a))
    (sym (ap number (from-append xs (a ∷ b ∷ ys) (residue 0))) ∙ h ∙ ap number (from-append xs (b ∷ a ∷ ys) (residue 0)))))

pub equal_parts : {A : Type 0} (a b c d : List A) → a ++ b ≡ c ++ d → length a ≡ length c → (a ≡ c) × (b ≡ d)
equal_parts [] b [] d e l = (refl, e)
equal_parts [] b (z ∷ c) d e l = absurd (omega (arith, l))
equal_parts (x ∷ a) b [] d e l = absurd (omega (arith, l))
equal_parts (x ∷ a) b (z ∷ c) d e l =
    let rest = equal_parts a b c d (ap (drop 1) e) (omega (arith, l)) in
    (ap₂ (λ p q. p ∷ q) (ap (λ q. get_or q 0 x) e) rest.0, rest.1)

-- of two ways to cut a list, the longer front begins with the shorter one
longer : (b g x y : List ℕ) → b ++ g ≡ x ++ y → length x ≤ length b → (z : List ℕ) × (b ≡ x ++ z) × (y ≡ z ++ g)
longer b g [] y e l = (b, refl, sym e)
longer [] g (w ∷ x) y e l = absurd (omega (arith, l))
longer (v ∷ b) g (w ∷ x) y e l =
    let rest = longer b g x y (ap (drop 1) e) (omega (arith, l)) in
    (rest.0, ap₂ (λ p q. p ∷ q) (ap (λ q. get_or q 0 v) e) rest.1, rest.2)

pub length-check : (body : List ℕ) → length (grouped true (check_bytes body)) ≡ 20
length-check body = refl

check_once : (body other : List ℕ) → grouped true (check_bytes body) ≡ grouped true (check_bytes other) → same (check_value body) (check_value other)
check_once body other e =
    let words : check_bytes body ≡ check_bytes other =
    grouped_once (check_bytes body) (check_bytes other) (word-bytes (number (check_value body))) (word-bytes (number (check_value other))) e in
    (element_apart (number (check_value body)) (number (check_value other)) [] [] (check_value body).below (check_value other).below (ap (λ x. x ++ []) words)).0

-- both are texts with their checks, and stand apart from there on: the bodies are one
same_body : (b b' x y y' : List ℕ) → with_check b ≡ x ++ y → with_check b' ≡ x ++ y' → length b ≡ length b' → length b ≤ length x → y ≡ y'
same_body b b' x y y' e e' n l =
    let p = longer x y b (grouped true (check_bytes b)) (sym e) l in
    let q = longer x y' b' (grouped true (check_bytes b')) (sym e') (omega (arith, l, n)) in
    let bodies : b ≡ b' = (equal_parts b p.0 b' q.0 (sym p.1 ∙ q.1) n).0 in
    append_cancel_left x y y' (sym e ∙ ap with_check bodies ∙ e')

-- the change stands in the bodies, and both go on alike
inside : (b b' x y y' z z' : List ℕ) → length b ≡ length b' → b ≡ x ++ (y ++ z) → b' ≡ x ++ (y' ++ z') → length y ≡ length y' → z ++ grouped true (check_bytes b) ≡ z' ++ grouped true (check_bytes b')
    → (z ≡ z') × same (check_value b) (check_value b')
inside b b' x y y' z z' n e e' m h =
    let sizes : length z ≡ length z' =
    omega (arith, n, m, ap length e, ap length e', length-append x (y ++ z), length-append x (y' ++ z'), length-append y z, length-append y' z') in
    let parts = equal_parts z (grouped true (check_bytes b)) z' (grouped true (check_bytes b')) h sizes in
    (parts.0, check_once b b' parts.1)

sizes : (b b' : List ℕ) → length (with_check b) ≡ length (with_check b') → length b ≡ length b'
sizes b b' e = omega (arith, e, length-append b (grouped true (check_bytes b)), length-append b' (grouped true (check_bytes b')), length-check b, length-check b')

one_within : (b b' before after z z' : List ℕ) (u u' a c : ℕ) → length b ≡ length b' → a < 128 → c < 128 → b ≡ before ++ (u ∷ z) → b' ≡ before ++ (u' ∷ z')
    → a ∷ after ≡ (u ∷ z) ++ grouped true (check_bytes b) → c ∷ after ≡ (u' ∷ z') ++ grouped true (check_bytes b') → a ≡ c
one_within b b' before after z z' u u' a c n la lc e e' h h' =
    let same_u : a ≡ u = ap (λ q. get_or q 0 a) h in
    let same_v : c ≡ u' = ap (λ q. get_or q 0 c) h' in
    let found = inside b b' before (u ∷ []) (u' ∷ []) z z' n e e' refl (sym (ap (drop 1) h) ∙ ap (drop 1) h') in
    let left : b ≡ before ++ (a ∷ z') = e ∙ ap₂ (λ p q. before ++ (p ∷ q)) (sym same_u) found.0 in
    let right : b' ≡ before ++ (c ∷ z') = e' ∙ ap (λ p. before ++ (p ∷ z')) (sym same_v) in
    one_seen before z' a c la lc (sym (ap (λ q. number (check_value q)) left) ∙ found.1 ∙ ap (λ q. number (check_value q)) right)

one_refused : (b b' before after : List ℕ) (a c : ℕ) → a < 128 → c < 128 → with_check b ≡ before ++ (a ∷ after) → with_check b' ≡ before ++ (c ∷ after) → a ≡ c
one_refused b b' before after a c la lc e e' =
    let n = sizes b b' (ap length e ∙ length-append before (a ∷ after) ∙ sym (length-append before (c ∷ after)) ∙ sym (ap length e')) in
    elim (cases_lt (length before) (length b)) [
      | inl l ↦
          let p = longer b (grouped true (check_bytes b)) before (a ∷ after) e (omega (arith, l)) in
          let q = longer b' (grouped true (check_bytes b')) before (c ∷ after) e' (omega (arith, l, n)) in
          cut p.0 q.0 (omega (arith, l, ap length p.1, length-append before p.0)) (omega (arith, l, n, ap length q.1, length-append before q.0)) n p.1 q.1 p.2 q.2
      | inr m ↦ ap (λ q. get_or q 0 a) (same_body b b' before (a ∷ after) (c ∷ after) e e' n (omega (arith, m)))
    ]
  where
    cut : (z z' : List ℕ) → 0 < length z → 0 < length z' → length b ≡ length b' → b ≡ before ++ z → b' ≡ before ++ z' → a ∷ after ≡ z ++ grouped true (check_bytes b) → c ∷ after ≡ z' ++ grouped true (check_bytes b') → a ≡ c
    cut [] z' l m n f f' h h' = absurd (omega (arith, l))
    cut (u ∷ z) [] l m n f f' h h' = absurd (omega (arith, m))
    cut (u ∷ z) (u' ∷ z') l m n f f' h h' = one_within b b' before after z z' u u' a c n la lc f f' h h'

exchange_within : (b b' before after z z' : List ℕ) (u v u' v' a c : ℕ) → length b ≡ length b' → a < 128 → c < 128 → b ≡ before ++ (u ∷ v ∷ z) → b' ≡ before ++ (u' ∷ v' ∷ z')
    → a ∷ c ∷ after ≡ (u ∷ v ∷ z) ++ grouped true (check_bytes b) → c ∷ a ∷ after ≡ (u' ∷ v' ∷ z') ++ grouped true (check_bytes b') → a ≡ c
exchange_within b b' before after z z' u v u' v' a c n la lc e e' h h' =
    let found = inside b b' before (u ∷ v ∷ []) (u' ∷ v' ∷ []) z z' n e e' refl (sym (ap (drop 2) h) ∙ ap (drop 2) h') in
    let left : b ≡ before ++ (a ∷ c ∷ z') =
    e ∙ ap₂ (λ p q. before ++ (p ∷ q)) (sym (ap (λ q. get_or q 0 a) h)) (ap₂ (λ p q. p ∷ q) (sym (ap (λ q. get_or q 1 a) h)) found.0) in
    let right : b' ≡ before ++ (c ∷ a ∷ z') =
    e' ∙ ap₂ (λ p q. before ++ (p ∷ q ∷ z')) (sym (ap (λ q. get_or q 0 a) h')) (sym (ap (λ q. get_or q 1 a) h')) in
    exchange_seen before z' a c la lc (sym (ap (λ q. number (check_value q)) left) ∙ found.1 ∙ ap (λ q. number (check_value q)) right)

-- the check begins with a dash
begins : (b : List ℕ) → get_or (grouped true (check_bytes b)) 0 0 ≡ 45
begins b = refl

exchange_refused : (b b' before after : List ℕ) (a c : ℕ) → a < 128 → c < 128 → with_check b ≡ before ++ (a ∷ c ∷ after) → with_check b' ≡ before ++ (c ∷ a ∷ after) → a ≡ c
exchange_refused b b' before after a c la lc e e' =
    let n = sizes b b' (ap length e ∙ length-append before (a ∷ c ∷ after) ∙ sym (length-append before (c ∷ a ∷ after)) ∙ sym (ap length e')) in
    elim (cases_lt (length before) (length b)) [
      | inl l ↦
          let p = longer b (grouped true (check_bytes b)) before (a ∷ c ∷ after) e (omega (arith, l)) in
          let q = longer b' (grouped true (check_bytes b')) before (c ∷ a ∷ after) e' (omega (arith, l, n)) in
          cut p.0 q.0 (omega (arith, l, ap length p.1, length-append before p.0)) (omega (arith, n, ap length p.1, ap length q.1, length-append before p.0, length-append before q.0)) n p.1 q.1 p.2 q.2
      | inr m ↦ ap (λ q. get_or q 0 a) (same_body b b' before (a ∷ c ∷ after) (c ∷ a ∷ after) e e' n (omega (arith, m)))
    ]
  where
    cut : (z z' : List ℕ) → 0 < length z → length z ≡ length z' → length b ≡ length b' → b ≡ before ++ z → b' ≡ before ++ z' → a ∷ c ∷ after ≡ z ++ grouped true (check_bytes b)
        → c ∷ a ∷ after ≡ z' ++ grouped true (check_bytes b') → a ≡ c
    cut [] z' l m n f f' h h' = absurd (omega (arith, l))
    cut (u ∷ z) [] l m n f f' h h' = absurd (omega (arith, m))
    cut (u ∷ []) (u' ∷ []) l m n f f' h h' = ap (λ q. get_or q 1 0) h' ∙ begins b' ∙ sym (begins b) ∙ sym (ap (λ q. get_or q 1 0) h)
    cut (u ∷ []) (u' ∷ v' ∷ z') l m n f f' h h' = absurd (omega (arith, m))
    cut (u ∷ v ∷ z) (u' ∷ []) l m n f f' h h' = absurd (omega (arith, m))
    cut (u ∷ v ∷ z) (u' ∷ v' ∷ z') l m n f f' h h' = exchange_within b b' before after z z' u v u' v' a c n la lc f f' h h'

-- the characters of a line are ASCII
abbrev IsAscii : ℕ → Type 0
IsAscii a = a < 128

line-small : (s : SecretShare) → All IsAscii (line_spelling s)
line-small s =
    All-append IsAscii (body_spelling s) (grouped true (check_bytes (body_spelling s)))
    (All-cons IsAscii 83 (49 ∷ grouped true (share_spelling s)) (omega arith) (All-cons IsAscii 49 (grouped true (share_spelling s)) (omega arith) (grouped-small true (share_spelling s))))
    (grouped-small true (check_bytes (body_spelling s)))

character : (s : SecretShare) (before after : List ℕ) (a : ℕ) → line_spelling s ≡ before ++ (a ∷ after) → a < 128
character s before after a e = at_end before (subst (All IsAscii) e (line-small s))
  where
    at_end : (xs : List ℕ) → All IsAscii (xs ++ (a ∷ after)) → a < 128
    at_end [] h = All-head IsAscii a after h
    at_end (x ∷ xs) h = at_end xs (All-tail IsAscii x (xs ++ (a ∷ after)) h)

second : (s : SecretShare) (before after : List ℕ) (a c : ℕ) → line_spelling s ≡ before ++ (a ∷ c ∷ after) → c < 128
second s before after a c e = character s (before ++ (a ∷ [])) after c (e ∙ sym (append_assoc before (a ∷ []) (c ∷ after)))

pub slips : SlipsAreSeen
slips s u = (
  λ (before, after, a, b, differ, e, e').
      differ (one_refused (body_spelling s) (body_spelling u) before after a b (character s before after a e) (character u before after b e') e e'),
  λ (before, after, a, b, differ, e, e').
      differ (exchange_refused (body_spelling s) (body_spelling u) before after a b (character s before (b ∷ after) a e) (second s before after a b e) e e'),
)
