-- The shares that are left without those of some indices.
use Rattle.std.proofs.Common.{◌≡◌, ◌≢◌, ◌∙◌, ℕ, zero, suc, ◌+◌, ◌<◌, ◌≤◌, Bool, true, false, not, cond, eqb, ◌⊎◌, inl, inr, List, [], ◌∷◌, ◌++◌, ◌||◌, length, get_or, refl, sym, ap, arith}
use Rattle.std.specs.List.{All, AllPairs, Contains, filter, list_any}
use Rattle.std.proofs.lemmas.Bool.{cases_Bool, eq-eqb, eqb-true}
use Rattle.std.proofs.lemmas.List.{get_or_default}
use Rattle.std.proofs.lemmas.List.Elements.{All-contains_itself, All-filter, All-head, All-tail, filter_passes}
use Rattle.secret_bytes.specs.declared.share.SecretShare.{SecretShare}
use Rattle.secret_bytes.specs.Combined.{is_outside, others}

among-true : (xs : List ℕ) (i : ℕ) → list_any (λ n. eqb n i) xs ≡ true → Contains xs i
among-true [] i e = cc
among-true (x ∷ xs) i e =
    elim (cases_Bool (eqb x i)) as (λ _. Contains (x ∷ xs) i) [
      | inl t ↦ (0, omega arith, eqb-true x i t)
      | inr f ↦ let h = among-true xs i (rw f at e) in (suc h.0, omega (arith, h.1), h.2)
    ]

or-true : (b : Bool) → (b || true) ≡ true
or-true true = refl
or-true false = refl

among-yes : (xs : List ℕ) (i : ℕ) → Contains xs i → list_any (λ n. eqb n i) xs ≡ true
among-yes [] i (k, l, e) = absurd (omega (arith, l))
among-yes (x ∷ xs) i (zero, l, e) = rw (eq-eqb x i e) refl
among-yes (x ∷ xs) i (suc k, l, e) = rw (among-yes xs i (k, omega (arith, l), e)) (or-true (eqb x i))

pub outside-not : (wrong : List ℕ) (i : ℕ) → is_outside wrong i ≡ true → ¬ (Contains wrong i)
outside-not wrong i e h = let t : list_any (λ n. eqb n i) wrong ≡ true = among-yes wrong i h in cc

-- an index is one of these, or none
pub outside-cases : (wrong : List ℕ) (i : ℕ) → (Contains wrong i) ⊎ ((is_outside wrong i ≡ true) × ¬ (Contains wrong i))
outside-cases wrong i =
    elim (cases_Bool (list_any (λ n. eqb n i) wrong)) as (λ _. (Contains wrong i) ⊎ ((is_outside wrong i ≡ true) × ¬ (Contains wrong i))) [
      | inl t ↦ inl (among-true wrong i t)
      | inr f ↦ let e : is_outside wrong i ≡ true = ap not f in inr (e, outside-not wrong i e)
    ]

-- what passes is kept
pub filter-has : {A : Type 0} (p : A → Bool) (xs : List A) (x : A) → Contains xs x → p x ≡ true → Contains (filter p xs) x
filter-has p [] x (k, l, e) t = absurd (omega (arith, l))
filter-has p (y ∷ xs) x (zero, l, e) t = rw (ap p e ∙ t) (0, omega arith, e)
filter-has p (y ∷ xs) x (suc k, l, e) t =
    let h = filter-has p xs x (k, omega (arith, l), e) t in
    elim (cases_Bool (p y)) as (λ _. Contains (filter p (y ∷ xs)) x) [
      | inl passes ↦ rw passes (suc h.0, omega (arith, h.1), h.2)
      | inr fails ↦ rw fails h
    ]

pub others-has : (wrong : List ℕ) (shares : List SecretShare) (s : SecretShare) → Contains shares s → ¬ (Contains wrong s.index) → Contains (others wrong shares) s
others-has wrong shares s h n =
    elim (outside-cases wrong s.index) as (λ _. Contains (others wrong shares) s) [
      | inl there ↦ absurd (n there)
      | inr none ↦ filter-has (λ (u : SecretShare). is_outside wrong u.index) shares s h none.0
    ]

-- each that is left is one of the shares, and its index none of these
pub others-each : (wrong : List ℕ) (shares : List SecretShare) → All (λ s. Contains shares s × ¬ (Contains wrong s.index)) (others wrong shares)
others-each wrong shares k d l = (
  All-filter (λ (u : SecretShare). is_outside wrong u.index) (Contains shares) shares (All-contains_itself shares) k d l,
  outside-not wrong (get_or (others wrong shares) k d).index (filter_passes (λ (u : SecretShare). is_outside wrong u.index) shares k d l),
)

pub others-none : (shares : List SecretShare) → others [] shares ≡ shares
others-none [] = refl
others-none (s ∷ shares) = ap (λ us. s ∷ us) (others-none shares)

any-append : (xs ys : List ℕ) (i : ℕ) → list_any (λ n. eqb n i) (xs ++ ys) ≡ (list_any (λ n. eqb n i) xs || list_any (λ n. eqb n i) ys)
any-append [] ys i = refl
any-append (x ∷ xs) ys i = ap (λ b. eqb x i || b) (any-append xs ys i) ∙ sym (or-assoc (eqb x i) (list_any (λ n. eqb n i) xs) (list_any (λ n. eqb n i) ys))
  where
    or-assoc : (a b c : Bool) → ((a || b) || c) ≡ (a || (b || c))
    or-assoc true b c = refl
    or-assoc false b c = refl

-- without some indices and then without more is without all of them
pub others-more : (wrong more : List ℕ) (shares : List SecretShare) → others (wrong ++ more) (others wrong shares) ≡ others (wrong ++ more) shares
others-more wrong more [] = refl
others-more wrong more (s ∷ shares) =
    let rest = others-more wrong more shares in
    let joined : is_outside (wrong ++ more) s.index ≡ not (list_any (λ n. eqb n s.index) wrong || list_any (λ n. eqb n s.index) more) = ap not (any-append wrong more s.index) in
    elim (cases_Bool (list_any (λ n. eqb n s.index) wrong)) as (λ _. others (wrong ++ more) (others wrong (s ∷ shares)) ≡ others (wrong ++ more) (s ∷ shares)) [
      | inl there ↦
          let out : is_outside (wrong ++ more) s.index ≡ false = joined ∙ ap (λ b. not (b || list_any (λ n. eqb n s.index) more)) there in
          rw (there, out) rest
      | inr none ↦
          rw none (elim (cases_Bool (is_outside (wrong ++ more) s.index)) as (λ _. others (wrong ++ more) (s ∷ others wrong shares) ≡ others (wrong ++ more) (s ∷ shares)) [
            | inl t ↦ rw t (ap (λ us. s ∷ us) rest)
            | inr f ↦ rw f rest
          ])
    ]

-- where no index is w, all are left without w
all-left : (w : ℕ) (wrong : List ℕ) (shares : List SecretShare) → All (λ s. w ≢ s.index) shares → others (w ∷ wrong) shares ≡ others wrong shares
all-left w wrong [] h = refl
all-left w wrong (s ∷ shares) h =
    let rest = all-left w wrong shares (All-tail (λ (u : SecretShare). w ≢ u.index) s shares h) in
    let other : eqb w s.index ≡ false = elim (cases_Bool (eqb w s.index)) as (λ _. eqb w s.index ≡ false) [
      | inl t ↦ absurd (All-head (λ (u : SecretShare). w ≢ u.index) s shares h (eqb-true w s.index t))
      | inr f ↦ f
    ] in
    rw other (ap (λ us. cond (is_outside wrong s.index) (s ∷ us) us) rest)

pub pairs-tail : {A : Type 0} (R : A → A → Type 0) (x : A) (xs : List A) → AllPairs R (x ∷ xs) → AllPairs R xs
pairs-tail R x xs h i j d l m = h (suc i) (suc j) d (omega (arith, l)) (omega (arith, m))

pub pairs-head : {A : Type 0} (R : A → A → Type 0) (x : A) (xs : List A) → AllPairs R (x ∷ xs) → All (R x) xs
pairs-head R x xs h k d l = h 0 (suc k) d (omega arith) (omega (arith, l))

-- without one more index at most one fewer is left
one-fewer : (w : ℕ) (wrong : List ℕ) (shares : List SecretShare) → AllPairs (λ s u. s.index ≢ u.index) shares → length (others wrong shares) ≤ length (others (w ∷ wrong) shares) + 1
one-fewer w wrong [] h = omega arith
one-fewer w wrong (s ∷ shares) h =
    let rest = one-fewer w wrong shares (pairs-tail (λ (s u : SecretShare). s.index ≢ u.index) s shares h) in
    elim (cases_Bool (eqb w s.index)) as (λ _. length (others wrong (s ∷ shares)) ≤ length (others (w ∷ wrong) (s ∷ shares)) + 1) [
      | inl t ↦
          let e : w ≡ s.index = eqb-true w s.index t in
          let all : others (w ∷ wrong) shares ≡ others wrong shares =
          all-left w wrong shares (λ k d l z. pairs-head (λ (s u : SecretShare). s.index ≢ u.index) s shares h k d l (sym e ∙ z)) in
          rw (t, all) (elim (cases_Bool (is_outside wrong s.index)) as (λ _. length (others wrong (s ∷ shares)) ≤ length (others wrong shares) + 1) [
            | inl p ↦ rw p (omega arith)
            | inr f ↦ rw f (omega arith)
          ])
      | inr o ↦
          rw o (elim (cases_Bool (is_outside wrong s.index))
          as (λ _. length (others wrong (s ∷ shares)) ≤ length (cond (is_outside wrong s.index) (s ∷ others (w ∷ wrong) shares) (others (w ∷ wrong) shares)) + 1) [
            | inl p ↦ rw p (omega (arith, rest))
            | inr f ↦ rw f (omega (arith, rest))
          ])
    ]

-- without some indices, at most so many fewer are left
pub left-count : (wrong : List ℕ) (shares : List SecretShare) → AllPairs (λ s u. s.index ≢ u.index) shares → length shares ≤ length (others wrong shares) + length wrong
left-count [] shares h = omega (arith, ap length (others-none shares))
left-count (w ∷ wrong) shares h = omega (arith, left-count wrong shares h, one-fewer w wrong shares h)

-- the first place of an index
abbrev pub first_place : List SecretShare → ℕ → ℕ
first_place [] i = 0
first_place (s ∷ shares) i = cond (eqb s.index i) 0 (suc (first_place shares i))

-- each of distinct indices stands at its first place
pub first_place-at : (shares : List SecretShare) (k : ℕ) (d : SecretShare) → AllPairs (λ s u. s.index ≢ u.index) shares → k < length shares → first_place shares (get_or shares k d).index ≡ k
first_place-at [] k d h l = absurd (omega (arith, l))
first_place-at (s ∷ shares) zero d h l = rw (eq-eqb s.index s.index refl) refl
first_place-at (s ∷ shares) (suc k) d h l =
    let other : eqb s.index (get_or shares k d).index ≡ false = elim (cases_Bool (eqb s.index (get_or shares k d).index)) as (λ _. eqb s.index (get_or shares k d).index ≡ false) [
      | inl t ↦ absurd (pairs-head (λ (s u : SecretShare). s.index ≢ u.index) s shares h k d (omega (arith, l)) (eqb-true s.index (get_or shares k d).index t))
      | inr f ↦ f
    ] in
    rw other (ap suc (first_place-at shares k d (pairs-tail (λ (s u : SecretShare). s.index ≢ u.index) s shares h) (omega (arith, l))))

-- shares of one index among shares of distinct ones are one
pub same-share : (shares : List SecretShare) (s u : SecretShare) → AllPairs (λ s u. s.index ≢ u.index) shares → Contains shares s → Contains shares u → s.index ≡ u.index → s ≡ u
same-share shares s u h (k, l, e) (m, o, f) i =
    let a : first_place shares s.index ≡ k = ap (λ (v : SecretShare). first_place shares v.index) (sym e) ∙ first_place-at shares k s h l in
    let b : first_place shares u.index ≡ m = ap (λ (v : SecretShare). first_place shares v.index) (sym f) ∙ first_place-at shares m u h o in
    let same_place : k ≡ m = sym a ∙ ap (first_place shares) i ∙ b in
    sym e ∙ get_or_default shares k s u l ∙ ap (λ n. get_or shares n u) same_place ∙ f
