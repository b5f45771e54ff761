-- All lists of k elements, where all elements are listed: how many there are, no two are same place by place, and each list of k elements is same as one.
use Rattle.std.proofs.Common.{◌≡◌, ℕ, zero, suc, ◌+◌, ◌*◌, ◌^◌, List, [], ◌∷◌, ◌++◌, length, map, get_or, refl, ap, arith, subst, ◌∙◌}
use Rattle.std.specs.List.{All, AllZip, AllPairs, Contains}
use Rattle.std.proofs.lemmas.List.{length-append, length-map, get_or-map}
use Rattle.std.proofs.lemmas.List.Elements.{All-nil, All-cons, All-head, All-tail, All-append, All-map, All-weaker, Contains-append_left, Contains-append_right}
use Rattle.math_theory.specs.Interpolation.{AreApart}
use native.Mathlib.Numerals.{unary_clauses}

module _ {X : Type 0} (R : X → X → Type 0) where
  pairs-cons : (x : X) (xs : List X) → All (R x) xs → AllPairs R xs → AllPairs R (x ∷ xs)
  pairs-cons x xs h k zero zero d l m = absurd (omega arith)
  pairs-cons x xs h k zero (suc j) d l m = h j d (omega arith)
  pairs-cons x xs h k (suc i) zero d l m = absurd (omega arith)
  pairs-cons x xs h k (suc i) (suc j) d l m = k i j d (omega arith) (omega arith)

  pub pairs-head : (x : X) (xs : List X) → AllPairs R (x ∷ xs) → All (R x) xs
  pairs-head x xs h k d l = h 0 (suc k) d (omega arith) (omega arith)

  pub pairs-tail : (x : X) (xs : List X) → AllPairs R (x ∷ xs) → AllPairs R xs
  pairs-tail x xs h i j d l m = h (suc i) (suc j) d (omega arith) (omega arith)

  pub pairs-append : (xs ys : List X) → AllPairs R xs → AllPairs R ys → All (λ x. All (R x) ys) xs → AllPairs R (xs ++ ys)
  pairs-append [] ys h k c = k
  pairs-append (x ∷ xs) ys h k c =
      pairs-cons x (xs ++ ys) (All-append (R x) xs ys (pairs-head x xs h) (All-head (λ y. All (R y) ys) x xs c))
      (pairs-append xs ys (pairs-tail x xs h) k (All-tail (λ y. All (R y) ys) x xs c))

pub pairs-map : {X Y : Type 0} (R : Y → Y → Type 0) (f : X → Y) (xs : List X) → AllPairs (λ x y. R (f x) (f y)) xs → AllPairs R (map f xs)
pairs-map R f [] h = λ i j d l m. absurd (omega arith)
pairs-map R f (x ∷ xs) h =
    pairs-cons R (f x) (map f xs) (All-map (R (f x)) f xs (pairs-head (λ x y. R (f x) (f y)) x xs h)) (pairs-map R f xs (pairs-tail (λ x y. R (f x) (f y)) x xs h))

pub contains-map : {X Y : Type 0} (f : X → Y) (xs : List X) (x : X) → Contains xs x → Contains (map f xs) (f x)
contains-map f xs x h = (h.0, omega (arith, h.1, length-map xs f), get_or-map f xs h.0 x (f x) h.1 ∙ ap f h.2)

more : (m n : ℕ) → n + m * n ≡ suc m * n
more m n = grind arith

pub none : (n : ℕ) → 1 ≡ n ^ 0
none n = simp unary_clauses refl

pub once_more : (n k : ℕ) → n * n ^ k ≡ n ^ suc k
once_more n k = simp unary_clauses (grind arith)

module _ {A : Type 0} (same : A → A → Type 0) where
  -- each element before each list
  abbrev spread : List A → List (List A) → List (List A)
  spread [] ls = []
  spread (e ∷ es) ls = map (λ l. e ∷ l) ls ++ spread es ls

  -- all lists of k of the elements
  abbrev pub lists : List A → ℕ → List (List A)
  lists es zero = [] ∷ []
  lists es (suc k) = spread es (lists es k)

  length-spread : (es : List A) (ls : List (List A)) → length (spread es ls) ≡ length es * length ls
  length-spread [] ls = omega arith
  length-spread (e ∷ es) ls =
      length-append (map (λ l. e ∷ l) ls) (spread es ls) ∙ ap (λ n. n + length (spread es ls)) (length-map ls (λ l. e ∷ l)) ∙ ap (λ n. length ls + n) (length-spread es ls)
      ∙ more (length es) (length ls)

  pub length-lists : (es : List A) (k : ℕ) → length (lists es k) ≡ length es ^ k
  length-lists es zero = none (length es)
  length-lists es (suc k) = length-spread es (lists es k) ∙ ap (λ n. length es * n) (length-lists es k) ∙ once_more (length es) k

  All-spread : (P : List A → Type 0) (es : List A) (ls : List (List A)) → All (λ e. All (λ l. P (e ∷ l)) ls) es → All P (spread es ls)
  All-spread P [] ls h = All-nil P
  All-spread P (e ∷ es) ls h =
      All-append P (map (λ l. e ∷ l) ls) (spread es ls) (All-map P (λ l. e ∷ l) ls (All-head (λ a. All (λ l. P (a ∷ l)) ls) e es h))
      (All-spread P es ls (All-tail (λ a. All (λ l. P (a ∷ l)) ls) e es h))

  pub each-length : (es : List A) (k : ℕ) → All (λ l. length l ≡ k) (lists es k)
  each-length es zero = All-cons (λ l. length l ≡ 0) [] [] refl (All-nil (λ l. length l ≡ 0))
  each-length es (suc k) =
      All-spread (λ l. length l ≡ suc k) es (lists es k) (λ i d b. All-weaker (λ l. length l ≡ k) (λ l. suc (length l) ≡ suc k) (λ l e. ap suc e) (lists es k) (each-length es k))

  apart-spread : (es : List A) (ls : List (List A)) → AreApart same es → AreApart (AllZip same) ls → AreApart (AllZip same) (spread es ls)
  apart-spread [] ls h k = λ i j d l m. absurd (omega arith)
  apart-spread (e ∷ es) ls h k =
      let differ : (x y : List A) → Type 0 = λ x y. ¬ (AllZip same x y) in
      pairs-append differ (map (λ l. e ∷ l) ls) (spread es ls)
      (pairs-map differ (λ l. e ∷ l) ls (λ i j d l m s. k i j d l m s.1))
      (apart-spread es ls (pairs-tail (λ x y. ¬ (same x y)) e es h) k)
      (All-map (λ x. All (differ x) (spread es ls)) (λ l. e ∷ l) ls
      (λ i d b. All-spread (differ (e ∷ get_or ls i d)) es ls (λ j a n. λ m c p s. pairs-head (λ x y. ¬ (same x y)) e es h j a n s.0)))

  pub apart-lists : (es : List A) (k : ℕ) → AreApart same es → AreApart (AllZip same) (lists es k)
  apart-lists es zero h = λ i j d l m. absurd (omega arith)
  apart-lists es (suc k) h = apart-spread es (lists es k) h (apart-lists es k h)

  contains-spread : (es : List A) (ls : List (List A)) (e : A) (l : List A) → Contains es e → Contains ls l → Contains (spread es ls) (e ∷ l)
  contains-spread [] ls e l h k = absurd (omega (arith, h.1))
  contains-spread (a ∷ es) ls e l (zero, b, at) k =
      subst (λ x. Contains (map (λ l. a ∷ l) ls ++ spread es ls) (x ∷ l)) at
      (Contains-append_left (map (λ l. a ∷ l) ls) (spread es ls) (a ∷ l) (contains-map (λ l. a ∷ l) ls l k))
  contains-spread (a ∷ es) ls e l (suc i, b, at) k =
      Contains-append_right (map (λ l. a ∷ l) ls) (spread es ls) (e ∷ l) (contains-spread es ls e l (i, omega (arith, b), at) k)

  pub lists-every : (es : List A) → ((a : A) → (b : A) × Contains es b × same a b) → (l : List A) → (m : List A) × Contains (lists es (length l)) m × AllZip same l m
  lists-every es all [] = ([], (0, omega arith, refl), tt)
  lists-every es all (a ∷ l) =
      let head = all a in
      let tail = lists-every es all l in
      (head.0 ∷ tail.0, contains-spread es (lists es (length l)) head.0 tail.0 head.1 tail.1, (head.2, tail.2))
