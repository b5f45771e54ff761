-- Items that pass a test, gathered one after the other.
use Rattle.std.proofs.Common.{◌≡◌, ℕ, ◌+◌, ◌<◌, ◌≤◌, List, [], ◌∷◌, ◌++◌, Bool, true, false, cond, length, take, drop, get_or, sym, ◌∙◌, ap, arith, length-append, append_assoc, append-nil}
use Rattle.std.proofs.Math.Seq.{get_or-append_seam}
use Rattle.std.specs.List.{filter}
use Rattle.std.proofs.lemmas.List.{take-append-drop, take_all}
use Rattle.std.proofs.lemmas.List.Elements.{filter-append, filter_more}

module _ {X : Type 0} (p : X → Bool) (xs : List X) where
  -- how many of the first n items pass
  abbrev pub kept_of : ℕ → ℕ
  kept_of n = length (filter p (take n xs))

  -- where the next item passes, it is gathered too
  pub filter-passes : (n : ℕ) (x : X) → n < length xs → x ≡ get_or xs n x → p x ≡ true → filter p (take (n + 1) xs) ≡ filter p (take n xs) ++ x ∷ []
  filter-passes n x l is t =
      let front = filter p (take n xs) in
      filter_more p xs n x l ∙ ap (λ b. front ++ cond b (get_or xs n x ∷ []) []) (ap p (sym is) ∙ t) ∙ ap (λ y. front ++ y ∷ []) (sym is)

  -- where it does not, there are the same
  pub filter-fails : (n : ℕ) (x : X) → n < length xs → x ≡ get_or xs n x → p x ≡ false → filter p (take (n + 1) xs) ≡ filter p (take n xs)
  filter-fails n x l is f =
      let front = filter p (take n xs) in
      filter_more p xs n x l ∙ ap (λ b. front ++ cond b (get_or xs n x ∷ []) []) (ap p (sym is) ∙ f) ∙ append-nil front

  -- where the next item passes, it is the next one that is kept
  pub kept-passes : (n : ℕ) (x : X) → n < length xs → x ≡ get_or xs n x → p x ≡ true
      → (kept_of (n + 1) ≡ kept_of n + 1) × (kept_of n < length (filter p xs)) × (x ≡ get_or (filter p xs) (kept_of n) x)
  kept-passes n x l is t =
      let front = filter p (take n xs) in
      let back = filter p (drop (n + 1) xs) in
      let more : filter p (take (n + 1) xs) ≡ front ++ x ∷ [] = filter-passes n x l is t in
      let whole : filter p xs ≡ front ++ x ∷ back =
      ap (filter p) (sym (take-append-drop (n + 1) xs)) ∙ filter-append p (take (n + 1) xs) (drop (n + 1) xs) ∙ ap (λ ys. ys ++ back) more ∙ append_assoc front (x ∷ []) back in (
        ap length more ∙ length-append front (x ∷ []),
        omega (arith, ap length whole, length-append front (x ∷ back)),
        sym (ap (λ ys. get_or ys (kept_of n) x) whole ∙ get_or-append_seam front x back x),
      )

  -- where it does not, no more are kept
  pub kept-fails : (n : ℕ) (x : X) → n < length xs → x ≡ get_or xs n x → p x ≡ false → kept_of (n + 1) ≡ kept_of n
  kept-fails n x l is f = ap length (filter-fails n x l is f)

  pub kept-all : (n : ℕ) → length xs ≤ n → kept_of n ≡ length (filter p xs)
  kept-all n l = ap (λ ys. length (filter p ys)) (take_all n xs l)
