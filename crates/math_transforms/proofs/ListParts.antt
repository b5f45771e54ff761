-- Parts of s items of a list, which are changed one after the other.
use Rattle.std.proofs.Common.{◌≡◌, ◌∙◌, inl, inr, ℕ, ◌+◌, ◌*◌, ◌-◌, ◌<◌, ◌≤◌, List, ◌++◌, length, take, drop, get_or, sym, ap, ap₂, arith}
use Rattle.std.proofs.Math.Seq.{drop-append_seam, drop-drop, take-add, take-append_seam}
use Rattle.std.proofs.lemmas.Bool.{cases_lt}
use Rattle.std.proofs.lemmas.List.{drop-append-le, length-drop, length-take-le, take-append-drop, take-append-le, take_all}
use Rattle.std.proofs.lemmas.Nat.{mul-le}
use Rattle.math_transforms.proofs.WrittenRows.{part-read}

module _ {A : Type 0} (s : ℕ) where
  -- part k of a list
  abbrev pub part : ℕ → List A → List A
  part k xs = take s (drop (k * s) xs)

  pub part-length : (k : ℕ) (xs : List A) → k * s + s ≤ length xs → length (part k xs) ≡ s
  part-length k xs l = length-take-le s (drop (k * s) xs) (omega (arith, l, length-drop (k * s) xs))

  -- an item of a part
  pub part-item : (o : A) (k j at : ℕ) (xs : List A) → at ≡ k * s + j → j < s → get_or (part k xs) j o ≡ get_or xs at o
  part-item o k j at xs is l = part-read o xs (k * s) s j l ∙ ap (λ i. get_or xs i o) (sym is)

  -- the last part is all that is left
  last-part : (k : ℕ) (xs : List A) → length xs ≡ k * s + s → part k xs ≡ drop (k * s) xs
  last-part k xs long = take_all s (drop (k * s) xs) (omega (arith, long, length-drop (k * s) xs))

  first-part : (xs : List A) → take s xs ≡ part 0 xs
  first-part xs = let none : 0 ≡ 0 * s = omega arith in ap (λ i. take s (drop i xs)) none

  pub two-parts : (xs : List A) → length xs ≡ 2 * s → xs ≡ part 0 xs ++ part 1 xs
  two-parts xs long = grind (arith, take-append-drop, first-part, last-part)

  pub four-parts : (xs : List A) → length xs ≡ 4 * s → xs ≡ (part 0 xs ++ part 1 xs) ++ (part 2 xs ++ part 3 xs)
  four-parts xs long =
      let one : s ≡ 1 * s = omega arith in
      let two : s + s ≡ 2 * s = omega arith in
      let three : 2 * s + s ≡ 3 * s = omega arith in
      sym (take-append-drop (s + s) xs)
      ∙ ap₂ (λ x y. x ++ y)
      (take-add s s xs ∙ ap₂ (λ x y. x ++ y) (first-part xs) (ap (λ i. take s (drop i xs)) one))
      (ap (λ i. drop i xs) two ∙ sym (take-append-drop s (drop (2 * s) xs))
      ∙ ap (λ y. part 2 xs ++ y) (drop-drop s (2 * s) xs ∙ ap (λ i. drop i xs) three ∙ sym (last-part 3 xs (omega (arith, long)))))

  -- the first n parts are in relation to what they were, and all items behind them are as they were
  pub record ArePartsDone (Q : ℕ → List A → List A → Type 0) (n : ℕ) (old now : List A) : Type 0 where
    pub done : (k : ℕ) → k < n → Q k (part k old) (part k now)
    pub rest : drop (n * s) now ≡ drop (n * s) old

  -- one part more
  module _ (Q : ℕ → List A → List A → Type 0) (old now row : List A) (k from n : ℕ) (at : from ≡ k * s) (count : n ≡ s) (within : from + s ≤ length now) (long : length row ≡ s) where
    abbrev put : List A
    put = take from now ++ (row ++ drop n (drop from now))

    front : length (take from now) ≡ from
    front = length-take-le from now (omega (arith, within))

    behind : drop from put ≡ row ++ drop n (drop from now)
    behind = ap (λ i. drop i put) (sym front) ∙ drop-append_seam (take from now) (row ++ drop n (drop from now))

    here : part k put ≡ row
    here =
        ap (λ i. take s (drop i put)) (sym at) ∙ ap (take s) behind ∙ ap (λ i. take i (row ++ drop n (drop from now))) (sym long)
        ∙ take-append_seam row (drop n (drop from now))

    past : drop (from + s) put ≡ drop n (drop from now)
    past =
        sym (drop-drop s from put) ∙ ap (drop s) behind ∙ ap (λ i. drop i (row ++ drop n (drop from now))) (sym long)
        ∙ drop-append_seam row (drop n (drop from now))

    in-front : (j : ℕ) → j < k → (ys : List A) → part j (take from now ++ ys) ≡ take s (drop (j * s) (take from now))
    in-front j l ys =
        let up : (j + 1) * s ≤ k * s = mul-le (j + 1) s k s (omega (arith, l)) (omega arith) in
        let inside : j * s + s ≤ length (take from now) = omega (arith, up, at, front) in
        ap (take s) (drop-append-le (j * s) (take from now) ys (omega (arith, inside)))
        ∙ take-append-le s (drop (j * s) (take from now)) ys (omega (arith, inside, length-drop (j * s) (take from now)))

    before : (j : ℕ) → j < k → part j put ≡ part j now
    before j l =
        in-front j l (row ++ drop n (drop from now)) ∙ sym (in-front j l (drop from now)) ∙ ap (part j) (take-append-drop from now)

    pub one-done : ArePartsDone Q k old now → Q k (take n (drop from now)) row → ArePartsDone Q (k + 1) old put
    one-done h q =
        let was : take n (drop from now) ≡ part k old = ap₂ (λ i j. take i (drop j now)) count at ∙ ap (take s) h.rest in
        let next : (k + 1) * s ≡ from + s = omega (arith, at) in
        let more : k * s + s ≡ (k + 1) * s = omega arith in
        record {
          done = λ j l.
              elim (cases_lt j k) [
                | inl b ↦ rw (before j b) (h.done j b)
                | inr b ↦ let e : j ≡ k = omega (arith, l, b) in rw (e, here, ← was) q
              ];
          rest =
              ap (λ i. drop i put) next ∙ past ∙ ap₂ (λ i j. drop i (drop j now)) count at ∙ ap (drop s) h.rest ∙ drop-drop s (k * s) old
              ∙ ap (λ i. drop i old) more;
        }

-- the items of a list from one place on, up to another one
pub slice-size : {A : Type 0} (from s : ℕ) (xs : List A) → from + s ≤ length xs → length (take (from + s - from) (drop from xs)) ≡ s
slice-size from s xs l = grind (arith, length-take-le, length-drop)
