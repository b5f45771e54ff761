-- Lists that are related place by place.
use Rattle.std.proofs.Common.{◌≡◌, inl, inr, ℕ, ◌+◌, ◌<◌, List, [], ◌∷◌, ◌++◌, length, get_or, arith}
use Rattle.std.proofs.Math.Seq.{get_or-append_seam}
use Rattle.std.proofs.lemmas.Bool.{cases_lt}
use Rattle.std.proofs.lemmas.List.{get_or_append_left}
use Rattle.std.specs.List.{AllZip}

pub AllZip-append : {A B : Type 0} (R : A → B → Type 0) (xs : List A) (ys : List B) (x : A) (y : B) → AllZip R xs ys → R x y → AllZip R (xs ++ x ∷ []) (ys ++ y ∷ [])
AllZip-append R [] [] x y h k = (k, tt)
AllZip-append R [] (b ∷ ys) x y h k = absurd h
AllZip-append R (a ∷ xs) [] x y h k = absurd h
AllZip-append R (a ∷ xs) (b ∷ ys) x y h k = (h.0, AllZip-append R xs ys x y h.1 k)

-- what holds of each place and of the next
pub each_place_next : {A : Type 0} (d : A) (P : ℕ → A → Type 0) (xs : List A) (i : ℕ) (x : A) → length xs ≡ i
    → ((k : ℕ) → k < i → P k (get_or xs k d)) → P i x → (k : ℕ) → k < i + 1 → P k (get_or (xs ++ x ∷ []) k d)
each_place_next d P xs i x e h p k l =
    elim (cases_lt k i) [
      | inl m ↦ let n : k < length xs = omega arith in rw (get_or_append_left xs (x ∷ []) d k n) (h k m)
      | inr m ↦ let n : k ≡ length xs = omega arith in rw (n, get_or-append_seam xs x [] d, e) p
    ]
