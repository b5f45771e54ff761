-- Lists that are related place by place.
use Rattle.std.proofs.Common.{◌≡◌, ℕ, ◌+◌, ◌<◌, List, [], ◌∷◌, ◌++◌, length, take, get_or}
use Rattle.std.specs.List.{AllZip}
use Rattle.std.proofs.lemmas.List.{take_more}
use Rattle.math_base.proofs.PlaceByPlace.{AllZip-append}

-- one more place
pub AllZip-next : {A B : Type 0} (R : A → B → Type 0) (xs : List A) (ys : List B) (i : ℕ) (x : A) (y : B) → i < length xs → x ≡ get_or xs i x
    → AllZip R (take i xs) ys → R x y → AllZip R (take (i + 1) xs) (ys ++ y ∷ [])
AllZip-next R xs ys i x y l e h k = rw (take_more xs i x l, ← e) (AllZip-append R (take i xs) ys x y h k)

-- what follows from R in each place
pub AllZip-weaker : {A B : Type 0} (R S : A → B → Type 0) → ((x : A) (y : B) → R x y → S x y) → (xs : List A) (ys : List B) → AllZip R xs ys → AllZip S xs ys
AllZip-weaker R S k [] [] h = tt
AllZip-weaker R S k [] (y ∷ ys) h = absurd h
AllZip-weaker R S k (x ∷ xs) [] h = absurd h
AllZip-weaker R S k (x ∷ xs) (y ∷ ys) h = (k x y h.0, AllZip-weaker R S k xs ys h.1)
