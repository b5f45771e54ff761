-- Lists that are related place by place.
use Rattle.std.proofs.Common.{◌≡◌, ℕ, ◌+◌, ◌<◌, List, [], ◌∷◌, ◌++◌, length, take, get_or}
use Rattle.std.specs.List.{AllZip}
use Rattle.std.proofs.lemmas.List.{take_more}
use Rattle.math_base.proofs.PlaceByPlace.{AllZip-append}

module _ {A B : Type 0} (R : A → B → Type 0) where
  -- one more item, beside the next place of a list
  pub AllZip-push : (xs : List A) (ys : List B) (i : ℕ) (x : A) (y : B) → i < length ys → y ≡ get_or ys i y
      → AllZip R xs (take i ys) → R x y → AllZip R (xs ++ x ∷ []) (take (i + 1) ys)
  AllZip-push xs ys i x y l e h k = rw (take_more ys i y l, ← e) (AllZip-append R xs (take i ys) x y h k)

  -- the next place of both lists
  pub AllZip-next : (xs : List A) (ys : List B) (i : ℕ) (x : A) (y : B) → i < length xs → x ≡ get_or xs i x → i < length ys → y ≡ get_or ys i y
      → AllZip R (take i xs) (take i ys) → R x y → AllZip R (take (i + 1) xs) (take (i + 1) ys)
  AllZip-next xs ys i x y l e m f h k = rw (take_more xs i x l, ← e) (AllZip-push (take i xs) ys i x y m f h k)
