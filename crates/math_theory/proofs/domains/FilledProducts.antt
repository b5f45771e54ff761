-- Products of differences from the items at the true places, without one of them, and from those at the false places.
use Rattle.std.proofs.Common.{◌≡◌, ℕ, zero, suc, ◌+◌, ◌<◌, List, [], ◌∷◌, Bool, true, false, length, map, get_or, refl, sym, ap, true≢false, arith}
use Rattle.std.proofs.Math.ListN.{set}
use Rattle.std.specs.List.{remove}
use Rattle.math_theory.specs.Recovery.{count_true, filled_items, missing_items}
use Rattle.math_theory.specs.Rings.{CommutativeRing}
use Rattle.math_theory.specs.OverRing.{root_product}
use Rattle.math_theory.proofs.recovery.FilledItems.{count_true-true, count_true-false}
use Rattle.math_theory.proofs.rings.Normal.{combine, ◌⊗◌, ◌⊖◌, v0, v1, v2, v3, v4}

-- the place of the true value number k, counted from 0
abbrev pub filled_place : List Bool → ℕ → ℕ
filled_place [] k = k
filled_place (true ∷ filled) zero = 0
filled_place (true ∷ filled) (suc k) = suc (filled_place filled k)
filled_place (false ∷ filled) k = suc (filled_place filled k)

pub filled_place-true : (filled : List Bool) (k : ℕ) → k < count_true filled → (filled_place filled k < length filled) × (get_or filled (filled_place filled k) false ≡ true)
filled_place-true [] k l = absurd (omega arith)
filled_place-true (true ∷ filled) zero l = (omega arith, refl)
filled_place-true (true ∷ filled) (suc k) l = let r = filled_place-true filled k (omega (arith, count_true-true filled)) in (omega (arith, r.0), r.1)
filled_place-true (false ∷ filled) k l = let r = filled_place-true filled k (omega (arith, count_true-false filled)) in (omega (arith, r.0), r.1)

-- the places rise
pub filled_place-rise : (filled : List Bool) (k : ℕ) → k + 1 < count_true filled → filled_place filled k < filled_place filled (k + 1)
filled_place-rise filled k l = let next : filled_place filled (k + 1) ≡ filled_place filled (suc k) =
    ap (filled_place filled) (let e : k + 1 ≡ suc k = omega arith in e) in omega (arith, next, rise filled k (omega arith))
  where
    rise : (filled : List Bool) (k : ℕ) → suc k < count_true filled → filled_place filled k < filled_place filled (suc k)
    rise [] k l = absurd (omega arith)
    rise (true ∷ filled) zero l = omega arith
    rise (true ∷ filled) (suc k) l = omega (arith, rise filled k (omega (arith, count_true-true filled)))
    rise (false ∷ filled) k l = omega (arith, rise filled k (omega (arith, count_true-false filled)))

-- each true value has a number
pub filled_place-found : (filled : List Bool) (m : ℕ) → m < length filled → get_or filled m false ≡ true → (k : ℕ) × (k < count_true filled) × (filled_place filled k ≡ m)
filled_place-found [] m l e = absurd (omega arith)
filled_place-found (true ∷ filled) zero l e = (0, omega (arith, count_true-true filled), refl)
filled_place-found (false ∷ filled) zero l e = absurd (true≢false (sym e))
filled_place-found (true ∷ filled) (suc m) l e = let r = filled_place-found filled m (omega arith) e in (suc r.0, omega (arith, count_true-true filled, r.1), ap suc r.2)
filled_place-found (false ∷ filled) (suc m) l e = let r = filled_place-found filled m (omega arith) e in (r.0, omega (arith, count_true-false filled, r.1), ap suc r.2)

pub filled_items-place : {A : Type 0} (xs : List A) (filled : List Bool) (k : ℕ) (d : A) → length filled ≡ length xs → k < count_true filled
    → get_or (filled_items xs filled) k d ≡ get_or xs (filled_place filled k) d
filled_items-place [] [] k d h l = absurd (omega arith)
filled_items-place [] (b ∷ filled) k d h l = absurd (omega (arith, h))
filled_items-place (x ∷ xs) [] k d h l = absurd (omega (arith, h))
filled_items-place (x ∷ xs) (true ∷ filled) zero d h l = refl
filled_items-place (x ∷ xs) (true ∷ filled) (suc k) d h l = filled_items-place xs filled k d (omega (arith, h)) (omega (arith, count_true-true filled))
filled_items-place (x ∷ xs) (false ∷ filled) k d h l = filled_items-place xs filled k d (omega (arith, h)) (omega (arith, count_true-false filled))

pub filled_items-map : {A B : Type 0} (f : A → B) (xs : List A) (filled : List Bool) → filled_items (map f xs) filled ≡ map f (filled_items xs filled)
filled_items-map f [] filled = refl
filled_items-map f (x ∷ xs) [] = refl
filled_items-map f (x ∷ xs) (true ∷ filled) = ap (λ ys. f x ∷ ys) (filled_items-map f xs filled)
filled_items-map f (x ∷ xs) (false ∷ filled) = filled_items-map f xs filled

module _ {A : Type 0} (R : CommutativeRing A) (r : A) where
  open R use {sum, negative, product}

  abbrev over : List A → A
  over xs = root_product R r xs

  -- all items are those at the true and those at the false places
  pub root_product-parted : (xs : List A) (filled : List Bool) → length filled ≡ length xs → over xs ≡ product (over (filled_items xs filled)) (over (missing_items xs filled))
  root_product-parted [] [] h = sym (R.product_one R.one)
  root_product-parted [] (b ∷ filled) h = absurd (omega (arith, h))
  root_product-parted (x ∷ xs) [] h = absurd (omega (arith, h))
  root_product-parted (x ∷ xs) (true ∷ filled) h =
      combine R (r ∷ x ∷ over xs ∷ over (filled_items xs filled) ∷ over (missing_items xs filled) ∷ [])
      ((v0 ⊖ v1) ⊗ v2) (((v0 ⊖ v1) ⊗ v3) ⊗ v4) (v0 ⊖ v1) v2 (v3 ⊗ v4) (root_product-parted xs filled (omega (arith, h))) refl
  root_product-parted (x ∷ xs) (false ∷ filled) h =
      combine R (r ∷ x ∷ over xs ∷ over (filled_items xs filled) ∷ over (missing_items xs filled) ∷ [])
      ((v0 ⊖ v1) ⊗ v2) (v3 ⊗ ((v0 ⊖ v1) ⊗ v4)) (v0 ⊖ v1) v2 (v3 ⊗ v4) (root_product-parted xs filled (omega (arith, h))) refl

  -- the same without one item at a true place
  pub root_product-without_filled : (xs : List A) (filled : List Bool) (k : ℕ) → length filled ≡ length xs → k < count_true filled
      → over (remove xs (filled_place filled k)) ≡ product (over (remove (filled_items xs filled) k)) (over (missing_items xs filled))
  root_product-without_filled [] [] k h l = absurd (omega arith)
  root_product-without_filled [] (b ∷ filled) k h l = absurd (omega (arith, h))
  root_product-without_filled (x ∷ xs) [] k h l = absurd (omega (arith, h))
  root_product-without_filled (x ∷ xs) (true ∷ filled) zero h l = root_product-parted xs filled (omega (arith, h))
  root_product-without_filled (x ∷ xs) (true ∷ filled) (suc k) h l =
      combine R (r ∷ x ∷ over (remove xs (filled_place filled k)) ∷ over (remove (filled_items xs filled) k) ∷ over (missing_items xs filled) ∷ [])
      ((v0 ⊖ v1) ⊗ v2) (((v0 ⊖ v1) ⊗ v3) ⊗ v4) (v0 ⊖ v1) v2 (v3 ⊗ v4) (root_product-without_filled xs filled k (omega (arith, h)) (omega (arith, count_true-true filled))) refl
  root_product-without_filled (x ∷ xs) (false ∷ filled) k h l =
      combine R (r ∷ x ∷ over (remove xs (filled_place filled k)) ∷ over (remove (filled_items xs filled) k) ∷ over (missing_items xs filled) ∷ [])
      ((v0 ⊖ v1) ⊗ v2) (v3 ⊗ ((v0 ⊖ v1) ⊗ v4)) (v0 ⊖ v1) v2 (v3 ⊗ v4) (root_product-without_filled xs filled k (omega (arith, h)) (omega (arith, count_true-false filled))) refl

  -- an item at a false place, and then those that are left at false places once it counts as filled
  pub root_product-fill : (xs : List A) (filled : List Bool) (m : ℕ) (d : A) → length filled ≡ length xs → m < length xs → get_or filled m false ≡ false
      → over (missing_items xs filled) ≡ product (sum r (negative (get_or xs m d))) (over (missing_items xs (set filled m true)))
  root_product-fill [] filled m d h l e = absurd (omega arith)
  root_product-fill (x ∷ xs) [] m d h l e = absurd (omega (arith, h))
  root_product-fill (x ∷ xs) (true ∷ filled) zero d h l e = absurd (true≢false e)
  root_product-fill (x ∷ xs) (false ∷ filled) zero d h l e = refl
  root_product-fill (x ∷ xs) (true ∷ filled) (suc m) d h l e = root_product-fill xs filled m d (omega (arith, h)) (omega arith) e
  root_product-fill (x ∷ xs) (false ∷ filled) (suc m) d h l e =
      combine R (r ∷ x ∷ get_or xs m d ∷ over (missing_items xs filled) ∷ over (missing_items xs (set filled m true)) ∷ [])
      ((v0 ⊖ v1) ⊗ v3) ((v0 ⊖ v2) ⊗ ((v0 ⊖ v1) ⊗ v4)) (v0 ⊖ v1) v3 ((v0 ⊖ v2) ⊗ v4) (root_product-fill xs filled m d (omega (arith, h)) (omega arith) e) refl

  -- all items without one at a false place are those at the true places, and those that are left
  pub root_product-without_missing : (xs : List A) (filled : List Bool) (m : ℕ) → length filled ≡ length xs → m < length xs → get_or filled m false ≡ false
      → over (remove xs m) ≡ product (over (filled_items xs filled)) (over (missing_items xs (set filled m true)))
  root_product-without_missing [] filled m h l e = absurd (omega arith)
  root_product-without_missing (x ∷ xs) [] m h l e = absurd (omega (arith, h))
  root_product-without_missing (x ∷ xs) (true ∷ filled) zero h l e = absurd (true≢false e)
  root_product-without_missing (x ∷ xs) (false ∷ filled) zero h l e = root_product-parted xs filled (omega (arith, h))
  root_product-without_missing (x ∷ xs) (true ∷ filled) (suc m) h l e =
      combine R (r ∷ x ∷ over (remove xs m) ∷ over (filled_items xs filled) ∷ over (missing_items xs (set filled m true)) ∷ [])
      ((v0 ⊖ v1) ⊗ v2) (((v0 ⊖ v1) ⊗ v3) ⊗ v4) (v0 ⊖ v1) v2 (v3 ⊗ v4) (root_product-without_missing xs filled m (omega (arith, h)) (omega arith) e) refl
  root_product-without_missing (x ∷ xs) (false ∷ filled) (suc m) h l e =
      combine R (r ∷ x ∷ over (remove xs m) ∷ over (filled_items xs filled) ∷ over (missing_items xs (set filled m true)) ∷ [])
      ((v0 ⊖ v1) ⊗ v2) (v3 ⊗ ((v0 ⊖ v1) ⊗ v4)) (v0 ⊖ v1) v2 (v3 ⊗ v4) (root_product-without_missing xs filled m (omega (arith, h)) (omega arith) e) refl
