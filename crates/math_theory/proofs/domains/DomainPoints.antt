-- The points of a domain: the first n powers of w.
use Rattle.std.proofs.Common.{◌≡◌, ℕ, ◌<◌, length, get_or, sym, subst, arith}
use Rattle.std.proofs.lemmas.List.FromFn.{length-map-range_with_len, get_or-map-range_with_len}
use Rattle.std.specs.List.{All}
use Rattle.math_theory.specs.OverRing.{power, powers}
use Rattle.math_theory.specs.Rings.{CommutativeRing}

module _ {A : Type 0} (R : CommutativeRing A) (w : A) (n : ℕ) where
  pub length-powers : length (powers R w n) ≡ n
  length-powers = length-map-range_with_len (power R w) 0 n

  pub get_or-powers : (i : ℕ) (d : A) → i < n → get_or (powers R w n) i d ≡ power R w i
  get_or-powers i d l = get_or-map-range_with_len (power R w) 0 n i i d l (omega arith)

  pub All-powers : (P : A → Type 0) → ((i : ℕ) → i < n → P (power R w i)) → All P (powers R w n)
  All-powers P h k d l = let m : k < n = omega (arith, l, length-powers) in subst P (sym (get_or-powers k d m)) (h k m)
