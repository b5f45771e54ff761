-- Four rows of cells that are turned, one column after the other.
use Rattle.std.proofs.Common.{◌≡◌, ◌∙◌, inl, inr, ℕ, ◌+◌, ◌*◌, ◌<◌, ◌≢◌, ◌⊎◌, Bool, true, false, if◌then◌else◌, List, length, get_or, set, refl, arith}
use Rattle.std.proofs.lemmas.List.{get_or-set_same, get_or-set_other, length-set}
use Rattle.math_base.specs.Members.{RingOf}
use Rattle.math_base.specs.Columns.{AreTurnedBelow, IsTurned}

module _ {A : Type 0} (R : RingOf A) (forward : Bool) (e f g : A) (c : ℕ) where
  -- the cell at place i
  abbrev at : List A → ℕ → A
  at xs i = get_or xs i R.zero

  abbrev column : ℕ → List A → List A → Type 0
  column p old new = IsTurned R forward e f g (at old p) (at old (c + p)) (at old (2 * c + p)) (at old (3 * c + p)) (at new p) (at new (c + p)) (at new (2 * c + p)) (at new (3 * c + p))

  abbrev are_as_before : ℕ → List A → List A → Type 0
  are_as_before p old new = (at new p ≡ at old p) × (at new (c + p) ≡ at old (c + p)) × (at new (2 * c + p) ≡ at old (2 * c + p)) × (at new (3 * c + p) ≡ at old (3 * c + p))

  -- column p of four rows of c cells is turned, and all other cells are as before
  record IsColumnTurned (p : ℕ) (old new : List A) : Type 0 where
    turned : column p old new
    others : (i : ℕ) → i ≢ p → i ≢ c + p → i ≢ 2 * c + p → i ≢ 3 * c + p → at new i ≡ at old i

  pub turned-none : (xs : List A) → AreTurnedBelow R forward e f g c 0 xs xs
  turned-none xs = record { turned = λ p l. absurd (omega arith); kept = λ p l m. (refl, refl, refl, refl) }

  another : (n p : ℕ) (mid new : List A) → n < c → IsColumnTurned n mid new → p ≢ n → p < c → are_as_before p mid new
  another n p mid new l k other m = grind arith

  -- and then the next column
  column-more : (n : ℕ) (old mid new : List A) → n < c → AreTurnedBelow R forward e f g c n old mid → IsColumnTurned n mid new → AreTurnedBelow R forward e f g c (n + 1) old new
  column-more n old mid new l h k = grind arith

  -- one column, of which the four cells are written
  module _ (p : ℕ) (old : List A) (x y z w : A) (l : p < c) (long : length old ≡ 4 * c) where
    abbrev one : List A
    one = set old p x

    abbrev two : List A
    two = set one (c + p) y

    abbrev three : List A
    three = set two (2 * c + p) z

    abbrev four : List A
    four = set three (3 * c + p) w

    length-one : length one ≡ 4 * c
    length-one = length-set old p x ∙ long

    length-two : length two ≡ 4 * c
    length-two = length-set one (c + p) y ∙ length-one

    length-three : length three ≡ 4 * c
    length-three = length-set two (2 * c + p) z ∙ length-two

    first : at four p ≡ x
    first = grind (arith, get_or-set_other, get_or-set_same)

    second : at four (c + p) ≡ y
    second = grind (arith, get_or-set_other, get_or-set_same, length-one)

    third : at four (2 * c + p) ≡ z
    third = get_or-set_other three (3 * c + p) (2 * c + p) w R.zero (omega arith) ∙ get_or-set_same two (2 * c + p) z R.zero (omega (arith, length-two))

    fourth : at four (3 * c + p) ≡ w
    fourth = get_or-set_same three (3 * c + p) w R.zero (omega (arith, length-three))

    turned-column : (a b u d : A) → a ≡ at old p → b ≡ at old (c + p) → u ≡ at old (2 * c + p) → d ≡ at old (3 * c + p) → IsTurned R forward e f g a b u d x y z w
        → IsColumnTurned p old four
    turned-column a b u d is_a is_b is_u is_d h = record {
      turned = rw (← is_a, ← is_b, ← is_u, ← is_d, first, second, third, fourth) h;
      others = λ i m n o q. get_or-set_other three (3 * c + p) i w R.zero q ∙ get_or-set_other two (2 * c + p) i z R.zero o ∙ get_or-set_other one (c + p) i y R.zero n ∙ get_or-set_other old p i x R.zero m;
    }

  -- and so with the next column, of which the four cells are written
  pub turned-more : (n : ℕ) (old mid : List A) (x y z w : A) → n < c → length mid ≡ 4 * c → AreTurnedBelow R forward e f g c n old mid → (a b u d : A)
      → a ≡ at mid n → b ≡ at mid (c + n) → u ≡ at mid (2 * c + n) → d ≡ at mid (3 * c + n) → IsTurned R forward e f g a b u d x y z w
      → AreTurnedBelow R forward e f g c (n + 1) old (set (set (set (set mid n x) (c + n) y) (2 * c + n) z) (3 * c + n) w)
  turned-more n old mid x y z w l long h a b u d is_a is_b is_u is_d k =
      column-more n old mid _ l h (turned-column n mid x y z w l long a b u d is_a is_b is_u is_d k)

-- what is one of two, by a truth value, is the one or the other
pub either-of : {A : Type 0} (same : A → A → Type 0) (b : Bool) (z x y : A) → same z (if b then x else y) → same z x ⊎ same z y
either-of same true z x y h = inl h
either-of same false z x y h = inr h
