-- Columns of two rows of cells that are combined, of four that are turned by two levels at once, and of sixteen that are turned by four.
use Rattle.std.specs.Prelude.{◌≡◌, ℕ, ◌+◌, ◌*◌, ◌<◌, ◌≤◌, Bool, if◌then◌else◌, List, length, slice_index_or}
use Rattle.math_base.specs.Members.{RingOf}

module _ {A : Type 0} (R : RingOf A) where
  -- A pair of cells a, b is combined by the weight w. Forward it becomes a + b w, a - b w, and on the way back a + b, (a - b) w.
  pub record IsCombined (forward : Bool) (w a b low high : A) : Type 0 where
    pub sum : R.same low (if forward then R.sum a (R.product b w) else R.sum a b)
    pub difference : R.same high (if forward then R.sum a (R.negative (R.product b w)) else R.product (R.sum a (R.negative b)) w)

  -- Four cells are turned by two levels at once, by the weights e, f and g. Forward a, b, c, d become (a + c g) + (b + d g) e, (a + c g) -
  -- (b + d g) e, (a - c g) + (b - d g) f, (a - c g) - (b - d g) f, and on the way back (a + b) + (c + d), (a - b) e + (c - d) f, ((a + b) -
  -- (c + d)) g, ((a - b) e - (c - d) f) g.
  pub record IsTurned (forward : Bool) (e f g a b c d new_a new_b new_c new_d : A) : Type 0 where
    pub first : R.same new_a (if forward then R.sum (R.sum a (R.product c g)) (R.product (R.sum b (R.product d g)) e) else R.sum (R.sum a b) (R.sum c d))
    pub second : R.same new_b
        (if forward then R.sum (R.sum a (R.product c g)) (R.negative (R.product (R.sum b (R.product d g)) e))
        else R.sum (R.product (R.sum a (R.negative b)) e) (R.product (R.sum c (R.negative d)) f))
    pub third : R.same new_c
        (if forward then R.sum (R.sum a (R.negative (R.product c g))) (R.product (R.sum b (R.negative (R.product d g))) f)
        else R.product (R.sum (R.sum a b) (R.negative (R.sum c d))) g)
    pub fourth : R.same new_d
        (if forward then R.sum (R.sum a (R.negative (R.product c g))) (R.negative (R.product (R.sum b (R.negative (R.product d g))) f))
        else R.product (R.sum (R.product (R.sum a (R.negative b)) e) (R.negative (R.product (R.sum c (R.negative d)) f))) g)

  -- the cell at place i
  abbrev at : List A → ℕ → A
  at xs i = slice_index_or xs i R.zero

  -- the first n columns of two rows of c cells are combined, and the others are as before
  pub record AreCombinedBelow (forward : Bool) (w : A) (c n : ℕ) (old new : List A) : Type 0 where
    pub combined : (p : ℕ) → p < n → IsCombined forward w (at old p) (at old (c + p)) (at new p) (at new (c + p))
    pub kept : (p : ℕ) → n ≤ p → p < c → (at new p ≡ at old p) × (at new (c + p) ≡ at old (c + p))

  -- the first n columns of four rows of c cells are turned, and the others are as before
  pub record AreTurnedBelow (forward : Bool) (e f g : A) (c n : ℕ) (old new : List A) : Type 0 where
    pub turned : (p : ℕ) → p < n
        → IsTurned forward e f g (at old p) (at old (c + p)) (at old (2 * c + p)) (at old (3 * c + p)) (at new p) (at new (c + p)) (at new (2 * c + p)) (at new (3 * c + p))
    pub kept : (p : ℕ) → n ≤ p → p < c
        → (at new p ≡ at old p) × (at new (c + p) ≡ at old (c + p)) × (at new (2 * c + p) ≡ at old (2 * c + p)) × (at new (3 * c + p) ≡ at old (3 * c + p))

  -- columns i to i + m of two rows of c cells are combined, and the others are as before
  pub record AreColumnsCombined (forward : Bool) (w : A) (c i m : ℕ) (old new : List A) : Type 0 where
    pub combined : (p : ℕ) → i ≤ p → p < i + m → IsCombined forward w (at old p) (at old (c + p)) (at new p) (at new (c + p))
    pub before : (p : ℕ) → p < i → (at new p ≡ at old p) × (at new (c + p) ≡ at old (c + p))
    pub behind : (p : ℕ) → i + m ≤ p → p < c → (at new p ≡ at old p) × (at new (c + p) ≡ at old (c + p))

  -- columns i to i + m of four rows of c cells are turned, and the others are as before
  pub record AreColumnsTurned (forward : Bool) (e f g : A) (c i m : ℕ) (old new : List A) : Type 0 where
    pub turned : (p : ℕ) → i ≤ p → p < i + m
        → IsTurned forward e f g (at old p) (at old (c + p)) (at old (2 * c + p)) (at old (3 * c + p)) (at new p) (at new (c + p)) (at new (2 * c + p)) (at new (3 * c + p))
    pub before : (p : ℕ) → p < i
        → (at new p ≡ at old p) × (at new (c + p) ≡ at old (c + p)) × (at new (2 * c + p) ≡ at old (2 * c + p)) × (at new (3 * c + p) ≡ at old (3 * c + p))
    pub behind : (p : ℕ) → i + m ≤ p → p < c
        → (at new p ≡ at old p) × (at new (c + p) ≡ at old (c + p)) × (at new (2 * c + p) ≡ at old (2 * c + p)) × (at new (3 * c + p) ≡ at old (3 * c + p))

  -- entry 2 p + 1 of a tree is entry 2 p times the turn
  abbrev pub IsOddEntry : A → List A → ℕ → Type 0
  IsOddEntry turn roots p = R.same (at roots (2 * p + 1)) (R.product (at roots (2 * p)) turn)

  -- and so for all p from 1 on
  abbrev pub AreOddEntries : A → List A → Type 0
  AreOddEntries turn roots = (p : ℕ) → 1 ≤ p → 2 * p + 1 < length roots → IsOddEntry turn roots p

  -- the cells at places i, c + i, 2 c + i and 3 c + i are turned by entry p of a tree and the two entries below it
  abbrev pub IsTurnedByTree : Bool → List A → ℕ → ℕ → ℕ → List A → List A → Type 0
  IsTurnedByTree forward roots p c i old new =
      IsTurned forward (at roots (2 * p)) (at roots (2 * p + 1)) (at roots p) (at old i) (at old (c + i)) (at old (2 * c + i)) (at old (3 * c + i))
      (at new i) (at new (c + i)) (at new (2 * c + i)) (at new (3 * c + i))

  -- sixteen rows of c cells are turned by four levels: as four rows of 4 c cells by entry p of a tree and those below it, and then each of the four, as four rows of c
  -- cells, by one of the entries from 4 p on and those below it; on the way back first each of the four, and then all
  pub record AreSixteenTurned (forward : Bool) (roots : List A) (p c : ℕ) (old new : List A) : Type 0 where
    pub between : List A
    pub count : length between ≡ 16 * c
    pub all : (i : ℕ) → i < 4 * c → IsTurnedByTree forward roots p (4 * c) i (if forward then old else between) (if forward then between else new)
    pub first : (i : ℕ) → i < c → IsTurnedByTree forward roots (4 * p) c i (if forward then between else old) (if forward then new else between)
    pub second : (i : ℕ) → i < c → IsTurnedByTree forward roots (4 * p + 1) c (4 * c + i) (if forward then between else old) (if forward then new else between)
    pub third : (i : ℕ) → i < c → IsTurnedByTree forward roots (4 * p + 2) c (2 * (4 * c) + i) (if forward then between else old) (if forward then new else between)
    pub fourth : (i : ℕ) → i < c → IsTurnedByTree forward roots (4 * p + 3) c (3 * (4 * c) + i) (if forward then between else old) (if forward then new else between)
