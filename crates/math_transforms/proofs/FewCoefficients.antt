-- Values below a place of a tree of square roots, of polynomials of few coefficients: those of both halves of the points.
use Rattle.std.proofs.Common.{◌≡◌, ◌∙◌, inl, inr, ℕ, ◌+◌, ◌-◌, ◌*◌, ◌<◌, ◌≤◌, ◌^◌, List, ◌++◌, length, sym, ap, arith}
use Rattle.std.proofs.lemmas.Bool.{cases_lt}
use Rattle.std.proofs.lemmas.List.{get_or_append_left, get_or-append-add}
use Rattle.std.proofs.lemmas.Nat.{mul-add-lt, mul-le}
use Rattle.math_theory.specs.Laws.{IsEquality, IsGroup, IsProduct, IsRing}
use Rattle.math_theory.proofs.polynomials.BuiltPolynomials.{value-respects}
use Rattle.math_base.specs.Members.{RingOf}
use Rattle.math_transforms.specs.DomainValues.{matrix_of}
use Rattle.math_transforms.specs.Matrices.{column_of}
use Rattle.math_transforms.specs.RootTrees.{AreValuesOfFewBelow, class_at, column_value, entry}
use Rattle.math_transforms.proofs.DomainSteps.{column-cell}
use Rattle.math_transforms.proofs.LevelsBelow.{below, child-within}
use Rattle.math_transforms.proofs.MatrixRows.{length-column}
use Rattle.math_transforms.proofs.PowersOfTwo.{power_of_two-rises}

-- what is below a place with more rows than coefficients, by halves of n rows of c cells, of which the coefficients take m
pub record Shared (lg part place c long n m : ℕ) : Type 0 where
  pub cells : 2 ^ lg * c ≡ n * c + n * c
  pub half : n * c ≡ 2 ^ (lg - 1) * c
  pub coefficients : m * c ≡ 2 ^ part * c
  pub few : m * c ≤ n * c
  pub count : c * 2 ^ lg * part ≡ c * 2 ^ (lg - 1) * part + c * 2 ^ (lg - 1) * part
  pub inside : place + 1 ≤ long
  pub first : 2 ^ (lg - 1) * (2 * place + 1) ≤ 2 * long
  pub second : 2 ^ (lg - 1) * (2 * place + 1 + 1) ≤ 2 * long

pub shared : (lg part place c long n m : ℕ) → part < lg → 2 ^ lg * (place + 1) ≤ 2 * long → n ≡ 2 ^ (lg - 1) → m ≡ 2 ^ part → Shared lg part place c long n m
shared lg part place c long n m some within n_is m_is =
    let rows = (below lg place c (omega (arith, some))).rows in
    let up : 2 ^ part ≤ 2 ^ (lg - 1) = power_of_two-rises part (lg - 1) (omega (arith, some)) in
    let two : 2 ≤ 2 ^ lg = power_of_two-rises 1 lg (omega (arith, some)) in
    let least : 2 * (place + 1) ≤ 2 ^ lg * (place + 1) = mul-le 2 (place + 1) (2 ^ lg) (place + 1) two (omega arith) in
    record {
      cells = ap (λ i. i * c) rows ∙ ap (λ i. (i + i) * c) (sym n_is) ∙ omega arith;
      half = ap (λ i. i * c) n_is;
      coefficients = ap (λ i. i * c) m_is;
      few = mul-le m c n c (omega (arith, n_is, m_is, up)) (omega arith);
      count = ap (λ i. c * i * part) rows ∙ omega arith;
      inside = omega (arith, least, within);
      first = let h = child-within lg place 0 long (omega (arith, some)) (omega arith) within in omega (arith, h);
      second = let h = child-within lg place 1 long (omega (arith, some)) (omega arith) within in omega (arith, h);
    }

module _ {A : Type 0} (R : RingOf A) (E : IsEquality R.same) (G : IsGroup R.same R.zero R.sum R.negative) (P : IsProduct R.same R.product) (L : IsRing R.same R.sum R.product R.one)
    (roots : List A) (lg part place c : ℕ) where
  -- columns whose cells are same have the same values
  column-respects : (k : ℕ) (xs ys : List A) (x : A) → k < c → ((p : ℕ) → p < 2 ^ part * c → R.same (entry R xs p) (entry R ys p))
      → R.same (column_value R part c xs k x) (column_value R part c ys k x)
  column-respects k xs ys x m h =
      value-respects E G P L x (column_of R.zero (matrix_of (2 ^ part) c xs) k) (column_of R.zero (matrix_of (2 ^ part) c ys) k)
      (length-column R.zero (matrix_of (2 ^ part) c xs) k ∙ sym (length-column R.zero (matrix_of (2 ^ part) c ys) k))
      (λ j b. let l : j < 2 ^ part = omega (arith, b, length-column R.zero (matrix_of (2 ^ part) c xs) k) in
      rw (column-cell R.zero (2 ^ part) c k j xs l m, column-cell R.zero (2 ^ part) c k j ys l m)
      (h (j * c + k) (let z = mul-add-lt j c k (2 ^ part) l m in omega (arith, z))))

  -- the coefficients of both halves are those of the low one
  pub few-level : (low high copies new_low new_high : List A) → part < lg → length low ≡ 2 ^ (lg - 1) * c → length new_low ≡ 2 ^ (lg - 1) * c
      → ((p : ℕ) → p < 2 ^ part * c → R.same (entry R copies p) (entry R low p))
      → AreValuesOfFewBelow R roots (lg - 1) part (2 * place) c low new_low → AreValuesOfFewBelow R roots (lg - 1) part (2 * place + 1) c copies new_high
      → AreValuesOfFewBelow R roots lg part place c (low ++ high) (new_low ++ new_high)
  few-level low high copies new_low new_high some count new_count copied first second t k b m =
      let half = 2 ^ (lg - 1) in
      let rows = below lg place c (omega (arith, some)) in
      let few : 2 ^ part * c ≤ half * c = mul-le (2 ^ part) c half c (power_of_two-rises part (lg - 1) (omega (arith, some))) (omega arith) in
      let kept : (p : ℕ) → p < 2 ^ part * c → R.same (entry R low p) (entry R (low ++ high) p) =
      λ p l. rw (get_or_append_left low high R.zero p (omega (arith, l, few, count))) (E.reflexive _) in
      elim (cases_lt t half) [
        | inl l ↦
            let place_in : t * c + k < length new_low = let z = mul-add-lt t c k half l m in omega (arith, z, new_count) in
            rw (get_or_append_left new_low new_high R.zero (t * c + k) place_in, rows.first t)
            (E.transitive _ _ _ (first t k l m) (column-respects k low (low ++ high) (class_at R roots (half * (2 * place) + t)) m kept))
        | inr l ↦
            let u = t - half in
            let is : half + u ≡ t = omega (arith, l) in
            let spread : t * c + k ≡ length new_low + (u * c + k) = ap (λ i. i * c + k) (sym is) ∙ omega (arith, new_count) in
            let point : 2 ^ lg * place + t ≡ half * (2 * place + 1) + u = ap (λ i. 2 ^ lg * place + i) (sym is) ∙ rows.second u in
            let x = class_at R roots (half * (2 * place + 1) + u) in
            rw (spread, get_or-append-add new_low new_high (u * c + k) R.zero, point)
            (E.transitive _ _ _ (second u k (omega (arith, b, is, rows.rows)) m)
            (column-respects k copies (low ++ high) x m (λ p n. E.transitive _ _ _ (copied p n) (kept p n))))
      ]
