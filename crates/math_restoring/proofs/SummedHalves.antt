-- Sums of the coefficients of both halves of rows, of which each is interpolated by itself.
use Rattle.std.proofs.Common.{◌≡◌, ◌∙◌, ℕ, ◌+◌, ◌-◌, ◌*◌, ◌<◌, ◌≤◌, ◌^◌, List, ◌++◌, length, take, drop, sym, ap, arith}
use Rattle.std.proofs.lemmas.List.{get_or-drop, get_or-take, get_or_append_left}
use Rattle.std.proofs.lemmas.Nat.{mul-add-lt}
use Rattle.math_fields.specs.declared.goldilocks.F.{F}
use Rattle.math_fields.specs.Elements.{number, residue, same, sum, goldilocks}
use Rattle.math_transforms.specs.DomainValues.{matrix_of}
use Rattle.math_transforms.specs.RootTrees.{AreMultiplesBelow, IsTreeOf}
use Rattle.math_transforms.proofs.DomainSteps.{column-cell}
use Rattle.math_transforms.proofs.MatrixRows.{length-column}
use Rattle.math_transforms.proofs.PowersOfTwo.{power_of_two-double}
use Rattle.math_restoring.specs.CosetDivisions.{AreSumsOf, domain_point}
use Rattle.math_restoring.specs.Restored.{item}
use Rattle.math_restoring.proofs.BlockColumns.{at-sum}
use Rattle.math_restoring.proofs.CombinedColumns.{at, column, nought}
use Rattle.math_restoring.proofs.PointsOfTrees.{back, inverse-domain_point}

module _ (inverses : List F) (lg c : ℕ) (cells low high new_low new_high sums : List F) (some : 1 ≤ lg) (small : lg ≤ 32) (tree : IsTreeOf goldilocks back (residue 1) lg inverses)
    (low_is : low ≡ take (2 ^ (lg - 1) * c) cells) (high_is : high ≡ drop (2 ^ (lg - 1) * c) cells)
    (count : length sums ≡ 2 ^ (lg - 1) * c)
    (first : AreMultiplesBelow goldilocks inverses (lg - 1) 2 c low new_low) (second : AreMultiplesBelow goldilocks inverses (lg - 1) 3 c high new_high)
    (adds : (j : ℕ) → j < 2 ^ (lg - 1) * c → same (item sums j) (sum (item new_low j) (item new_high j))) where
  abbrev n : ℕ
  n = 2 ^ (lg - 1)

  place : (i k : ℕ) → i < n → k < c → i * c + k < n * c
  place i k b l = let h : i * c + k < c * n = mul-add-lt i c k n b l in omega (arith, h)

  -- the value of the sums is the sum of the values
  total : (k : ℕ) (x : F) → k < c → same (at x (column n c k (sums ++ new_high))) (sum (at x (column n c k new_low)) (at x (column n c k new_high)))
  total k x l =
      let long : length (column n c k new_low) ≡ n = length-column nought (matrix_of n c new_low) k in
      ap number
      (at-sum x (column n c k new_low) (column n c k new_high) (column n c k (sums ++ new_high)) (length-column nought (matrix_of n c new_high) k ∙ sym long)
      (length-column nought (matrix_of n c (sums ++ new_high)) k ∙ sym long)
      (λ i b. let inside : i < n = omega (arith, b, long) in
      let p = place i k inside l in
      rw (
        column-cell nought n c k i (sums ++ new_high) inside l,
        get_or_append_left sums new_high nought (i * c + k) (omega (arith, p, count)),
        column-cell nought n c k i new_low inside l,
        column-cell nought n c k i new_high inside l,
      ) (adds (i * c + k) p)))

  pub sums-of_halves : AreSumsOf lg c cells (sums ++ new_high)
  sums-of_halves = λ k l. (
    column n c k new_low,
    column n c k new_high,
    length-column nought (matrix_of n c new_low) k,
    length-column nought (matrix_of n c new_high) k,
    (λ x. total k x l),
    (λ t b.
        let e : n * 2 + t ≡ 2 ^ lg + t = omega (arith, power_of_two-double lg some) in
        let one = inverse-domain_point lg t inverses tree some small (omega (arith, b, power_of_two-double lg some)) in
        rw (ap (λ xs. item xs (t * c + k)) low_is ∙ get_or-take (n * c) cells (t * c + k) nought (place t k b l)) at (first t k (domain_point lg t) b l (rw e one))),
    (λ t b.
        let e : n * 3 + t ≡ 2 ^ lg + (n + t) = omega (arith, power_of_two-double lg some) in
        let there : n * c + (t * c + k) ≡ (n + t) * c + k = omega arith in
        let one = inverse-domain_point lg (n + t) inverses tree some small (omega (arith, b, power_of_two-double lg some)) in
        rw (ap (λ xs. item xs (t * c + k)) high_is ∙ get_or-drop (n * c) cells (t * c + k) nought ∙ ap (item cells) there) at (second t k (domain_point lg (n + t)) b l (rw e one))),
  )
