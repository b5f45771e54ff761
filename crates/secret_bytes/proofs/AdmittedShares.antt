-- A share that is admitted with some number of values is admitted with more.
use Rattle.std.proofs.Common.{◌≡◌, ◌≤◌, ◌<◌, ◌&&◌, ℕ, Bool, true, false, length, leb, ap₂, arith}
use Rattle.std.proofs.lemmas.Bool.{le-leb, leb-true}
use Rattle.math_codec.specs.Lists.{AdmitsList}
use Rattle.math_numbers.specs.Goldilocks.{P}
use Rattle.math_fields.specs.declared.goldilocks.F.{F}
use Rattle.math_fields.specs.Elements.{number}
use Rattle.secret_bytes.specs.declared.share.SecretShare.{SecretShare}
use Rattle.secret_bytes.specs.SecretShares.{AdmitsShare, at_most}

within : (k n : ℕ) → (leb 0 k && leb k n) ≡ true → k ≤ n
within k n e = leb-true k n (second (leb 0 k) (leb k n) e)
  where
    second : (a b : Bool) → (a && b) ≡ true → b ≡ true
    second true b e = e
    second false b e = cc

pub admits-more : (n m : ℕ) (s : SecretShare) → n ≤ m → AdmitsShare n s → AdmitsShare m s
admits-more n m s l a =
    let count = length s.values.items in
    let values : AdmitsList (at_most m) (λ (x : F). number x < P) s.values.items = record {
      fits = a.values.fits;
      ranged = ap₂ (λ x y. x && y) (le-leb 0 count (omega arith)) (le-leb count m (omega (arith, l, within count n a.values.ranged)));
      each = a.values.each;
    } in
    record { threshold_fits = a.threshold_fits; index_fits = a.index_fits; deal_fits = a.deal_fits; values = values }
