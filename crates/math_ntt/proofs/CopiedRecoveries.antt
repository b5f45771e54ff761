-- From what is recovered of copies of cells, and counted apart, to the cells and to the work of the caller.
use Rattle.std.proofs.Common.{◌≡◌, ◌∙◌, ℕ, suc, ◌+◌, ◌-◌, ◌*◌, ◌/◌, ◌^◌, ◌<◌, ◌≤◌, List, Bool, Option, Some, None, Result, Ok, Err, IfOk, IfSome, IfNone, OnOk, OnErr, length, min, subst, sym, arith}
use Rattle.std.proofs.lemmas.List.Elements.{AllZip-get_or, length_all_zip}
use Rattle.std.proofs.lemmas.Nat.{mul-add-lt}
use Rattle.std.specs.List.{AllZip}
use Rattle.math_theory.specs.Laws.{IsEquality}
use Rattle.math_base.specs.Members.{RingOf}
use Rattle.math_transforms.specs.CountedWork.{WorkOf, AddsWithin}
use Rattle.math_transforms.specs.DomainValues.{matrix_of}
use Rattle.math_transforms.specs.Matrices.{MatrixOf}
use Rattle.math_transforms.proofs.DomainSteps.{column-cell}
use Rattle.math_transforms.proofs.MatrixRows.{length-column}
use Rattle.math_transforms.proofs.PowersOfTwo.{power_of_two-same, power_of_two-word}
use Rattle.math_ntt.specs.AddedWork.{AddsUpTo, HasRoom}
use Rattle.math_ntt.proofs.AddedWork.{within-half}
use Rattle.math_ntt.specs.RecoveredRows.{AreRecovered, IsExactWork, IsRefusedWork}
use Rattle.math_ntt.proofs.RecoveryCounts.{whole-bound, whole-room}

-- from v to w the work x is added, as far as it fits
pub record IsAdded (v x w : WorkOf) : Type 0 where
  pub butterflies : w.butterflies ≡ min (v.butterflies + x.butterflies) (2 ^ 128 - 1)
  pub root_products : w.root_products ≡ min (v.root_products + x.root_products) (2 ^ 128 - 1)
  pub no_fewer : v.butterflies ≤ w.butterflies
  pub no_fewer_products : v.root_products ≤ w.root_products

-- no work
pub record IsNone (z : WorkOf) : Type 0 where
  pub butterflies : z.butterflies ≡ 0
  pub root_products : z.root_products ≡ 0

pub added-within : (b p : ℕ) (z x v w : WorkOf) → IsNone z → AddsWithin b p z x → IsAdded v x w → AddsWithin b p v w
added-within b p z x v w n h a = grind arith

-- where there is room, all is added
module _ (lg c : ℕ) (z x v w : WorkOf) (small : lg < 64) (fits : 2 ^ lg * c < 2 ^ 64) (n : IsNone z) (h : AddsWithin (2 ^ lg * lg * (3 * lg + 3 * c + 2)) (128 * 2 ^ lg) z x)
    (a : IsAdded v x w) (room : HasRoom v) where
  all-butterflies : w.butterflies ≡ v.butterflies + x.butterflies
  all-butterflies =
      let most : 2 ^ lg * lg * (3 * lg + 3 * c + 2) < 2 ^ 100 = rw (whole-bound lg c) at (whole-room lg c small fits) in
      omega (arith, a.butterflies, h.no_more, n.butterflies, most, room.butterflies)

  all-root_products : w.root_products ≡ v.root_products + x.root_products
  all-root_products = omega (arith, a.root_products, h.no_more_products, n.root_products, power_of_two-word lg small, room.root_products)

  module _ {A : Type 0} (cells : List A) (m : MatrixOf A) (filled : List Bool) (rows : m.rows ≡ 2 ^ lg) (cols : c ≡ m.cols) where
    pub added-exact : IsExactWork lg (record { matrix = matrix_of (2 ^ lg) c cells; filled = filled }) z x → IsExactWork lg (record { matrix = m; filled = filled }) v w
    added-exact exact = grind (arith, all-butterflies, all-root_products)

    pub added-refused : IsRefusedWork lg (record { matrix = matrix_of (2 ^ lg) c cells; filled = filled }) z x → IsRefusedWork lg (record { matrix = m; filled = filled }) v w
    added-refused refused = grind (arith, all-butterflies, all-root_products)

module _ {A : Type 0} where
  module _ (R : RingOf A) (E : IsEquality R.same) (root : ℕ → A) (lg c : ℕ) (filled : List Bool) (cells copies new : List A) where
    abbrev IsRecovered : ℕ → List A → Type 0
    IsRecovered rows xs = AreRecovered R root (record { matrix = matrix_of rows c xs; filled = filled }) (matrix_of rows c new)

    at_power : length cells ≡ c * 2 ^ lg → AllZip R.same copies cells → IsRecovered (2 ^ lg) copies → IsRecovered (2 ^ lg) cells
    at_power full copied h lg' k e l =
        let fits = h lg' k e l in
        record {
          agrees = λ j b t.
              let below : j < 2 ^ lg = omega (arith, b, length-column R.zero (matrix_of (2 ^ lg) c cells) k) in
              let place : j * c + k < c * 2 ^ lg = mul-add-lt j c k (2 ^ lg) below l in
              let many : length copies ≡ length cells = length_all_zip R.same copies cells copied in
              rw (column-cell R.zero (2 ^ lg) c k j cells below l)
              (E.transitive _ _ _ (rw (column-cell R.zero (2 ^ lg) c k j copies below l) at (fits.agrees j (omega (arith, below, length-column R.zero (matrix_of (2 ^ lg) c copies) k)) t))
              (AllZip-get_or R.same copies cells (j * c + k) R.zero R.zero copied (omega (arith, place, full, many))));
          zero_from = fits.zero_from;
        }

    -- what fits the copies fits the cells of the matrix
    pub copied-fits : (rows : ℕ) (m : MatrixOf A) → matrix_of rows c cells ≡ m → rows ≡ 2 ^ lg → length cells ≡ rows * c → AllZip R.same copies cells → IsRecovered (2 ^ lg) copies
        → AreRecovered R root (record { matrix = m; filled = filled }) (matrix_of rows c new)
    copied-fits rows m view e full copied h =
        let size : length cells ≡ c * 2 ^ lg = full ∙ (rw e (omega arith)) in
        subst (λ n. AreRecovered R root (record { matrix = n; filled = filled }) (matrix_of rows c new)) view
        (subst (λ r. IsRecovered r cells) (sym e) (at_power size copied h))

-- the work of the recoveries until c of m rows are left: of one, of one more, and of all
pub adds-once : (b p m : ℕ) (v w : WorkOf) → AddsWithin b p v w → AddsWithin ((1 + (m - m)) * b) ((1 + (m - m)) * p) v w
adds-once b p m v w h = grind arith

one-more : (t s b : ℕ) → suc t ≤ s → t * b + b ≤ s * b
one-more t s b l = grind (arith, l)

pub adds-more : (b p m c d : ℕ) (u v w : WorkOf) → d < c → c ≤ m → AddsWithin ((1 + (m - c)) * b) ((1 + (m - c)) * p) u v → AddsWithin b p v w
    → AddsWithin ((1 + (m - d)) * b) ((1 + (m - d)) * p) u w
adds-more b p m c d u v w l e h k = grind arith

pub adds-few : (b p m c count : ℕ) (v w : WorkOf) → c ≤ m → m + count ≤ c + c → AddsWithin ((1 + (m - c)) * b) ((1 + (m - c)) * p) v w
    → AddsWithin (((m - count) / 2 + 1) * b) (((m - count) / 2 + 1) * p) v w
adds-few b p m c count v w l few h = grind arith

-- the bound for any lg of which the number of rows is the power
pub several-at_any : (rows cols lg t : ℕ) (v w : WorkOf) → rows ≡ 2 ^ lg → AddsWithin (t * (2 ^ lg * lg * (3 * lg + 3 * cols + 2))) (t * (128 * 2 ^ lg)) v w
    → (m : ℕ) → rows ≡ 2 ^ m → AddsUpTo (t * (rows * m * (3 * m + 3 * cols + 2)) / 2) (t * (128 * rows)) v w
several-at_any rows cols lg t v w e h m f = rw (← power_of_two-same lg m (sym e ∙ f), e) (within-half _ _ v w h)

-- what holds at the lg of which a number is the power holds at any
any-lg : (n lg : ℕ) (P : ℕ → Type 0) → n ≡ 2 ^ lg → P lg → (l : ℕ) → n ≡ 2 ^ l → P l
any-lg n lg P e h l f = subst P (power_of_two-same lg l (sym e ∙ f)) h

module _ {X E : Type 0} where
  pub some-at_any : (r : Result (Option X) E) (n lg : ℕ) (P : X → ℕ → Type 0) → n ≡ 2 ^ lg → IfOk r (λ o. IfSome o (λ a. P a lg)) → IfOk r (λ o. IfSome o (λ a. (l : ℕ) → n ≡ 2 ^ l → P a l))
  some-at_any (Ok (Some a)) n lg P e h = any-lg n lg (P a) e h
  some-at_any (Ok None) n lg P e h = tt
  some-at_any (Err _) n lg P e h = tt

  pub some_if-at_any : (r : Result (Option X) E) (n lg : ℕ) (C : X → Type 0) (P : ℕ → Type 0) → n ≡ 2 ^ lg → IfOk r (λ o. IfSome o (λ a. C a → P lg))
      → IfOk r (λ o. IfSome o (λ a. C a → (l : ℕ) → n ≡ 2 ^ l → P l))
  some_if-at_any (Ok (Some a)) n lg C P e h = λ c. any-lg n lg P e (h c)
  some_if-at_any (Ok None) n lg C P e h = tt
  some_if-at_any (Err _) n lg C P e h = tt

  pub none-at_any : (r : Result (Option X) E) (n lg : ℕ) (P : ℕ → Type 0) → n ≡ 2 ^ lg → IfOk r (λ o. IfNone o (P lg)) → IfOk r (λ o. IfNone o ((l : ℕ) → n ≡ 2 ^ l → P l))
  none-at_any (Ok (Some _)) n lg P e h = tt
  none-at_any (Ok None) n lg P e h = any-lg n lg P e h
  none-at_any (Err _) n lg P e h = tt

  pub ok-at_any : (r : Result X E) (n lg : ℕ) (P : ℕ → Type 0) → n ≡ 2 ^ lg → OnOk r (P lg) → OnOk r ((l : ℕ) → n ≡ 2 ^ l → P l)
  ok-at_any (Ok _) n lg P e h = any-lg n lg P e h
  ok-at_any (Err _) n lg P e h = tt

  pub err-at_any : (r : Result X E) (n lg : ℕ) (P : ℕ → Type 0) → n ≡ 2 ^ lg → OnErr r (P lg) → OnErr r ((l : ℕ) → n ≡ 2 ^ l → P l)
  err-at_any (Ok _) n lg P e h = tt
  err-at_any (Err _) n lg P e h = any-lg n lg P e h
