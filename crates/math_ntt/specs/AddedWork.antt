-- What calls add to work.
use Rattle.std.specs.Prelude.{◌≡◌, ℕ, ◌+◌, ◌*◌, ◌/◌, ◌<◌, ◌≤◌, ◌^◌, ◌⊎◌, Bool, Result, IsTrue, OnOk, OnErr}
use Rattle.math_transforms.specs.CountedWork.{WorkOf, AddsAtMost, AddsWithin}

-- from v to w at most b butterflies and at most p root products are added
pub record AddsUpTo (b p : ℕ) (v w : WorkOf) : Type 0 where
  pub no_fewer : v.butterflies ≤ w.butterflies
  pub no_more : w.butterflies ≤ v.butterflies + b
  pub no_fewer_products : v.root_products ≤ w.root_products
  pub no_more_products : w.root_products ≤ v.root_products + p

-- from v to w no butterfly is added, or b / 2 butterflies and p / 2 root products
abbrev pub AddsNoneOrAll : ℕ → ℕ → WorkOf → WorkOf → Type 0
AddsNoneOrAll b p v w = (w.butterflies ≡ v.butterflies)
    ⊎ ((2 * w.butterflies ≡ 2 * v.butterflies + b) × (2 * w.root_products ≡ 2 * v.root_products + p))

-- from v to w at most b / 2 butterflies and p / 2 root products are added, and no butterfly before all of these root products
pub record AddsInOrder (b p : ℕ) (v w : WorkOf) : Type 0 where
  pub no_more : 2 * w.butterflies ≤ 2 * v.butterflies + b
  pub no_more_products : 2 * w.root_products ≤ 2 * v.root_products + p
  pub in_order : v.butterflies < w.butterflies → 2 * w.root_products ≡ 2 * v.root_products + p

-- there is room for many calls: v has at most 2^127 butterflies and at most 2^127 root products
pub record HasRoom (v : WorkOf) : Type 0 where
  pub butterflies : v.butterflies ≤ 2 ^ 127
  pub root_products : v.root_products ≤ 2 ^ 127

-- one transform of n / 2 butterflies, from v to w: where it is done it adds these, where it is refused no more, and nothing where it is
-- refused though calls on elements never are
pub record IsOneTransform {A E : Type 0} (never : Bool) (n : ℕ) (result : Result A E) (v w : WorkOf) : Type 0 where
  pub counted : OnOk result (2 * w.butterflies ≡ 2 * v.butterflies + n)
  pub bounded : AddsAtMost n v w
  pub unbegun : IsTrue never → OnErr result (w ≡ v)

-- from v to w no more is added than by one recovery of 2^lg rows of c cells: 2^lg lg (3 lg + 3 c + 2) / 2 butterflies, and 128 root products a row
abbrev pub AddsOneRecovery : ℕ → ℕ → WorkOf → WorkOf → Type 0
AddsOneRecovery lg c v w = AddsWithin (2 ^ lg * lg * (3 * lg + 3 * c + 2)) (128 * 2 ^ lg) v w

-- from v to w no more is added than by t recoveries of 2^lg rows of c cells
abbrev pub AddsRecoveries : ℕ → ℕ → ℕ → WorkOf → WorkOf → Type 0
AddsRecoveries t lg c v w = AddsWithin (t * (2 ^ lg * lg * (3 * lg + 3 * c + 2))) (t * (128 * 2 ^ lg)) v w

-- from v to w at most one recovery of n rows of c cells is added, n being 2^lg: n lg (3 lg + 3 c + 2) / 2 butterflies, and 128 root products a row
abbrev pub AddsAtMostOneRecovery : ℕ → ℕ → ℕ → WorkOf → WorkOf → Type 0
AddsAtMostOneRecovery n lg c v w = AddsUpTo (n * lg * (3 * lg + 3 * c + 2) / 2) (128 * n) v w

-- an evaluation of n rows of c cells, from v to w: where it is done it adds c n lg / 2 butterflies, n being 2^lg, where it is refused no more, and no root product;
-- and nothing where it is refused though calls on elements never are
pub record IsEvaluationWork {A E : Type 0} (never : Bool) (result : Result A E) (n c : ℕ) (v w : WorkOf) : Type 0 where
  pub counted : OnOk result ((lg : ℕ) → n ≡ 2 ^ lg → 2 * w.butterflies ≡ 2 * v.butterflies + c * n * lg)
  pub bounded : (lg : ℕ) → n ≡ 2 ^ lg → AddsUpTo (c * n * lg / 2) 0 v w
  pub unbegun : IsTrue never → OnErr result (w ≡ v)
