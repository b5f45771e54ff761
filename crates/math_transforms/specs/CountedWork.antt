-- How much a counted call did.
use Rattle.std.specs.Prelude.{◌≡◌, ℕ, ◌+◌, ◌*◌, ◌<◌, ◌≤◌, Result, OnOk, OnErr}

-- a number of butterflies, and a number of root products
pub record WorkOf : Type 0 where
  pub butterflies : ℕ
  pub root_products : ℕ

-- from v to w at most n / 2 butterflies are added, and no root product
pub record AddsAtMost (n : ℕ) (v w : WorkOf) : Type 0 where
  pub no_fewer : v.butterflies ≤ w.butterflies
  pub no_more : 2 * w.butterflies ≤ 2 * v.butterflies + n
  pub root_products : w.root_products ≡ v.root_products

-- from v to w at most b / 2 butterflies and at most p root products are added
pub record AddsWithin (b p : ℕ) (v w : WorkOf) : Type 0 where
  pub no_fewer : v.butterflies ≤ w.butterflies
  pub no_more : 2 * w.butterflies ≤ 2 * v.butterflies + b
  pub no_fewer_products : v.root_products ≤ w.root_products
  pub no_more_products : w.root_products ≤ v.root_products + p

-- from v to w a call with this result adds butterflies and no root product: n / 2 butterflies where it is done, and where it is refused no more, but one or more
pub record AddsAllOrSome {A E : Type 0} (n : ℕ) (result : Result A E) (v w : WorkOf) : Type 0 where
  pub all : OnOk result (2 * w.butterflies ≡ 2 * v.butterflies + n)
  pub bounded : AddsAtMost n v w
  pub some : OnErr result (v.butterflies < w.butterflies)
