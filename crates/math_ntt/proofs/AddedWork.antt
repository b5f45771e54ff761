-- What is added, from what is added twice.
use Rattle.std.proofs.Common.{ℕ, ◌/◌, Result, Ok, Err, OnErr, arith}
use Rattle.math_transforms.specs.CountedWork.{WorkOf, AddsAtMost, AddsWithin}
use Rattle.math_ntt.specs.AddedWork.{AddsUpTo}

pub adds-half : (n : ℕ) (v w : WorkOf) → AddsAtMost n v w → AddsUpTo (n / 2) 0 v w
adds-half n v w h = grind arith

pub within-half : (b p : ℕ) (v w : WorkOf) → AddsWithin b p v w → AddsUpTo (b / 2) p v w
within-half b p v w h = record { no_fewer = h.no_fewer; no_more = omega (arith, h.no_more); no_fewer_products = h.no_fewer_products; no_more_products = h.no_more_products }

-- what holds, holds where a call is refused
pub on-err : {T E P : Type 0} (r : Result T E) → P → OnErr r P
on-err (Ok _) h = tt
on-err (Err _) h = h
