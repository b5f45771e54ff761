use Rattle.std.proofs.Common.{◌<◌, ◌-◌, ◌^◌, drop, arith}
use Rattle.secret_bytes.specs.Packings.{number_of_bytes}
use Rattle.secret_bytes.proofs.PackedBytes.{number-below_from, number-below_all}
use Rattle.secret_bytes.proofs.elements.number_of_bytes.Goals as goal

pub overflow_mul-n : goal.overflow_mul-n
overflow_mul-n c =
    let b : number_of_bytes (drop c.loop-i.i c.args.bytes.now) < 256 ^ 6 =
    number-below_from c.args.bytes.now c.loop-i.i (λ k. omega (arith, c.type_inv.bytes k)) c.loop-i-test.true c.requires in
    omega (arith, b, c.loop-i.invariant.value)

pub overflow_add-n : goal.overflow_add-n
overflow_add-n c =
    let b : number_of_bytes (drop c.loop-i.i c.args.bytes.now) < 256 ^ 6 =
    number-below_from c.args.bytes.now c.loop-i.i (λ k. omega (arith, c.type_inv.bytes k)) c.loop-i-test.true c.requires in
    omega (arith, b, c.loop-i.invariant.value, c.type_inv.bytes (c.loop-i.i - 1))

pub returns-clause-below : goal.returns-clause-below
returns-clause-below c =
    let b : number_of_bytes (drop c.loop-i.i c.args.bytes.now) < 256 ^ 7 =
    number-below_all c.args.bytes.now c.loop-i.i (λ k. omega (arith, c.type_inv.bytes k)) c.requires in
    omega (arith, b, c.loop-i.invariant.value)
