use Rattle.math_theory.proofs.transforms.BitOrder.{bit_reversed-below, bit_reversed-twice, get_or-bit_reversed_order, bit_reversed_order-twice}
use Rattle.math_theory.proofs.laws.transforms.bit_reversal.Goals as goal

pub returns-clause-below : goal.returns-clause-below
returns-clause-below c st = bit_reversed-below

pub returns-clause-twice : goal.returns-clause-twice
returns-clause-twice c st = bit_reversed-twice

pub returns-clause-place : goal.returns-clause-place
returns-clause-place c st = get_or-bit_reversed_order

pub returns-clause-order_twice : goal.returns-clause-order_twice
returns-clause-order_twice c st = bit_reversed_order-twice
