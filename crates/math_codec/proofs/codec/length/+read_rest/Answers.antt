use Rattle.std.proofs.Common.{arith, ◌-◌, ◌<◌, ◌^◌}
use Rattle.math_codec.proofs.Groups.{one_group_below, joined_below, four_groups_below}
use Rattle.math_codec.proofs.codec.length.+read_rest.Goals as goal

pub returns-then-byte-lt128-clause-below : goal.returns-then-byte-lt128-clause-below
returns-then-byte-lt128-clause-below t c = one_group_below c.args.more c.from-byte.result (omega arith) (omega arith)

pub returns-in_ok-high-in-len1-up-clause-below : goal.returns-in_ok-high-in-len1-up-clause-below
returns-in_ok-high-in-len1-up-clause-below t c = joined_below c.args.more c.from-byte.result c.in_ok-high-in-len1-up.high (omega arith) (omega arith) c.in_ok-high-in-len1-up.ensures.below

pub overflow_mul-result : goal.overflow_mul-result
overflow_mul-result t c =
    let below : c.in_ok-high-in-len1-up.high < 2 ^ 25 = four_groups_below (c.args.more - 1) c.in_ok-high-in-len1-up.high (omega arith) c.in_ok-high-in-len1-up.ensures.below in
    omega arith

pub overflow_add-result : goal.overflow_add-result
overflow_add-result t c =
    let below : c.in_ok-high-in-len1-up.high < 2 ^ 25 = four_groups_below (c.args.more - 1) c.in_ok-high-in-len1-up.high (omega arith) c.in_ok-high-in-len1-up.ensures.below in
    omega arith
