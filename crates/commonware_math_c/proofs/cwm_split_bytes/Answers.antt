use Rattle.std.proofs.Common.{arith}
use Rattle.commonware_math_c.proofs.cwm_split_bytes.Goals as goal

pub write_shards-requires-clause-size : goal.write_shards-requires-clause-size
write_shards-requires-clause-size c = c.have_room.ensures.0 c.if-not-have_room.false

pub returns-in-Ok-clause-sizes : goal.returns-in-Ok-clause-sizes
returns-in-Ok-clause-sizes c = record {
  numbers = (λ e. absurd (omega (arith, e, c.code-in-Ok.ensures)), λ n. absurd (n (c.is_split.ensures.0 c.if-not-is_split.false)));
  size = (λ e. absurd (omega (arith, e, c.code-in-Ok.ensures)), λ h. absurd (h.1 (c.have_room.ensures.0 c.if-not-have_room.false)));
}

pub returns-in-Err-clause-sizes : goal.returns-in-Err-clause-sizes
returns-in-Err-clause-sizes c = record {
  numbers = (λ e. absurd (omega (arith, e, c.code-in-Err.ensures)), λ n. absurd (n (c.is_split.ensures.0 c.if-not-is_split.false)));
  size = (λ e. absurd (omega (arith, e, c.code-in-Err.ensures)), λ h. absurd (h.1 (c.have_room.ensures.0 c.if-not-have_room.false)));
}
