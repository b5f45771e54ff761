use Rattle.std.proofs.Common.{arith}
use Rattle.c_calls.proofs.SystematicRows.{no-room, split-of}
use Rattle.c_calls.proofs.systematic.split_for.Goals as goal

pub returns-in-Ok-clause-some : goal.returns-in-Ok-clause-some
returns-in-Ok-clause-some c = let h = c.in-Ok.ensures.ok in split-of c.args.size c.args.min c.args.total c.in-Ok.split h.0 h.1 h.2

pub returns-in-Ok-clause-room : goal.returns-in-Ok-clause-room
returns-in-Ok-clause-room c = grind arith

pub returns-in-Err-clause-none : goal.returns-in-Err-clause-none
returns-in-Err-clause-none c = no-room c.args.size c.args.min c.args.total c.in-Err.field-0 c.requires c.in-Err.ensures.err
