use Rattle.std.proofs.Common.{◌≡◌, ◌∙◌, ◌-◌, ◌*◌, arith}
use Rattle.c_calls.proofs.systematic.write_parity.Goals as goal

pub encode-requires-clause-room : goal.encode-requires-clause-room
encode-requires-clause-room c = grind arith

pub returns-clause-ok : goal.returns-clause-ok
returns-clause-ok c = (c.in-Some.split, c.in-Some.ensures.some, (c.in_ok-mask.ensures.mask, c.in_ok-mask.ensures.ok))
