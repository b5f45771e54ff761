use Rattle.std.proofs.Common.{◌≡◌, codes, arith, rules, string_bytes}
use Rattle.goldmath_commands.proofs.EvalWords.{eval_words}
use Rattle.goldmath_commands.proofs.engine.eval_point.Goals as goal

pub returns-in-len2-clause-written : goal.returns-in-len2-clause-written
returns-in-len2-clause-written c =
    let command : string_bytes c.command-item.result ≡ codes "eval" = search rules in
    eval_words string_bytes c.args.words.now c.command-item.result c.point-item.result (omega arith)
    (omega arith) c.command-item.is c.point-item.is command _ c.as_str-in-len2.ensures.value _ c.point_of.ensures.written
