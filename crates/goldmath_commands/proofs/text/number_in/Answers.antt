use Rattle.std.proofs.Common.{rules, ◌≡◌, All, Ok, arith}
use Rattle.std.specs.Char.{IsAsciiDigit}
use Rattle.goldmath_commands.proofs.ParsedNumbers.{WritesNumber-from_parse, parse-WritesNumber}
use Rattle.goldmath_commands.proofs.text.number_in.Goals as goal

pub returns-in-Ok-clause-written : goal.returns-in-Ok-clause-written
returns-in-Ok-clause-written c =
    let digits : All IsAsciiDigit c.args.word.now = search rules in
    WritesNumber-from_parse _ _ _ c.parse.ensures.value.0 c.in-Ok.is digits (omega arith)

pub returns-in-Ok-clause-found : goal.returns-in-Ok-clause-found
returns-in-Ok-clause-found c = λ x small w.
    let read : c.parse.result ≡ Ok x = parse-WritesNumber _ _ _ c.parse.ensures.value.0 w small in
    cc

pub returns-in-Err-clause-found : goal.returns-in-Err-clause-found
returns-in-Err-clause-found c = λ x small w.
    let read : c.parse.result ≡ Ok x = parse-WritesNumber _ _ _ c.parse.ensures.value.0 w small in
    cc
