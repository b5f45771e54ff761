use Rattle.std.proofs.Common.{◌≡◌, take}
use Rattle.std.specs.List.{All}
use Rattle.secret_bytes.specs.Lines.{lines_spelling}
use Rattle.secret_bytes.specs.Refusals.{HasLine}
use Rattle.secret_bytes.proofs.text.text_of.Given as goal

-- the lines so far, and that these shares have lines
abbrev pub invariant-loop-share : goal.invariant-loop-share
invariant-loop-share l = record {
  lines : l.text.items ≡ lines_spelling (take l.share-index l.shares);
  few : All HasLine (take l.share-index l.shares);
}
