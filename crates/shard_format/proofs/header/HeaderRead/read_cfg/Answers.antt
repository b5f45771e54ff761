use Rattle.std.proofs.Common.{rules, ◌∙◌, ap, sym, List}
use Rattle.math_fields.specs.declared.goldilocks.F.{F}
use Rattle.shard_format.specs.Headers.{scan_fingerprints}
use Rattle.shard_format.specs.HeaderLaws.{header_scanned}
use Rattle.shard_format.proofs.header.HeaderRead.read_cfg.Goals as goal

pub returns-in_err-read_fingerprints-clause-exact : goal.returns-in_err-read_fingerprints-clause-exact
returns-in_err-read_fingerprints-clause-exact c =
    let h = c.in_ok-header.header in
    let scanned = header_scanned h c.args.input.now.now c.read_header.new.input.now c.in_ok-header.ensures.admitted c.in_ok-header.ensures.taken c.in_ok-header.ensures.exact in
    let read = scanned ∙ ap (λ (words : List F). scan_fingerprints words h.keys.first h.keys.second c.read_header.new.input.now) (sym c.words_of-words.ensures) in
    rw read (search rules)

pub returns-clause-exact : goal.returns-clause-exact
returns-clause-exact c =
    let h = c.in_ok-header.header in
    let scanned = header_scanned h c.args.input.now.now c.read_header.new.input.now c.in_ok-header.ensures.admitted c.in_ok-header.ensures.taken c.in_ok-header.ensures.exact in
    scanned ∙ ap (λ (words : List F). scan_fingerprints words h.keys.first h.keys.second c.read_header.new.input.now) (sym c.words_of-words.ensures) ∙ c.in_ok-read_fingerprints.ensures.exact
