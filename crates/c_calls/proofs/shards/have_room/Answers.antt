use Rattle.std.proofs.Common.{◌≡◌, ◌∙◌, ◌*◌, sym, ap}
use Rattle.std.proofs.lemmas.Bool.{eqb-true, eq-eqb}
use Rattle.c_calls.proofs.WordShards.{same_size}
use Rattle.c_calls.proofs.shards.have_room.Goals as goal

pub returns-in-Some : goal.returns-in-Some
returns-in-Some c =
    let n = c.in-Some.cells in (
      λ t. (n, c.in-Some.ensures.some, sym (eqb-true (c.args.total * n) c.args.room t)),
      λ h.
          let one = same_size c.args.words c.args.min c.args.total h.0 n h.1 c.in-Some.ensures.some in
          let e : c.args.room ≡ c.args.total * n = h.2 ∙ ap (λ m. c.args.total * m) one in
          eq-eqb (c.args.total * n) c.args.room (sym e),
    )
