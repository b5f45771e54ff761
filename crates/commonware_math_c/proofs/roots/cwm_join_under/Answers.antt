use Rattle.std.proofs.Common.{◌≡◌, ◌∙◌, ℕ, List, length, sym, arith}
use Rattle.c_calls.specs.WordEncodings.{StandInFront}
use Rattle.c_calls.specs.RootedShards.{AreJoinedUnder}
use Rattle.c_calls.proofs.RootedLists.{given-shards, joining-due, roots-among}
use Rattle.commonware_math_c.proofs.roots.cwm_join_under.Goals as goal

pub returns-in-Ok-clause-joined : goal.returns-in-Ok-clause-joined
returns-in-Ok-clause-joined c = λ _.
    let a = c.args in
    let found = c.in-Ok.ensures.ok in
    given-shards (length a.block.now) a.min a.total a.indices.now a.masks.now a.shards.now a.paths.now c.in-Some.held found.0
    (λ split given. (positions : List ℕ) × AreJoinedUnder split a.root.now given c.write_joined.new.block positions
    × (c.in-Ok.positions ≡ length positions) × StandInFront positions a.left_out.now c.write_joined.new.left_out) c.in-Some.ensures.some found.1 found.2

pub returns-in-Ok-clause-strict : goal.returns-in-Ok-clause-strict
returns-in-Ok-clause-strict c = λ _ is. (c.in-Some.held.split, c.in-Some.ensures.some.split, c.in-Ok.ensures.root (grind (arith, is)))

pub returns-in-Err-clause-joined : goal.returns-in-Err-clause-joined
returns-in-Err-clause-joined c = λ e. absurd ((roots-among c.in-Err.error).0 (sym (c.code-in-Err.ensures ∙ c.of_roots.ensures) ∙ e))

pub returns-in-Err-clause-refused : goal.returns-in-Err-clause-refused
returns-in-Err-clause-refused c = λ tells.
    let a = c.args in
    joining-due (length a.block.now) a.min a.total a.indices.now a.masks.now a.shards.now a.paths.now a.root.now c.in-Some.held c.in-Err.error _ c.in-Some.ensures.some
    (c.code-in-Err.ensures ∙ c.of_roots.ensures) c.in-Err.ensures.due tells
