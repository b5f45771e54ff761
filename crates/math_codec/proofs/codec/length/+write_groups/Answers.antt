use Rattle.std.proofs.Common.{◌≡◌, ◌++◌, ◌∷◌, [], ◌+◌, ◌-◌, ◌/◌, ◌%◌, length, take, arith, ap, subst, ◌∙◌, List, ℕ}
use Rattle.math_codec.specs.Lengths.{groups}
use Rattle.math_codec.proofs.Groups.{quotient_below}
use Rattle.math_codec.proofs.GroupsWritten.{groups_written, kept_before}
use Rattle.math_codec.proofs.codec.length.+write_groups.Goals as goal

pub write_groups-requires : goal.write_groups-requires
write_groups-requires t c = (omega arith, quotient_below c.args.more c.args.n (omega arith) c.requires)

pub returns-clause-ok : goal.returns-clause-ok
returns-clause-ok t c =
    let pushed = c.in_ok-push-2.ensures.items in
    groups_written c.args.out.now.items c.write_groups.new.out.items c.args.more c.args.n (omega arith) (omega arith)
    (c.in_ok-write_groups.ensures.ok ∙ ap (λ (x : List ℕ). x ++ groups (c.args.more - 1) (c.args.n / 128)) pushed)

pub returns-clause-kept : goal.returns-clause-kept
returns-clause-kept t c =
    let pushed = c.in_ok-push-2.ensures.items in
    kept_before c.args.out.now.items ((128 + c.args.n % 128) ∷ []) c.write_groups.new.out.items
    (subst (λ (x : List ℕ). take (length x) c.write_groups.new.out.items ≡ x) pushed c.in_ok-write_groups.ensures.kept)
