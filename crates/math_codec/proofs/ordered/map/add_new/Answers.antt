use Rattle.std.proofs.Common.{not, cond, sym, ap, ◌∙◌}
use Rattle.std.specs.BTreeMap.{insert_entry}
use Rattle.std.specs.Ordering.{is_eq}
use Rattle.std.proofs.lemmas.Map.Made.{is_some-lookup}
use Rattle.math_codec.proofs.ordered.map.add_new.Goals as goal

pub returns-then-contains_key-clause-added : goal.returns-then-contains_key-clause-added
returns-then-contains_key-clause-added g c =
    ap not (sym (sym (is_some-lookup (λ k. is_eq (g.I.Ord.cmp c.args.key k)) c.args.entries.now.entries) ∙ sym c.contains_key.ensures ∙ c.if-contains_key.true))

pub returns-then-contains_key-clause-entries : goal.returns-then-contains_key-clause-entries
returns-then-contains_key-clause-entries g c =
    let es = c.args.entries.now.entries in
    ap (λ b. cond b es (insert_entry g.I.Ord.cmp es c.args.key c.args.value))
    (sym (sym (is_some-lookup (λ k. is_eq (g.I.Ord.cmp c.args.key k)) es) ∙ sym c.contains_key.ensures ∙ c.if-contains_key.true))

pub returns-clause-added : goal.returns-clause-added
returns-clause-added g c =
    ap not (sym (sym (is_some-lookup (λ k. is_eq (g.I.Ord.cmp c.args.key k)) c.args.entries.now.entries) ∙ sym c.contains_key.ensures ∙ c.if-contains_key.false))

pub returns-clause-entries : goal.returns-clause-entries
returns-clause-entries g c =
    let es = c.args.entries.now.entries in
    c.in_ok-insert.ensures.entries ∙ ap (λ b. cond b es (insert_entry g.I.Ord.cmp es c.args.key c.args.value))
    (sym (sym (is_some-lookup (λ k. is_eq (g.I.Ord.cmp c.args.key k)) es) ∙ sym c.contains_key.ensures ∙ c.if-contains_key.false))
