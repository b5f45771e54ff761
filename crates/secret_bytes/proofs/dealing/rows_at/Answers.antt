use Rattle.std.proofs.Common.{◌≡◌, ◌∙◌, ◌+◌, ◌%◌, ◌++◌, [], ◌∷◌, ap, ap₂, refl, arith, mod-eq_of_lt}
use Rattle.math_numbers.specs.Goldilocks.{P}
use Rattle.math_fields.specs.Elements.{number}
use Rattle.secret_bytes.specs.declared.dealing.Row.{Row}
use Rattle.secret_bytes.specs.Rows.{IsRow}
use Rattle.secret_bytes.proofs.DealtRows.{rows-push}
use Rattle.secret_bytes.proofs.dealing.rows_at.Goals as goal

pub loop-i-preserved : goal.loop-i-preserved
loop-i-preserved c =
    let i = c.loop-i.i in
    let v = c.loop-i.invariant in
    let r : Row = record { table = c.in_ok-new.field-0; share = record { threshold = c.args.t; index = i + 1; deal = c.args.deal; values = c.in_ok-with_capacity.field-0 } } in
    let one : number c.from.result ≡ 1 = c.from.ensures in
    let next : number c.add-point.result ≡ i + 1 =
    c.add-point.ensures ∙ ap₂ (λ a b. (a + b) % P) v.point one ∙ mod-eq_of_lt (omega (arith, c.loop-i-test.true, c.ranges.n.fits)) in
    let row : IsRow c.args.t c.args.deal [] (1 + i) r = record {
      point = ap number c.in_ok-new.ensures ∙ next ∙ omega arith;
      threshold = refl;
      index = omega arith;
      deal = refl;
      values = rw c.in_ok-with_capacity.ensures.items tt;
    } in
    let pushed : c.push.new.self.items ≡ c.loop-i.rows.items ++ (r ∷ []) = c.in_ok-push.ensures.items in
    record { rows = rw pushed (rows-push c.args.t c.args.deal i c.loop-i.rows.items r v.rows row); point = next }
