use Rattle.std.proofs.Common.{◌≡◌, ◌≢◌, ◌∙◌, ◌++◌, ℕ, ◌^◌, List, length, take, drop, refl, sym, ap, subst, rules, arith}
use Rattle.math_base.proofs.Members.{ring_members}
use Rattle.math_base.proofs.WholeWrites.{take-written}
use Rattle.math_transforms.specs.RootTrees.{IsTreeOf}
use Rattle.math_transforms.proofs.SomeCells.{some-cells}
use Rattle.math_transforms.proofs.TreeEntries.{all-points}
use Rattle.math_ntt.proofs.RecoverySteps.{products-on_domain, values-again, values-in_order}
use Rattle.math_ntt.proofs.AddedWork.{on-err}
use Rattle.math_ntt.proofs.ntt.recovery.divide_by_vanishing.Goals as goal

pub evaluate_below-requires-clause-points : goal.evaluate_below-requires-clause-points
evaluate_below-requires-clause-points g c =
    let R = ring_members g.F.Multiplicative.product g.F.Debug.debug_output g.F.Object.same g.F.Object.NEVER_REFUSES g.F.Additive.zero g.F.Additive.sum g.F.Additive.negative g.F.Ring.one in
    let F = g.met.F in
    let tree = subst (λ (xs : List g.row.F.Denot). IsTreeOf R g.F.FieldNTT.root g.F.Ring.one c.args.trees.now.lg xs) (sym c.deref.ensures.value) c.requires.trees.points in
    all-points R F.Object.equality F.Additive.group F.Multiplicative.commutes F.Ring.ring g.F.FieldNTT.root g.F.Ring.one _ _ refl c.requires.trees.domain.domain c.requires.trees.domain.small
    (λ l within. F.FieldNTT.roots.square l (omega (arith, within, c.requires.trees.domain.domain))) tree

pub start_at-requires-clause-size : goal.start_at-requires-clause-size
start_at-requires-clause-size g c = ap length c.deref_mut.ensures.value ∙ c.requires.trees.points.count

pub moved_to_coset-requires-clause-trees : goal.moved_to_coset-requires-clause-trees
moved_to_coset-requires-clause-trees g c =
    let R = ring_members g.F.Multiplicative.product g.F.Debug.debug_output g.F.Object.same g.F.Object.NEVER_REFUSES g.F.Additive.zero g.F.Additive.sum g.F.Additive.negative g.F.Ring.one in
    let root = g.F.FieldNTT.root in
    let shift = g.F.FieldNTT.shift in
    let lg = c.args.trees.now.lg in
    let vec = c.args.trees.now.points in
    let new = c.start_at.new.tree in
    let before = subst (λ (xs : List g.row.F.Denot). IsTreeOf R root g.F.Ring.one lg xs) (sym c.deref_mut.ensures.value) c.requires.trees.points in
    let written : take vec.len (new ++ drop (length new) vec.items) ≡ new = take-written vec.len vec.items new vec.ok.0 (c.start_at.auto.tree ∙ ap length c.deref_mut.ensures.value) in
    record {
      domain = c.requires.trees.domain;
      some = c.requires.trees.some;
      points = subst (λ (xs : List g.row.F.Denot). IsTreeOf R root shift lg xs) (sym written) (c.in_ok-start_at.ensures.tree root shift c.in_ok-shift.ensures.ok before);
      inverses = c.requires.trees.inverses;
    }

pub start_at-requires-2-clause-size : goal.start_at-requires-2-clause-size
start_at-requires-2-clause-size g c = ap length c.deref_mut-2.ensures.value ∙ c.requires.trees.inverses.count

pub quotients_from_coset-requires-clause-trees : goal.quotients_from_coset-requires-clause-trees
quotients_from_coset-requires-clause-trees g c =
    let R = ring_members g.F.Multiplicative.product g.F.Debug.debug_output g.F.Object.same g.F.Object.NEVER_REFUSES g.F.Additive.zero g.F.Additive.sum g.F.Additive.negative g.F.Ring.one in
    let root = g.F.FieldNTT.root in
    let inverses : ℕ → g.row.F.Denot = λ l. g.F.Field.inverse (root l) in
    let shift = g.F.FieldNTT.shift in
    let back = g.F.Field.inverse shift in
    let lg = c.args.trees.now.lg in
    let vec = c.args.trees.now.points in
    let new = c.start_at.new.tree in
    let before = subst (λ (xs : List g.row.F.Denot). IsTreeOf R root g.F.Ring.one lg xs) (sym c.deref_mut.ensures.value) c.requires.trees.points in
    let written : take vec.len (new ++ drop (length new) vec.items) ≡ new = take-written vec.len vec.items new vec.ok.0 (c.start_at.auto.tree ∙ ap length c.deref_mut.ensures.value) in
    let vec-2 = c.args.trees.now.inverses in
    let new-2 = c.start_at-2.new.tree in
    let before-2 = subst (λ (xs : List g.row.F.Denot). IsTreeOf R inverses g.F.Ring.one lg xs) (sym c.deref_mut-2.ensures.value) c.requires.trees.inverses in
    let written-2 : take vec-2.len (new-2 ++ drop (length new-2) vec-2.items) ≡ new-2 = take-written vec-2.len vec-2.items new-2 vec-2.ok.0 (c.start_at-2.auto.tree ∙ ap length c.deref_mut-2.ensures.value) in
    record {
      domain = c.requires.trees.domain;
      some = c.requires.trees.some;
      points = subst (λ (xs : List g.row.F.Denot). IsTreeOf R root shift lg xs) (sym written) (c.in_ok-start_at.ensures.tree root shift c.in_ok-shift.ensures.ok before);
      inverses = subst (λ (xs : List g.row.F.Denot). IsTreeOf R inverses back lg xs) (sym written-2) (c.in_ok-start_at-2.ensures.tree inverses back c.in_ok-back.ensures.ok before-2);
    }

pub returns-clause-divided : goal.returns-clause-divided
returns-clause-divided g c =
    let F = g.met.F in
    let E = F.Object.equality in
    let G = F.Additive.group in
    let P = F.Multiplicative.commutes in
    let L = F.Ring.ring in
    let R = ring_members g.F.Multiplicative.product g.F.Debug.debug_output g.F.Object.same g.F.Object.NEVER_REFUSES g.F.Additive.zero g.F.Additive.sum g.F.Additive.negative g.F.Ring.one in
    let lg = c.args.trees.now.lg in
    let n = 2 ^ lg in
    let root = g.F.FieldNTT.root in
    let order = F.FieldNTT.roots.order lg c.requires.trees.domain.domain in
    let v = c.args.vanishing.now in
    let values = c.evaluate_below.new.cells in
    let long : length values ≡ n = c.evaluate_below.auto.cells ∙ c.requires.vanishing_size in
    let moved = c.in_ok-moved_to_coset.ensures.cells in
    let divisor = c.in_ok-moved_to_coset.ensures.vanishing in
    let size : length divisor.polynomials ≡ n = omega (arith, divisor.count) in
    let in_order = values-in_order R E G P L F.Field.field root lg order c.args.trees.now.points.items v values c.requires.vanishing_size c.requires.trees.points (rw c.deref.ensures.value at c.in_ok-evaluate_below.ensures.values) in
    record {
      product = moved.polynomials;
      divisor = divisor.polynomials;
      divisor_size = size;
      products = products-on_domain R E G P L F.Field.field root lg order c.args.cols v values c.args.cells.now c.reverse_rows.new.cells c.multiply_rows.new.cells moved.polynomials in_order
          c.reverse_rows.ensures (rw long at c.in_ok-multiply_rows.ensures.products) moved.values;
      same_values = values-again R E G P L F.Field.field root lg order v values divisor.polynomials size in_order divisor.values;
      quotients = c.in_ok-quotients_from_coset.ensures.quotients moved.polynomials divisor.polynomials size moved.multiples divisor.multiples;
    }

pub returns-in_err-multiply_rows-clause-counted : goal.returns-in_err-multiply_rows-clause-counted
returns-in_err-multiply_rows-clause-counted g c = record {
  all = search rules;
  bounded = search rules;
  some = on-err c.from_residual-in_err-multiply_rows.result (omega (arith, some-cells 1 c.args.trees.now.lg (let h : 1 ≢ 0 = omega arith in h) (omega arith), c.in_ok-evaluate_below.ensures.counted.all));
}

pub returns-in_err-shift-clause-counted : goal.returns-in_err-shift-clause-counted
returns-in_err-shift-clause-counted g c = record {
  all = search rules;
  bounded = search rules;
  some = on-err c.from_residual-in_err-shift.result (omega (arith, some-cells 1 c.args.trees.now.lg (let h : 1 ≢ 0 = omega arith in h) (omega arith), c.in_ok-evaluate_below.ensures.counted.all));
}

pub returns-in_err-start_at-clause-counted : goal.returns-in_err-start_at-clause-counted
returns-in_err-start_at-clause-counted g c = record {
  all = search rules;
  bounded = search rules;
  some = on-err c.from_residual-in_err-start_at.result (omega (arith, some-cells 1 c.args.trees.now.lg (let h : 1 ≢ 0 = omega arith in h) (omega arith), c.in_ok-evaluate_below.ensures.counted.all));
}

pub returns-in_err-moved_to_coset-clause-counted : goal.returns-in_err-moved_to_coset-clause-counted
returns-in_err-moved_to_coset-clause-counted g c = record {
  all = search rules;
  bounded = search rules;
  some = on-err c.from_residual-in_err-moved_to_coset.result (omega (arith, some-cells 1 c.args.trees.now.lg (let h : 1 ≢ 0 = omega arith in h) (omega arith), c.in_ok-evaluate_below.ensures.counted.all, c.in_err-moved_to_coset.ensures.counted.bounded.no_fewer));
}

pub returns-in_err-back-clause-counted : goal.returns-in_err-back-clause-counted
returns-in_err-back-clause-counted g c = record {
  all = search rules;
  bounded = search rules;
  some = on-err c.from_residual-in_err-back.result (omega (arith, some-cells 1 c.args.trees.now.lg (let h : 1 ≢ 0 = omega arith in h) (omega arith), c.in_ok-evaluate_below.ensures.counted.all, c.in_ok-moved_to_coset.ensures.counted.bounded.no_fewer));
}

pub returns-in_err-start_at-2-clause-counted : goal.returns-in_err-start_at-2-clause-counted
returns-in_err-start_at-2-clause-counted g c = record {
  all = search rules;
  bounded = search rules;
  some = on-err c.from_residual-in_err-start_at-2.result (omega (arith, some-cells 1 c.args.trees.now.lg (let h : 1 ≢ 0 = omega arith in h) (omega arith), c.in_ok-evaluate_below.ensures.counted.all, c.in_ok-moved_to_coset.ensures.counted.bounded.no_fewer));
}

pub returns-in_err-quotients_from_coset-clause-counted : goal.returns-in_err-quotients_from_coset-clause-counted
returns-in_err-quotients_from_coset-clause-counted g c = record {
  all = search rules;
  bounded = search rules;
  some = on-err c.from_residual-in_err-quotients_from_coset.result (omega (arith, some-cells 1 c.args.trees.now.lg (let h : 1 ≢ 0 = omega arith in h) (omega arith), c.in_ok-evaluate_below.ensures.counted.all, c.in_ok-moved_to_coset.ensures.counted.bounded.no_fewer, c.in_err-quotients_from_coset.ensures.work.bounded.no_fewer));
}

pub returns-in_err-quotients_from_coset-clause-late : goal.returns-in_err-quotients_from_coset-clause-late
returns-in_err-quotients_from_coset-clause-late g c = grind arith
