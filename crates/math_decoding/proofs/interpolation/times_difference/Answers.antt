use Rattle.std.proofs.Common.{◌≡◌, ◌∷◌, ◌++◌, [], length, take, drop, ◌∙◌, ap, arith}
use Rattle.math_decoding.proofs.DivisionSteps.{written-back}
use Rattle.math_decoding.proofs.InterpolationSteps.{times-from_copy}
use Rattle.math_decoding.proofs.interpolation.times_difference.Goals as goal
use Rattle.math_decoding.proofs.interpolation.times_difference.Given as given

-- the coefficients before p is taken from them: a zero, and copies of those of p
joined : (g : given.Over) (c : goal.After-drop-p-2 g) → c.append.new.self.items ≡ c.in_ok-zero.field-0 ∷ c.in_ok-copy.copy.items
joined g c = c.in_ok-append.ensures.items ∙ ap (λ xs. xs ++ c.in_ok-copy.copy.items) (c.in_ok-push.ensures.items ∙ ap (λ xs. xs ++ (c.in_ok-zero.field-0 ∷ [])) c.new-out.ensures.items)

back : (g : given.Over) (c : goal.After-drop-p-2 g) → let new = c.subtract_multiple.new.p in
    take c.append.new.self.len (new ++ drop (length new) c.append.new.self.items) ≡ new
back g c =
    let new = c.subtract_multiple.new.p in
    let long : length new ≡ length c.append.new.self.items = c.in_ok-subtract_multiple.ensures.length ∙ ap length c.deref_mut.ensures.value in
    written-back c.append.new.self.len new c.append.new.self.items (omega (arith, long)) long

pub returns-clause-ok : goal.returns-clause-ok
returns-clause-ok g c =
    let F = g.met.F in
    rw (back g c) (times-from_copy F.Object.equality F.Additive.group F.Multiplicative.commutes F.Ring.ring c.in_ok-zero.field-0 c.args.x.now c.args.p.items c.in_ok-copy.copy.items c.subtract_multiple.new.p
    c.in_ok-zero.ensures.ok (rw c.deref.ensures.value at c.in_ok-copy.ensures.same)
    (rw (c.deref_mut.ensures.value, joined g c, c.deref-2.ensures.value) at c.in_ok-subtract_multiple.ensures.ok))

pub returns-clause-length : goal.returns-clause-length
returns-clause-length g c =
    rw (back g c) (omega (arith, c.in_ok-subtract_multiple.ensures.length, ap length c.deref_mut.ensures.value, ap length (joined g c), c.in_ok-copy.ensures.length, ap length c.deref.ensures.value))
