use Rattle.std.proofs.Common.{◌≡◌, false, map, reverse, IfOk}
use Rattle.math_theory.specs.Laws.{IsMonoid}
use Rattle.math_theory.specs.Powers.{power}
use Rattle.math_theory.specs.Sums.{number_of_limbs}
use Rattle.math_base.proofs.SquareAndMultiply.{TakenTo}
use Rattle.math_base.proofs.algebra.power_by_bits.Given as goal

-- the bits of the word from the i-th up are taken, and before the first that is one the value is still one
abbrev pub invariant-loop-i : goal.invariant-loop-i
invariant-loop-i g l = (one : _) (product : _) → IsMonoid g.T.Object.same one product
    → ((a : _) (r : _) (b : _) → goal.D-post g l.square a r b → IfOk r (λ _. g.T.Object.same b.now (product a.now a.now)))
    → ((a : _) (c : _) (r : _) (b : _) → goal.J-post g l.multiply a c r b → IfOk r (λ _. g.T.Object.same b.now (product a.now c.now)))
    → g.T.Object.same l.fn.start one
    → record { taken : TakenTo g.T.Object.same (power one product l.x) l.initial.out l.word l.out l.i; before : l.begun ≡ false → g.T.Object.same l.out one }

-- the limbs so far are taken
abbrev pub invariant-loop-limb : goal.invariant-loop-limb
invariant-loop-limb g l = (one : _) (product : _) → IsMonoid g.T.Object.same one product
    → ((a : _) (r : _) (b : _) → goal.D-post g l.square a r b → IfOk r (λ _. g.T.Object.same b.now (product a.now a.now)))
    → ((a : _) (c : _) (r : _) (b : _) → goal.J-post g l.multiply a c r b → IfOk r (λ _. g.T.Object.same b.now (product a.now c.now)))
    → g.T.Object.same l.fn.start one
    → record { taken : g.T.Object.same l.out (power one product l.x (number_of_limbs (reverse (map (λ b. b.now) l.yielded)))); before : l.begun ≡ false → g.T.Object.same l.out one }
