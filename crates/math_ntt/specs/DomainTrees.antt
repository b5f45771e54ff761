-- The trees of square roots of a domain or of its coset.
use Rattle.std.specs.Prelude.{ℕ, ◌<◌}
use Rattle.math_base.specs.Members.{RingOf}
use Rattle.math_transforms.specs.RootTrees.{IsTreeOf}
use Rattle.math_ntt.specs.declared.ntt.recovery.Trees.{Trees}
use Rattle.math_ntt.specs.Evaluations.{IsDomainLg}

-- the trees of two points or more: one begins at `start` and goes on by the roots, the other begins at `back` and goes on by their inverses
pub record AreTrees {A : Type 0} (R : RingOf A) (greatest : ℕ) (inverse : A → A) (root : ℕ → A) (start back : A) (trees : Trees A) : Type 0 where
  pub domain : IsDomainLg greatest trees.lg
  pub some : 0 < trees.lg
  pub points : IsTreeOf R root start trees.lg trees.points.items
  pub inverses : IsTreeOf R (λ l. inverse (root l)) back trees.lg trees.inverses.items
