-- Products of differences from given roots.
use Rattle.std.specs.Prelude.{List, [], ◌∷◌}

-- the product of r - x over the roots x
abbrev pub root_product : {A : Type 0} → (A → A → A) → (A → A) → (A → A → A) → A → A → List A → A
root_product sum negative product one r [] = one
root_product sum negative product one r (x ∷ roots) = product (sum r (negative x)) (root_product sum negative product one r roots)
