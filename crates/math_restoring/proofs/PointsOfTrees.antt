-- The points below trees of square roots, of the powers of a root of unity and of their inverses.
use Rattle.std.proofs.Common.{◌≡◌, ◌∙◌, ℕ, zero, suc, ◌+◌, ◌<◌, ◌≤◌, ◌^◌, List, [], ◌∷◌, refl, sym, ap, arith}
use Rattle.math_theory.specs.BitReversal.{bit_reversed}
use Rattle.math_theory.specs.Rings.{CommutativeRing}
use Rattle.math_theory.proofs.classes.Classes.{Class, class, class_same, same_class, ring_of_classes}
use Rattle.math_theory.proofs.classes.ClassesOfLists.{power-class}
use Rattle.math_theory.proofs.classes.RingUpToSame.{combine2_same}
use Rattle.math_theory.proofs.rings.Normal.{◌⊗◌, minus, 𝟙, v0, v1, v2, v3}
use Rattle.math_theory.proofs.rings.PowerLaws.{power-of_one, power-product}
use Rattle.math_fields.specs.declared.goldilocks.F.{F}
use Rattle.math_fields.specs.ElementLaws.{equality, group, commutes, ring}
use Rattle.math_fields.specs.ElementRootLaws.{field, roots}
use Rattle.math_fields.specs.Elements.{inverse, negative, number, product, residue, root_of, same, shift_of, goldilocks}
use Rattle.math_fields.proofs.ElementNumbers.{same_number}
use Rattle.math_transforms.specs.RootTrees.{IsRootTree, IsTreeOf, class_at}
use Rattle.math_transforms.proofs.RootInverses.{inverse-tree_squares}
use Rattle.math_transforms.proofs.TreeEntries.{root-tree}
use Rattle.math_transforms.proofs.TreePoints.{point-class}
use Rattle.math_restoring.specs.CosetDivisions.{coset_point, domain_point, raised}
use Rattle.math_values.proofs.ElementRing.{elements}
use Rattle.math_restoring.proofs.RaisedElements.{one, root-apart, root-half}

-- both kinds of trees are trees of square roots
pub forward-tree : (start : F) (lg : ℕ) (tree : List F) → lg ≤ 32 → IsTreeOf goldilocks root_of start lg tree → IsRootTree goldilocks (root_of 2) tree
forward-tree start lg tree small T = root-tree goldilocks equality group commutes ring root_of start lg tree (λ l within. roots.square l (omega (arith, within, small))) T

-- the inverses of the roots
abbrev pub back : ℕ → F
back l = inverse (root_of l)

pub backward-tree : (start : F) (lg : ℕ) (tree : List F) → lg ≤ 32 → IsTreeOf goldilocks back start lg tree → IsRootTree goldilocks (inverse (root_of 2)) tree
backward-tree start lg tree small T = root-tree goldilocks equality group commutes ring back start lg tree (inverse-tree_squares equality group commutes ring field roots lg small) T

abbrev C : CommutativeRing (Class equality)
C = ring_of_classes equality group commutes ring

-- point t of a tree, where power 2^l of its root of order 2^(l + 1) is minus one
point-at : (root : ℕ → F) (start : F) (l t : ℕ) (tree : List F) → IsTreeOf goldilocks root start (suc l) tree → same (raised (root (suc l)) (2 ^ l)) (negative one) → t < 2 ^ suc l
    → same (class_at goldilocks tree (2 ^ suc l + t)) (product start (raised (root (suc l)) (bit_reversed (suc l) t)))
point-at root start l t tree T half b =
    let w = root (suc l) in
    same_class equality _ _
    (point-class goldilocks equality group commutes ring root start l tree T (power-class equality group commutes ring w (2 ^ l) ∙ class_same equality _ _ half) t b
    ∙ ap (C.product (class equality start)) (power-class equality group commutes ring w (bit_reversed (suc l) t)))

-- a point of the tree of the powers of the root
tree-point : (start : F) (lg t : ℕ) (tree : List F) → IsTreeOf goldilocks root_of start lg tree → 1 ≤ lg → lg ≤ 32 → t < 2 ^ lg
    → class_at goldilocks tree (2 ^ lg + t) ≡ product start (raised (root_of lg) (bit_reversed lg t))
tree-point start zero t tree T some small b = absurd (omega (arith, some))
tree-point start (suc l) t tree T some small b = same_number _ _ (point-at root_of start l t tree T (root-half l (omega (arith, small))) b)

-- of the domain, and of the coset
pub tree-domain_point : (lg t : ℕ) (tree : List F) → IsTreeOf goldilocks root_of (residue 1) lg tree → 1 ≤ lg → lg ≤ 32 → t < 2 ^ lg → class_at goldilocks tree (2 ^ lg + t) ≡ domain_point lg t
tree-domain_point lg t tree T some small b = tree-point (residue 1) lg t tree T some small b ∙ elements.product_one (domain_point lg t)

pub tree-coset_point : (part t : ℕ) (tree : List F) → IsTreeOf goldilocks root_of shift_of part tree → 1 ≤ part → part ≤ 32 → t < 2 ^ part → class_at goldilocks tree (2 ^ part + t) ≡ coset_point part t
tree-coset_point part t tree T some small b = tree-point shift_of part t tree T some small b

-- powers of what is inverse are inverse
powers-unit : (w v : F) (n : ℕ) → same (product w v) one → same (product (raised w n) (raised v n)) one
powers-unit w v n unit = ap number (sym (power-product elements w v n) ∙ ap (λ u. raised u n) (same_number _ _ unit) ∙ power-of_one elements n)

root-unit : (lg : ℕ) → lg ≤ 32 → same (product (root_of lg) (back lg)) one
root-unit lg small = field.inverts (root_of lg) (root-apart lg small)

-- power 2^l of the inverse of the root of order 2^(l + 1) is minus one
back-half : (l : ℕ) → l < 32 → same (raised (back (suc l)) (2 ^ l)) (negative one)
back-half l h =
    let x = raised (root_of (suc l)) (2 ^ l) in
    let y = raised (back (suc l)) (2 ^ l) in
    combine2_same equality group commutes ring (x ∷ y ∷ []) v1 (minus 𝟙) (minus 𝟙) (v0 ⊗ v1) 𝟙 v1 v0 (minus 𝟙)
    (powers-unit (root_of (suc l)) (back (suc l)) (2 ^ l) (root-unit (suc l) (omega (arith, h)))) (root-half l h) refl

-- a point of a tree, times its class in the tree of the inverses, is one
pub inverse-point : (start home : F) (lg t : ℕ) (inverses : List F) → IsTreeOf goldilocks back home lg inverses → same (product start home) one → 1 ≤ lg → lg ≤ 32 → t < 2 ^ lg
    → same (product (product start (raised (root_of lg) (bit_reversed lg t))) (class_at goldilocks inverses (2 ^ lg + t))) one
inverse-point start home zero t inverses T unit some small b = absurd (omega (arith, some))
inverse-point start home (suc l) t inverses T unit some small b =
    let n = bit_reversed (suc l) t in
    let x = raised (root_of (suc l)) n in
    let y = raised (back (suc l)) n in
    let here : class_at goldilocks inverses (2 ^ suc l + t) ≡ product home y = same_number _ _ (point-at back home l t inverses T (back-half l (omega (arith, small))) b) in
    ap (λ z. number (product (product start x) z)) here
    ∙ combine2_same equality group commutes ring (start ∷ home ∷ x ∷ y ∷ []) ((v0 ⊗ v2) ⊗ (v1 ⊗ v3)) 𝟙 (v2 ⊗ v3) (v0 ⊗ v1) 𝟙 𝟙 (v2 ⊗ v3) 𝟙 unit
    (powers-unit (root_of (suc l)) (back (suc l)) n (root-unit (suc l) small)) refl

-- and so it is for those of the domain, and of the coset
pub inverse-domain_point : (lg t : ℕ) (inverses : List F) → IsTreeOf goldilocks back (residue 1) lg inverses → 1 ≤ lg → lg ≤ 32 → t < 2 ^ lg
    → same (product (domain_point lg t) (class_at goldilocks inverses (2 ^ lg + t))) one
inverse-domain_point lg t inverses T some small b =
    ap (λ x. number (product x (class_at goldilocks inverses (2 ^ lg + t)))) (sym (elements.product_one (domain_point lg t)))
    ∙ inverse-point (residue 1) (residue 1) lg t inverses T (ring.identity (residue 1)) some small b

pub inverse-coset_point : (part t : ℕ) (inverses : List F) → IsTreeOf goldilocks back (inverse shift_of) part inverses → 1 ≤ part → part ≤ 32 → t < 2 ^ part
    → same (product (coset_point part t) (class_at goldilocks inverses (2 ^ part + t))) one
inverse-coset_point part t inverses T some small b = inverse-point shift_of (inverse shift_of) part t inverses T (field.inverts shift_of roots.shift_is_not_zero) some small b
