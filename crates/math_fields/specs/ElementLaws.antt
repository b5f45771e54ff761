-- The elements of the Goldilocks field are a commutative ring.
use Rattle.std.proofs.Common.{refl}
use Rattle.math_theory.specs.Laws.{IsEquality, IsGroup, IsProduct, IsRing}
use Rattle.math_numbers.specs.Goldilocks.{P}
use Rattle.math_theory.proofs.rings.ResidueLaws.{residues, residues_group, residues_product, residues_ring}
use Rattle.math_fields.specs.Elements.{number, residue, same, sum, negative, product}

pub equality : IsEquality same
equality = residues P number residue (λ k. refl) (λ a. a.below)

pub group : IsGroup same (residue 0) sum negative
group = residues_group P number residue (λ k. refl) (λ a. a.below)

pub commutes : IsProduct same product
commutes = residues_product P number residue (λ k. refl) (λ a. a.below)

pub ring : IsRing same sum product (residue 1)
ring = residues_ring P number residue (λ k. refl) (λ a. a.below)
