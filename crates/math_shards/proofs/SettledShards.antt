-- Shards of settled indices: no two of them are in conflict, and their cells stand in the rows of their indices.
use Rattle.std.proofs.Common.{arith, ◌≡◌, ℕ, ◌+◌, ◌<◌, ◌≤◌, ◌^◌, ◌||◌, inl, inr, List, [], ◌∷◌, Bool, true, false, not, eqb, length, get_or, refl, sym, ◌∙◌, ap, subst}
use Rattle.std.specs.List.{All, AllZip, Contains}
use Rattle.std.proofs.lemmas.Bool.{and_from, and_parts, both_ways, cases_Bool, eq-eqb, eqb-false, eqb-true, false≢true, not-true, or_cases, true_from_ne_false, true≢false}
use Rattle.std.proofs.lemmas.List.Elements.{All-contains_itself, All-filter, filter_passes}
use Rattle.std.proofs.lemmas.List.Folds.{list_all_at}
use Rattle.math_fields.specs.declared.goldilocks.F.{F}
use Rattle.math_fields.specs.Elements.{number, same}
use Rattle.math_transforms.specs.Matrices.{row_of}
use Rattle.math_ntt.specs.Evaluations.{EvaluationsOf, IsFilledAt}
use Rattle.math_splitting.specs.declared.shards.Shard.{Shard}
use Rattle.math_shards.specs.Correcting.{are_same, is_settled, settled}
use Rattle.math_shards.specs.Joining.{HaveConflict, IsSound}
use Rattle.math_shards.proofs.GatheredShards.{HoldsFirst, conflict_at, holds_more}
use Rattle.math_shards.proofs.KeptItems.{kept_of, kept-passes}

-- the test of cells decides whether they are same
pub are_same-decides : (xs ys : List F) → (are_same xs ys ≡ true → AllZip same xs ys) × (AllZip same xs ys → are_same xs ys ≡ true)
are_same-decides [] [] = (λ _. tt, λ _. refl)
are_same-decides [] (y ∷ ys) = (λ h. absurd (false≢true h), λ h. absurd h)
are_same-decides (x ∷ xs) [] = (λ h. absurd (false≢true h), λ h. absurd h)
are_same-decides (x ∷ xs) (y ∷ ys) =
    let rest = are_same-decides xs ys in (
      λ h. let p = and_parts (eqb (number x) (number y)) (are_same xs ys) h in (eqb-true (number x) (number y) p.0, rest.0 p.1),
      λ h. and_from (eqb (number x) (number y)) (are_same xs ys) (eq-eqb (number x) (number y) h.0) (rest.1 h.1),
    )

-- t has another index than s, or its cells
abbrev pub agrees : Shard → Shard → Bool
agrees s t = not (eqb t.index s.index) || are_same t.cells.items s.cells.items

agrees-cells : (s t : Shard) → agrees s t ≡ true → t.index ≡ s.index → AllZip same t.cells.items s.cells.items
agrees-cells s t h e = grind (arith, or_cases, eqb-false, not-true, are_same-decides)

-- each shard with the index of a settled one has its cells
pub settled_cells : (shards : List Shard) (s t : Shard) → is_settled shards s ≡ true → Contains shards t → t.index ≡ s.index → AllZip same t.cells.items s.cells.items
settled_cells shards s t h there e =
    agrees-cells s t (true_from_ne_false (agrees s t) (λ f. true≢false (sym h ∙ list_all_at (agrees s) shards there.0 t there.1 (ap (agrees s) there.2 ∙ f)))) e

-- what is settled is settled among all shards
pub settled_passes : (shards : List Shard) → All (λ s. is_settled shards s ≡ true) (settled shards)
settled_passes shards = filter_passes (is_settled shards) shards

pub settled_there : (shards : List Shard) → All (Contains shards) (settled shards)
settled_there shards = All-filter (is_settled shards) (Contains shards) shards (All-contains_itself shards)

-- no two settled shards have one index and unequal cells
pub no_settled_conflict : (shards : List Shard) → ¬ (HaveConflict (settled shards))
no_settled_conflict shards conflict =
    let s = conflict.1 in
    let other = conflict.4 in
    let t = other.1 in
    let passes : is_settled shards s ≡ true = subst (λ (u : Shard). is_settled shards u ≡ true) conflict.3 (settled_passes shards conflict.0 s conflict.2) in
    let there : Contains shards t = subst (Contains shards) other.3 (settled_there shards other.0 t other.2) in
    other.4.1 (settled_cells shards s t passes there other.4.0)

pub settled_sound : (first : Shard) (shards : List Shard) → All (IsSound first) shards → All (IsSound first) (settled shards)
settled_sound first shards sound = All-filter (is_settled shards) (IsSound first) shards sound

-- one settled shard more is in its row
pub holds_settled : (lg width : ℕ) (first : Shard) (shards : List Shard) → first.total ≤ 2 ^ lg → length first.cells.items ≡ width → All (IsSound first) shards
    → (n : ℕ) (s : Shard) (e f : EvaluationsOf F) → HoldsFirst lg width (settled shards) (kept_of (is_settled shards) shards n) e → n < length shards → s ≡ get_or shards n s
    → is_settled shards s ≡ true → IsFilledAt same e s.index s.cells.items f → HoldsFirst lg width (settled shards) (kept_of (is_settled shards) shards (n + 1)) f
holds_settled lg width first shards domain wide sound n s e f h l is passes filled =
    let many = kept_of (is_settled shards) shards n in
    let k = kept-passes (is_settled shards) shards n s l is passes in
    let each = settled_sound first shards sound in
    let row = row_of e.matrix s.index in
    let equal : get_or e.filled s.index false ≡ true → AllZip same row s.cells.items =
    λ marked. elim (cases_Bool (are_same row s.cells.items)) as (λ _. AllZip same row s.cells.items) [
      | inl equal ↦ (are_same-decides row s.cells.items).0 equal
      | inr unequal ↦ absurd (no_settled_conflict shards
          (conflict_at lg width first (settled shards) domain wide each many s e h k.1 k.2 (marked, λ z. both_ways (are_same row s.cells.items) unequal ((are_same-decides row s.cells.items).1 z))))
    ] in
    subst (λ (m : ℕ). HoldsFirst lg width (settled shards) m f) (sym k.0) (holds_more lg width first (settled shards) domain wide each many s e f h k.1 k.2 equal filled)
