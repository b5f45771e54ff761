-- Sound shards, and the first shard that is not sound.
use Rattle.std.proofs.Common.{◌≡◌, ℕ, ◌+◌, ◌<◌, List, [], ◌∷◌, ◌++◌, length, take, drop, get_or, sym, ap, subst, ◌∙◌, arith}
use Rattle.std.specs.List.{All, AllWithin}
use Rattle.std.proofs.lemmas.List.{take-append-drop, take_more, append_assoc, get_or-take, length-take-le}
use Rattle.math_splitting.specs.declared.shards.Shard.{Shard}
use Rattle.math_splitting.specs.declared.shards.layouts.Layout.{Layout}
use Rattle.math_shards.specs.Fitting.{AreRowsOf}
use Rattle.math_shards.specs.Joining.{HasUnsound, IsSound}

-- a list is what stands before place i, the item there, and what stands after it
parts_at : {X : Type 0} (xs : List X) (i : ℕ) (x : X) → i < length xs → x ≡ get_or xs i x → xs ≡ take i xs ++ x ∷ drop (i + 1) xs
parts_at xs i x l e =
    sym (take-append-drop (i + 1) xs)
    ∙ ap (λ ys. ys ++ drop (i + 1) xs) (take_more xs i x l ∙ ap (λ y. take i xs ++ y ∷ []) (sym e))
    ∙ append_assoc (take i xs) (x ∷ []) (drop (i + 1) xs)

-- where the shards before place i are sound, and P holds of the one there, it is the first for which it does
pub unsound_at : (first : Shard) (P : Shard → Type 0) (shards : List Shard) (i : ℕ) (s : Shard) → i < length shards → s ≡ get_or shards i s
    → AllWithin (IsSound first) shards 0 i → P s → HasUnsound first P shards
unsound_at first P shards i s l e sound fault = record {
  before = take i shards;
  found = s;
  after = drop (i + 1) shards;
  parts = parts_at shards i s l e;
  sound = λ k d b. let inside : k < i = omega (arith, b, length-take-le i shards (omega (arith, l))) in subst (IsSound first) (sym (get_or-take i shards k d inside)) (sound k d (omega arith) inside);
  fault = fault;
}

-- sound shards are rows of the layout that the first one says
pub rows_of_sound : (first : Shard) (shards : List Shard) (layout : Layout) → layout.total ≡ first.total → layout.width ≡ length first.cells.items → All (IsSound first) shards
    → AreRowsOf (λ (s : Shard). s.index) (λ s. s.cells.items) layout shards
rows_of_sound first shards layout total wide sound = grind arith
