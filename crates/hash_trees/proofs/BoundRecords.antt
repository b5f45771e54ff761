-- What a root binds of records.
use Rattle.std.proofs.Common.{◌≡◌, ◌⊎◌, ℕ, zero, suc, ◌<◌, ◌≤◌, List, [], ◌∷◌, length, map, refl, sym, ◌∙◌, subst, arith, inl, inr}
use Rattle.std.specs.Prelude.{slice_index_or}
use Rattle.hash_trees.specs.Trees.{LeadsTo, leaf_message, path, root}
use Rattle.hash_trees.specs.Binding.{OnlyLeavesAreUnder, OnlyRecordsAreShown, OnlyRecordsAreUnder, PathsLeadUp, RecordsAreBound, RootsAreBound, RootsGoUp, leaves, record_path, records_root}
use Rattle.hash_trees.proofs.BoundPaths.{path_binds, path_leads}
use Rattle.hash_trees.proofs.BoundRoots.{digests-leaves, length-leaves, length-messages, trees_bind}
use Rattle.hash_trees.proofs.Collisions.{collide_behind, collide_in_front, leaves_bind, same_or_not}
use Rattle.hash_trees.proofs.Enough.{below_power}
use Rattle.hash_trees.proofs.Steps.{root_one, root_up}

pub records_are_bound : RecordsAreBound
records_are_bound h total index x y top p q s a b =
    let size : length (h (leaf_message x)) ≡ length (h (leaf_message y)) = s (leaf_message x) ∙ sym (s (leaf_message y)) in
    elim (path_binds h total total index (h (leaf_message x)) (h (leaf_message y)) p q top s size a.1 b.1) [
      | inr c ↦ inr (inr c)
      | inl same ↦ elim (same_or_not x y) [ inl e ↦ inl e | inr differ ↦ inr (inl (λ (f : leaf_message x ≡ leaf_message y). differ (cc), same)) ]
    ]

pub roots_are_bound : RootsAreBound
roots_are_bound h xs ys d l e =
    let over_xs = length-leaves h xs in
    let over_ys = length-leaves h ys in
    let same_length : length (leaves h xs) ≡ length (leaves h ys) = omega (arith, over_xs, over_ys, l) in
    let messages_xs = length-messages xs in
    let messages_ys = length-messages ys in
    let hashed : length (map leaf_message xs) ≡ length (map leaf_message ys) = omega (arith, messages_xs, messages_ys, l) in
    elim (trees_bind h (leaves h xs) (leaves h ys) d (digests-leaves h xs d) (digests-leaves h ys d) same_length e) [
      | inr c ↦ inr (collide_behind h (map leaf_message xs) (map leaf_message ys) _ _ hashed c)
      | inl same ↦ elim (leaves_bind h xs ys l same) [ inl all ↦ inl all | inr c ↦ inr (collide_in_front h _ _ _ _ c) ]
    ]

leaf_at : (h : List ℕ → List ℕ) (xs : List (List ℕ)) (i : ℕ) → i < length xs → slice_index_or (leaves h xs) i [] ≡ h (leaf_message (slice_index_or xs i []))
leaf_at h [] i l = absurd (omega (arith, l))
leaf_at h (x ∷ xs) zero l = refl
leaf_at h (x ∷ xs) (suc i) l = leaf_at h xs i (omega (arith, l))

pub paths_lead_up : PathsLeadUp
paths_lead_up h index records l =
    let size = length-leaves h records in
    let within : index < length (leaves h records) = omega (arith, size, l) in
    let leads : LeadsTo h (length (leaves h records)) index (slice_index_or (leaves h records) index []) (record_path h records index) (records_root h records) =
    path_leads h (length (leaves h records)) (leaves h records) index within (below_power (length (leaves h records))) in
    let counted = subst (λ (n : ℕ). LeadsTo h n index (slice_index_or (leaves h records) index []) (record_path h records index) (records_root h records)) size leads in
    (l, subst (λ (d : List ℕ). LeadsTo h (length records) index d (record_path h records index) (records_root h records)) (leaf_at h records index l) counted)

pub only_records_are_under : OnlyRecordsAreUnder
only_records_are_under h index records x others s a =
    records_are_bound h (length records) index x (slice_index_or records index []) (records_root h records) others (record_path h records index) s a
    (paths_lead_up h index records a.0)

pub only_leaves_are_under : OnlyLeavesAreUnder
only_leaves_are_under h index leaves leaf others s size a =
    path_binds h (length leaves) (length leaves) index leaf (slice_index_or leaves index []) others (path h leaves index) (root h leaves) s size a.1
    (path_leads h (length leaves) leaves index a.0 (below_power (length leaves)))

pub only_records_are_shown : OnlyRecordsAreShown
only_records_are_shown h records [] s a = inl tt
only_records_are_shown h records (x ∷ shown) s a =
    elim (only_records_are_under h x.index records x.content x.others s a.0) [
      | inr c ↦ inr (inl c)
      | inl here ↦ elim (only_records_are_shown h records shown s a.1) [ inl rest ↦ inl (here, rest) | inr c ↦ inr (inr c) ]
    ]

only_one : (nodes : List (List ℕ)) (top : List ℕ) → length nodes ≡ 1 → top ≡ slice_index_or nodes 0 [] → nodes ≡ top ∷ []
only_one [] top l e = absurd (omega (arith, l))
only_one (x ∷ []) top l e = rw e refl
only_one (x ∷ (y ∷ nodes)) top l e = absurd (omega (arith, l))

one_or_more : (n : ℕ) → 1 ≤ n → (n ≡ 1) ⊎ (2 ≤ n)
one_or_more n l = grind (arith, l)

pub roots_go_up : RootsGoUp
roots_go_up h nodes l = elim (one_or_more (length nodes) l) [
  | inl one ↦ inl (one, only_one nodes (root h nodes) one (root_one h nodes [] l (omega (arith, one))))
  | inr more ↦ inr (more, root_up h nodes more)
]
