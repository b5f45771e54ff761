-- What a path binds, and that each place has one.
use Rattle.std.proofs.Common.{◌≡◌, ◌⊎◌, ℕ, zero, suc, ◌/◌, ◌%◌, ◌<◌, ◌≤◌, ◌^◌, List, [], ◌∷◌, ◌++◌, length, length-append, refl, sym, ap, ◌∙◌, subst, arith, inl, inr, true, false}
use Rattle.std.specs.Prelude.{slice_index_or, ◌==◌}
use Rattle.std.proofs.lemmas.Bool.{cases_Bool, MatchBool-at_true, MatchBool-at_false}
use Rattle.hash_trees.specs.Trees.{LeadsAbove, above, half, hashed_above, is_alone, node_message, path_above, root_above, step_message}
use Rattle.hash_trees.specs.Binding.{Collide, HasDigests}
use Rattle.hash_trees.proofs.Collisions.{apart, same_or_not}
use Rattle.hash_trees.proofs.Levels.{above_alone, above_step, half_of_power, length-above}

-- where a node has no neighbour, a path leads up from it as from the node above
pub alone_up : (h : List ℕ → List ℕ) (k n i : ℕ) (d : List ℕ) (others : List (List ℕ)) (top : List ℕ) → is_alone n i ≡ true
    → LeadsAbove h k (half n) (i / 2) d others top → LeadsAbove h (suc k) n i d others top
unfolding LeadsAbove
alone_up h k n i d [] top t r = rw t r
alone_up h k n i d (o ∷ others) top t r = rw t r

pub alone_down : (h : List ℕ → List ℕ) (k n i : ℕ) (d : List ℕ) (others : List (List ℕ)) (top : List ℕ) → is_alone n i ≡ true
    → LeadsAbove h (suc k) n i d others top → LeadsAbove h k (half n) (i / 2) d others top
unfolding LeadsAbove
alone_down h k n i d [] top t r = MatchBool-at_true _ _ t r
alone_down h k n i d (o ∷ others) top t r = MatchBool-at_true _ _ t r

-- and else as from the node above, by its neighbour
pub step_up : (h : List ℕ → List ℕ) (k n i : ℕ) (d other : List ℕ) (others : List (List ℕ)) (top : List ℕ) → is_alone n i ≡ false
    → LeadsAbove h k (half n) (i / 2) (h (step_message i d other)) others top → LeadsAbove h (suc k) n i d (other ∷ others) top
unfolding LeadsAbove
step_up h k n i d other others top f r = rw f r

pub step_down : (h : List ℕ → List ℕ) (k n i : ℕ) (d other : List ℕ) (others : List (List ℕ)) (top : List ℕ) → is_alone n i ≡ false
    → LeadsAbove h (suc k) n i d (other ∷ others) top → LeadsAbove h k (half n) (i / 2) (h (step_message i d other)) others top
unfolding LeadsAbove
step_down h k n i d other others top f r = MatchBool-at_false _ _ f r

pub none_down : (h : List ℕ → List ℕ) (k n i : ℕ) (d top : List ℕ) → is_alone n i ≡ false → LeadsAbove h (suc k) n i d [] top → ⊥
unfolding LeadsAbove
none_down h k n i d top f r = MatchBool-at_false _ _ f r

-- the messages on the way
on_alone : (h : List ℕ → List ℕ) (k n i : ℕ) (d : List ℕ) (others : List (List ℕ)) → is_alone n i ≡ true
    → hashed_above h (suc k) n i d others ≡ hashed_above h k (half n) (i / 2) d others
unfolding hashed_above
on_alone h k n i d [] t = rw t refl
on_alone h k n i d (o ∷ others) t = rw t refl

on_step : (h : List ℕ → List ℕ) (k n i : ℕ) (d other : List ℕ) (others : List (List ℕ)) → is_alone n i ≡ false
    → hashed_above h (suc k) n i d (other ∷ others) ≡ step_message i d other ∷ hashed_above h k (half n) (i / 2) (h (step_message i d other)) others
unfolding hashed_above
on_step h k n i d other others f = rw f refl

-- a step binds the digest that it is taken from
step_binds : (i : ℕ) (d e p q : List ℕ) → length d ≡ length e → step_message i d p ≡ step_message i e q → d ≡ e
step_binds i d e p q l same = elim (cases_Bool (i % 2 == 0)) [
  | inl t ↦
      let left : node_message d p ≡ node_message e q = rw t at same in
      let joined : d ++ p ≡ e ++ q = cc in
      (apart d e p q l joined).0
  | inr f ↦
      let right : node_message p d ≡ node_message q e = rw f at same in
      let joined : p ++ d ≡ q ++ e = cc in
      let whole = ap length joined in
      let size : length p ≡ length q = omega (arith, length-append p d, length-append q e, whole, l) in
      (apart p q d e size joined).1
]

pub path_binds : (h : List ℕ → List ℕ) (k n i : ℕ) (d e : List ℕ) (p q : List (List ℕ)) (top : List ℕ) → HasDigests h → length d ≡ length e
    → LeadsAbove h k n i d p top → LeadsAbove h k n i e q top → (d ≡ e) ⊎ Collide h (hashed_above h k n i d p) (hashed_above h k n i e q)
unfolding LeadsAbove
path_binds h zero n i d e [] [] top s l a b = inl (a ∙ sym b)
path_binds h zero n i d e [] (o ∷ q) top s l a b = absurd b
path_binds h zero n i d e (o ∷ p) q top s l a b = absurd a
path_binds h (suc k) n i d e [] [] top s l a b = elim (cases_Bool (is_alone n i)) [
  | inl t ↦ rw (on_alone h k n i d [] t, on_alone h k n i e [] t)
      (path_binds h k (half n) (i / 2) d e [] [] top s l (alone_down h k n i d [] top t a) (alone_down h k n i e [] top t b))
  | inr f ↦ absurd (none_down h k n i d top f a)
]
path_binds h (suc k) n i d e [] (o ∷ q) top s l a b = elim (cases_Bool (is_alone n i)) [
  | inl t ↦ rw (on_alone h k n i d [] t, on_alone h k n i e (o ∷ q) t)
      (path_binds h k (half n) (i / 2) d e [] (o ∷ q) top s l (alone_down h k n i d [] top t a) (alone_down h k n i e (o ∷ q) top t b))
  | inr f ↦ absurd (none_down h k n i d top f a)
]
path_binds h (suc k) n i d e (o ∷ p) [] top s l a b = elim (cases_Bool (is_alone n i)) [
  | inl t ↦ rw (on_alone h k n i d (o ∷ p) t, on_alone h k n i e [] t)
      (path_binds h k (half n) (i / 2) d e (o ∷ p) [] top s l (alone_down h k n i d (o ∷ p) top t a) (alone_down h k n i e [] top t b))
  | inr f ↦ absurd (none_down h k n i e top f b)
]
path_binds h (suc k) n i d e (o ∷ p) (r ∷ q) top s l a b = elim (cases_Bool (is_alone n i)) [
  | inl t ↦ rw (on_alone h k n i d (o ∷ p) t, on_alone h k n i e (r ∷ q) t)
      (path_binds h k (half n) (i / 2) d e (o ∷ p) (r ∷ q) top s l (alone_down h k n i d (o ∷ p) top t a) (alone_down h k n i e (r ∷ q) top t b))
  | inr f ↦
      let m = step_message i d o in
      let m' = step_message i e r in
      let size : length (h m) ≡ length (h m') = s m ∙ sym (s m') in
      let further = path_binds h k (half n) (i / 2) (h m) (h m') p q top s size (step_down h k n i d o p top f a) (step_down h k n i e r q top f b) in
      rw (on_step h k n i d o p f, on_step h k n i e r q f) (elim further [
        | inr c ↦ inr (inr c)
        | inl same ↦ elim (same_or_not m m') [ inl message ↦ inl (step_binds i d e o r l message) | inr differ ↦ inr (inl (differ, same)) ]
      ])
]

pub path_leads : (h : List ℕ → List ℕ) (k : ℕ) (level : List (List ℕ)) (i : ℕ) → i < length level → length level ≤ 2 ^ k
    → LeadsAbove h k (length level) i (slice_index_or level i []) (path_above h k level i) (root_above h k level)
unfolding LeadsAbove path_above root_above
path_leads h zero [] i l few = absurd (omega (arith, l))
path_leads h zero (x ∷ []) zero l few = refl
path_leads h zero (x ∷ []) (suc i) l few = absurd (omega (arith, l))
path_leads h zero (x ∷ (y ∷ level)) i l few = absurd (omega (arith, few))
path_leads h (suc k) level i l few =
    let size = length-above h level in
    let fewer = half_of_power k (length level) few in
    let within : i / 2 < length (above h level) = omega (arith, size, l) in
    let low : length (above h level) ≤ 2 ^ k = omega (arith, size, fewer) in
    let higher = path_leads h k (above h level) (i / 2) within low in
    let counted : LeadsAbove h k (half (length level)) (i / 2) (slice_index_or (above h level) (i / 2) []) (path_above h k (above h level) (i / 2)) (root_above h k (above h level)) =
    subst (λ (n : ℕ). LeadsAbove h k n (i / 2) (slice_index_or (above h level) (i / 2) []) (path_above h k (above h level) (i / 2)) (root_above h k (above h level))) size higher in
    elim (cases_Bool (is_alone (length level) i)) [
      | inl t ↦ rw t (alone_up h k (length level) i _ _ _ t
          (subst (λ (d : List ℕ). LeadsAbove h k (half (length level)) (i / 2) d (path_above h k (above h level) (i / 2)) (root_above h k (above h level))) (above_alone h level i t) counted))
      | inr f ↦ rw f (step_up h k (length level) i _ _ _ _ f
          (subst (λ (d : List ℕ). LeadsAbove h k (half (length level)) (i / 2) d (path_above h k (above h level) (i / 2)) (root_above h k (above h level))) (above_step h level i l f) counted))
    ]
