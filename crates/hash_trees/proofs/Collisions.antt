-- Messages that collide, and lists that are put together.
use Rattle.std.proofs.Common.{◌≡◌, ◌≢◌, ◌⊎◌, ℕ, List, [], ◌∷◌, ◌++◌, length, map, refl, arith, inl, inr}
use Rattle.std.specs.Str.{bytes_eq}
use Rattle.std.proofs.lemmas.Bool.{cases_Bool, both_ways}
use Rattle.std.proofs.lemmas.Slice.Eq.{bytes_eq-Decides}
use Rattle.hash_trees.specs.Trees.{leaf_message}
use Rattle.hash_trees.specs.Binding.{Collide, leaves}

-- two lists of numbers are the same, or are not
pub same_or_not : (a b : List ℕ) → (a ≡ b) ⊎ (a ≢ b)
same_or_not a b = elim (cases_Bool (bytes_eq a b)) [
  | inl same ↦ inl ((bytes_eq-Decides a b).0 same)
  | inr other ↦ inr (λ e. both_ways (bytes_eq a b) other ((bytes_eq-Decides a b).1 e))
]

-- messages that collide do so with further ones behind them
pub collide_in_front : (h : List ℕ → List ℕ) (ms ns a b : List (List ℕ)) → Collide h ms ns → Collide h (ms ++ a) (ns ++ b)
collide_in_front h [] ns a b c = absurd c
collide_in_front h (m ∷ ms) [] a b c = absurd c
collide_in_front h (m ∷ ms) (n ∷ ns) a b (inl c) = inl c
collide_in_front h (m ∷ ms) (n ∷ ns) a b (inr c) = inr (collide_in_front h ms ns a b c)

-- and behind equally many
pub collide_behind : (h : List ℕ → List ℕ) (ms ns a b : List (List ℕ)) → length ms ≡ length ns → Collide h a b → Collide h (ms ++ a) (ns ++ b)
collide_behind h [] [] a b e c = c
collide_behind h [] (n ∷ ns) a b e c = absurd (omega (arith, e))
collide_behind h (m ∷ ms) [] a b e c = absurd (omega (arith, e))
collide_behind h (m ∷ ms) (n ∷ ns) a b e c = inr (collide_behind h ms ns a b (omega (arith, e)) c)

-- lists that are put together come apart where the first ones are equally long
pub apart : (a c b d : List ℕ) → length a ≡ length c → a ++ b ≡ c ++ d → (a ≡ c) × (b ≡ d)
apart [] [] b d l e = (refl, e)
apart [] (y ∷ c) b d l e = absurd (omega (arith, l))
apart (x ∷ a) [] b d l e = absurd (omega (arith, l))
apart (x ∷ a) (y ∷ c) b d l e =
    let heads : x ≡ y = cc in
    let tails : a ++ b ≡ c ++ d = cc in
    let more = apart a c b d (omega (arith, l)) tails in
    (rw (heads, more.0) refl, more.1)

-- equally many contents with the same leaves are the same, or collide
pub leaves_bind : (h : List ℕ → List ℕ) (xs ys : List (List ℕ)) → length xs ≡ length ys → leaves h xs ≡ leaves h ys
    → (xs ≡ ys) ⊎ Collide h (map leaf_message xs) (map leaf_message ys)
leaves_bind h [] [] l e = inl refl
leaves_bind h [] (y ∷ ys) l e = absurd (omega (arith, l))
leaves_bind h (x ∷ xs) [] l e = absurd (omega (arith, l))
leaves_bind h (x ∷ xs) (y ∷ ys) l e =
    let heads : h (leaf_message x) ≡ h (leaf_message y) = cc in
    let tails : leaves h xs ≡ leaves h ys = cc in
    elim (same_or_not x y) [
      | inr differ ↦ inr (inl (λ (f : leaf_message x ≡ leaf_message y). differ (cc), heads))
      | inl same ↦ elim (leaves_bind h xs ys (omega (arith, l)) tails) [ inl rest ↦ inl (rw (same, rest) refl) | inr c ↦ inr (inr c) ]
    ]
