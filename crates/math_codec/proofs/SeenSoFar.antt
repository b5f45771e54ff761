-- Keys or values that were seen, with one more.
use Rattle.std.proofs.Common.{◌≡◌, ℕ, ◌+◌, ◌<◌, Bool, true, false, cond, ◌||◌, List, [], ◌∷◌, ◌++◌, length, take, drop, get_or, sym, refl, ap, ◌∙◌, subst, append_assoc}
use Rattle.std.specs.declared.cmp.Ordering.{Ordering}
use Rattle.std.specs.Ordering.{is_eq, eq_by_cmp}
use Rattle.std.specs.Cmp.{IsTotalOrder, eq_by_cmp_equiv}
use Rattle.std.specs.List.{IsDistinct, list_any}
use Rattle.std.specs.Map.{keys_of, values_of}
use Rattle.std.proofs.lemmas.List.{take_more, take-append-drop, map-append}
use Rattle.std.proofs.lemmas.Map.Keys.{IsDistinct-push}

module _ {K : Type 0} {cmp : K → K → Ordering} (o : IsTotalOrder cmp) where
  any_push : (test : K → Bool) (xs : List K) (k : K) → list_any test (xs ++ k ∷ []) ≡ cond (test k) true (list_any test xs)
  any_push test [] k = tail (test k)
    where
      tail : (b : Bool) → b || false ≡ cond b true false
      tail true = refl
      tail false = refl
  any_push test (x ∷ xs) k = ap (λ b. test x || b) (any_push test xs k) ∙ either (test x) (test k) (list_any test xs)
    where
      either : (a b c : Bool) → a || cond b true c ≡ cond b true (a || c)
      either true true c = refl
      either true false c = refl
      either false b c = refl

  -- whether q is among what was seen and one more
  pub seen_more : (xs ys : List K) (q k : K) (before after : Bool) → ys ≡ xs ++ k ∷ [] → before ≡ list_any (λ x. is_eq (cmp q x)) xs
      → after ≡ cond (is_eq (cmp k q)) true before → after ≡ list_any (λ x. is_eq (cmp q x)) ys
  seen_more xs ys q k before after more was is =
      is ∙ ap (λ b. cond b true before) ((eq_by_cmp_equiv o).symm k q) ∙ ap (cond (is_eq (cmp q k)) true) was
      ∙ sym (any_push (λ x. is_eq (cmp q x)) xs k) ∙ ap (list_any (λ x. is_eq (cmp q x))) (sym more)

  pub differ_more : (xs ys : List K) (k : K) → ys ≡ xs ++ k ∷ [] → IsDistinct (eq_by_cmp cmp) xs → list_any (λ x. is_eq (cmp k x)) xs ≡ false → IsDistinct (eq_by_cmp cmp) ys
  differ_more xs ys k more differ new = subst (IsDistinct (eq_by_cmp cmp)) (sym more) (IsDistinct-push (eq_by_cmp_equiv o) xs k differ new)

module _ {I V : Type 0} (ps : List (I × V)) (i : ℕ) (p : I × V) where
  pub taken_more : i < length ps → p ≡ get_or ps i p → take (i + 1) ps ≡ take i ps ++ p ∷ []
  taken_more below at = take_more ps i p below ∙ ap (λ x. take i ps ++ x ∷ []) (sym at)

  pub key_taken : take (i + 1) ps ≡ take i ps ++ p ∷ [] → keys_of (take (i + 1) ps) ≡ keys_of (take i ps) ++ p.0 ∷ []
  key_taken more = ap keys_of more ∙ map-append (λ (x : I × V). x.0) (take i ps) (p ∷ [])

  pub value_taken : take (i + 1) ps ≡ take i ps ++ p ∷ [] → values_of (take (i + 1) ps) ≡ values_of (take i ps) ++ p.1 ∷ []
  value_taken more = ap values_of more ∙ map-append (λ (x : I × V). x.1) (take i ps) (p ∷ [])

  pub taken_before : i < length ps → p ≡ get_or ps i p → ps ≡ take i ps ++ p ∷ drop (i + 1) ps
  taken_before below at =
      sym (take-append-drop (i + 1) ps) ∙ ap (λ l. l ++ drop (i + 1) ps) (taken_more below at) ∙ append_assoc (take i ps) (p ∷ []) (drop (i + 1) ps)
