-- Values that differ still differ where of each key the first pair is kept.
use Rattle.std.proofs.Common.{◌≡◌, ℕ, Bool, true, false, cond, List, [], ◌∷◌, get_or, map, Some, option_map, arith, sym, refl, ap, ◌∙◌}
use Rattle.std.specs.declared.cmp.Ordering.{Ordering}
use Rattle.std.specs.declared.cmp.Ordering.TheVariants.{Less, Equal}
use Rattle.std.specs.Ordering.{is_eq, eq_by_cmp}
use Rattle.std.specs.Cmp.{IsTotalOrder, eq_by_cmp_equiv, tied_itself}
use Rattle.std.specs.List.{AllByRecursion, slice_get}
use Rattle.std.specs.Map.{keys_of, values_of, lookup_entry}
use Rattle.std.proofs.lemmas.Bool.{true≢false}
use Rattle.std.proofs.lemmas.Map.Entries.{length-keys_of, length-values_of}
use Rattle.std.proofs.lemmas.Map.Keys.{IsDistinct-head, IsDistinct-tail, IsDistinct-from_apart, Less-from_sorted}
use Rattle.std.proofs.lemmas.Option.{same_Some, none-some, slice_get-map, get_or_from_slice_get}
use Rattle.math_codec.specs.OrderedMaps.{ValuesDiffer, HasFirstOfEachKey}
use Rattle.math_codec.proofs.SearchedPairs.{with_element, first_at}

module _ {K X : Type 0} (test : K → Bool) (p : X → Bool) where
  head_fails : (b : Bool) (x f : K × X) (xs : List (K × X)) → p x.1 ≡ false → (lookup_entry test xs ≡ Some f → p f.1 ≡ false) → cond b (Some x) (lookup_entry test xs) ≡ Some f → p f.1 ≡ false
  head_fails true x f xs here more at = ap (λ (e : K × X). p e.1) (sym (same_Some x f at)) ∙ here
  head_fails false x f xs here more at = more at

  -- what holds of no value does not hold of the value that is found
  found_fails : (xs : List (K × X)) (f : K × X) → AllByRecursion (λ y. p y ≡ false) (values_of xs) → lookup_entry test xs ≡ Some f → p f.1 ≡ false
  found_fails [] f h at = absurd (none-some f at)
  found_fails (x ∷ xs) f h at = head_fails (test x.0) x f xs h.0 (found_fails xs f h.1) at

module _ {K X : Type 0} {compare : X → X → Ordering} (u : IsTotalOrder compare) (one other : K → Bool) where
  same_head : (b c : Bool) (x e f : K × X) (xs : List (K × X)) → AllByRecursion (λ y. is_eq (compare x.1 y) ≡ false) (values_of xs) → is_eq (compare e.1 f.1) ≡ true
      → (lookup_entry one xs ≡ Some e → lookup_entry other xs ≡ Some f → e ≡ f)
      → cond b (Some x) (lookup_entry one xs) ≡ Some e → cond c (Some x) (lookup_entry other xs) ≡ Some f → e ≡ f
  same_head true true x e f xs apart same more p q = sym (same_Some x e p) ∙ same_Some x f q
  same_head true false x e f xs apart same more p q =
      absurd (true≢false (sym same ∙ ap (λ (y : K × X). is_eq (compare y.1 f.1)) (sym (same_Some x e p)) ∙ found_fails other (λ y. is_eq (compare x.1 y)) xs f apart q))
  same_head false true x e f xs apart same more p q =
      absurd (true≢false (sym same ∙ (eq_by_cmp_equiv u).symm e.1 f.1 ∙ ap (λ (y : K × X). is_eq (compare y.1 e.1)) (sym (same_Some x f q))
      ∙ found_fails one (λ y. is_eq (compare x.1 y)) xs e apart p))
  same_head false false x e f xs apart same more p q = more p q

  -- two pairs that are found, with equal values, are one
  same_pair : (xs : List (K × X)) (e f : K × X) → ValuesDiffer compare xs → is_eq (compare e.1 f.1) ≡ true → lookup_entry one xs ≡ Some e → lookup_entry other xs ≡ Some f → e ≡ f
  same_pair [] e f differ same p q = absurd (none-some e p)
  same_pair (x ∷ xs) e f differ same p q =
      same_head (one x.0) (other x.0) x e f xs (IsDistinct-head (eq_by_cmp compare) x.1 (values_of xs) differ) same
      (same_pair xs e f (IsDistinct-tail (eq_by_cmp compare) x.1 (values_of xs) differ) same) p q

at_field : {A B : Type 0} (f : A → B) (es : List A) (i : ℕ) (d : B) (e : A) → slice_get es i ≡ Some e → get_or (map f es) i d ≡ f e
at_field f es i d e at = get_or_from_slice_get (map f es) i (f e) d (slice_get-map f es i ∙ ap (option_map f) at)

apart_or : (b : Bool) → (b ≡ true → ⊥) → b ≡ false
apart_or true differ = absurd (differ refl)
apart_or false differ = refl

pub values_differ_kept : {K X : Type 0} {cmp : K → K → Ordering} {compare : X → X → Ordering} → IsTotalOrder cmp → IsTotalOrder compare
    → (xs es : List (K × X)) → ValuesDiffer compare xs → HasFirstOfEachKey cmp xs es → ValuesDiffer compare es
values_differ_kept {K} {X} {cmp} {compare} o u xs es differ has =
    let long = length-values_of es in
    let wide = length-keys_of es in
    IsDistinct-from_apart (eq_by_cmp compare) (values_of es) (λ i j d lt below.
    with_element es i (omega arith) (λ e at_e.
    with_element es j (omega arith) (λ f at_f.
    ap (λ y. is_eq (compare y (get_or (values_of es) j d))) (at_field (λ (p : K × X). p.1) es i d e at_e)
    ∙ ap (λ y. is_eq (compare e.1 y)) (at_field (λ (p : K × X). p.1) es j d f at_f)
    ∙ apart_or (is_eq (compare e.1 f.1)) (λ same.
    let one : e ≡ f = same_pair u (λ k. is_eq (cmp e.0 k)) (λ k. is_eq (cmp f.0 k)) xs e f differ same
    (sym (has.1 e.0) ∙ first_at o es i e has.0 at_e) (sym (has.1 f.0) ∙ first_at o es j f has.0 at_f) in
    let less : cmp e.0 f.0 ≡ Less = ap (λ k. cmp k f.0) (sym (at_field (λ (p : K × X). p.0) es i e.0 e at_e))
    ∙ ap (cmp (get_or (keys_of es) i e.0)) (sym (at_field (λ (p : K × X). p.0) es j e.0 f at_f)) ∙ Less-from_sorted cmp (keys_of es) i j e.0 has.0 lt (omega arith) in
    let equal : cmp e.0 f.0 ≡ Equal = ap (λ (p : K × X). cmp e.0 p.0) (sym one) ∙ tied_itself o e.0 in
    true≢false (sym (ap is_eq equal) ∙ ap is_eq less)))))
