-- Lists whose comparison answers that they are equal.
use Rattle.std.proofs.Common.{◌≡◌, ◌∙◌, sym, ap, true, false, refl, List, [], ◌∷◌}
use Rattle.std.specs.Cmp.Lexicographic.{slice_cmp}
use Rattle.std.specs.List.{AllZip}
use Rattle.std.specs.Ordering.{ordering_then, is_ne}
use Rattle.std.specs.declared.cmp.Ordering.{Ordering}
use Rattle.std.specs.declared.cmp.Ordering.TheVariants.{Less, Equal, Greater}

module _ {I : Type 0} (cmp : I → I → Ordering) where
  -- the first part of a comparison in turn
  both_equal : (o p : Ordering) → ordering_then o p ≡ Equal → (o ≡ Equal) × (p ≡ Equal)
  both_equal Less p e = absurd (cc e)
  both_equal Equal p e = (refl, e)
  both_equal Greater p e = absurd (cc e)

  pub AllZip-from_slice_cmp : (ks ls : List I) → slice_cmp cmp ks ls ≡ Equal → AllZip (λ k l. cmp k l ≡ Equal) ks ls
  AllZip-from_slice_cmp [] [] e = tt
  AllZip-from_slice_cmp [] (l ∷ ls) e = absurd (cc e)
  AllZip-from_slice_cmp (k ∷ ks) [] e = absurd (cc e)
  AllZip-from_slice_cmp (k ∷ ks) (l ∷ ls) e =
      let parts : (cmp k l ≡ Equal) × (slice_cmp cmp ks ls ≡ Equal) = both_equal (cmp k l) (slice_cmp cmp ks ls) e in
      (parts.0, AllZip-from_slice_cmp ks ls parts.1)

  pub slice_cmp-from_AllZip : (ks ls : List I) → AllZip (λ k l. cmp k l ≡ Equal) ks ls → slice_cmp cmp ks ls ≡ Equal
  slice_cmp-from_AllZip [] [] h = refl
  slice_cmp-from_AllZip [] (l ∷ ls) h = absurd h
  slice_cmp-from_AllZip (k ∷ ks) [] h = absurd h
  slice_cmp-from_AllZip (k ∷ ks) (l ∷ ls) h = rw (h.0, slice_cmp-from_AllZip ks ls h.1) refl

  equal_from_is_ne : (o : Ordering) → is_ne o ≡ false → o ≡ Equal
  equal_from_is_ne Less e = absurd (cc e)
  equal_from_is_ne Equal e = refl
  equal_from_is_ne Greater e = absurd (cc e)

  -- the comparison answers that they differ
  pub differing_keys : (ks ls : List I) (o : Ordering) → o ≡ slice_cmp cmp ks ls → is_ne o ≡ true → ¬ (AllZip (λ k l. cmp k l ≡ Equal) ks ls)
  differing_keys ks ls o e t h =
      let f : is_ne o ≡ false = ap is_ne (e ∙ slice_cmp-from_AllZip ks ls h) in
      absurd (cc (f, t))

  -- or that they are equal
  pub equal_keys : (ks ls : List I) (o : Ordering) → o ≡ slice_cmp cmp ks ls → is_ne o ≡ false → AllZip (λ k l. cmp k l ≡ Equal) ks ls
  equal_keys ks ls o e f = AllZip-from_slice_cmp ks ls (sym e ∙ equal_from_is_ne o f)
