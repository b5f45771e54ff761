-- A map's list of pairs against the lists of its keys and of its values.
use Rattle.std.proofs.Common.{◌≡◌, List, [], ◌∷◌, ◌++◌, length, sym, refl, ap, ◌∙◌, append-nil}
use Rattle.std.specs.List.{zip}
use Rattle.std.specs.Map.{keys_of, values_of}
use Rattle.std.proofs.lemmas.Map.Made.{keys_of-zip}
use Rattle.std.proofs.lemmas.Map.Entries.{length-keys_of}
use Rattle.std.proofs.lemmas.Slice.Zip.{seconds-zip}

module _ {K X : Type 0} where
  pub zip_of_parts : (es : List (K × X)) → zip (keys_of es) (values_of es) ≡ es
  zip_of_parts [] = refl
  zip_of_parts (e ∷ es) = ap (λ l. e ∷ l) (zip_of_parts es)

  -- the keys and values that were put away, once no pair is left
  pub zip_of_all : (ks : List K) (vs : List X) (rest es : List (K × X)) → ks ++ keys_of rest ≡ keys_of es → vs ++ values_of rest ≡ values_of es → rest ≡ [] → zip ks vs ≡ es
  zip_of_all ks vs rest es p q none =
      let k : ks ≡ keys_of es = sym (append-nil ks) ∙ ap (λ r. ks ++ keys_of r) (sym none) ∙ p in
      let v : vs ≡ values_of es = sym (append-nil vs) ∙ ap (λ r. vs ++ values_of r) (sym none) ∙ q in
      ap (λ l. zip l vs) k ∙ ap (zip (keys_of es)) v ∙ zip_of_parts es

  module _ (ks : List K) (vs : List X) (m : List (K × X)) (same : length vs ≡ length ks) (is : zip ks vs ≡ m) where
    pub keys_of_view : ks ≡ keys_of m
    keys_of_view = sym (keys_of-zip ks vs same) ∙ ap keys_of is

    pub values_of_view : vs ≡ values_of m
    values_of_view = sym (seconds-zip ks vs same) ∙ ap values_of is

    pub length_of_view : length ks ≡ length m
    length_of_view = ap length keys_of_view ∙ length-keys_of m
