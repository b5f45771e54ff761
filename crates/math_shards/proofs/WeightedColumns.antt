-- Polynomials whose coefficients are weighted sums of the same items: where the columns of the weights have the values one and zero, the value is one of the items.
use Rattle.std.proofs.Common.{◌≡◌, ◌≢◌, ℕ, suc, ◌<◌, List, [], ◌∷◌, length, map, get_or, refl, sym, ◌∙◌, ap, ap₂, arith}
use Rattle.std.specs.List.{range_with_len}
use Rattle.std.proofs.lemmas.List.FromFn.{get_or-map-range_with_len, length-map-range_with_len}
use Rattle.math_theory.specs.OverRing as OverRing
use Rattle.math_theory.specs.Rings.{CommutativeRing}
use Rattle.math_theory.proofs.polynomials.Values.{value-cons}
use Rattle.math_theory.proofs.rings.Normal.{ring, ◌⊕◌, ◌⊗◌, 𝟘, v0, v1, v2, v3, v4, v5}
use Rattle.math_theory.proofs.rings.WeightedSumLaws.{weighted_sum-all_zero, weighted_sum-one_at}

-- column i of rows; d stands for an item that is not there
abbrev pub column_at : {A : Type 0} → A → List (List A) → ℕ → List A
column_at d rows i = map (λ row. get_or row i d) rows

-- each row has n items
abbrev pub HaveLength : {A : Type 0} → ℕ → List (List A) → Type 0
HaveLength n rows = (k : ℕ) → k < length rows → length (get_or rows k []) ≡ n

module _ {A : Type 0} (R : CommutativeRing A) where
  open R use {sum, product}

  -- weights that are place by place the sum of one list and a multiple of another: so is the weighted sum
  weighted_sum-combined : (x : A) (xs vs us ws : List A) → length vs ≡ length xs → length us ≡ length xs → length ws ≡ length xs
      → ((i : ℕ) → i < length xs → get_or vs i R.zero ≡ sum (get_or us i R.zero) (product x (get_or ws i R.zero)))
      → OverRing.weighted_sum R xs vs ≡ sum (OverRing.weighted_sum R xs us) (product x (OverRing.weighted_sum R xs ws))
  weighted_sum-combined x [] vs us ws l m n h = ring R (x ∷ []) 𝟘 (𝟘 ⊕ (v0 ⊗ 𝟘)) refl
  weighted_sum-combined x (p ∷ xs) [] us ws l m n h = absurd (omega (arith, l))
  weighted_sum-combined x (p ∷ xs) (v ∷ vs) [] ws l m n h = absurd (omega (arith, m))
  weighted_sum-combined x (p ∷ xs) (v ∷ vs) (u ∷ us) [] l m n h = absurd (omega (arith, n))
  weighted_sum-combined x (p ∷ xs) (v ∷ vs) (u ∷ us) (w ∷ ws) l m n h =
      ap₂ sum (ap (product p) (h 0 (omega arith)))
      (weighted_sum-combined x xs vs us ws (omega (arith, l)) (omega (arith, m)) (omega (arith, n)) (λ i b. h (suc i) (omega arith)))
      ∙ ring R (p ∷ u ∷ w ∷ x ∷ OverRing.weighted_sum R xs us ∷ OverRing.weighted_sum R xs ws ∷ [])
      ((v0 ⊗ (v1 ⊕ (v3 ⊗ v2))) ⊕ (v4 ⊕ (v3 ⊗ v5))) (((v0 ⊗ v1) ⊕ v4) ⊕ (v3 ⊗ ((v0 ⊗ v2) ⊕ v5))) refl

  -- the value at x of column i of the rows
  abbrev value_of_column : A → List (List A) → ℕ → A
  value_of_column x rows i = OverRing.value R x (column_at R.zero rows i)

  -- the values at x of the first n columns
  abbrev values_of_columns : A → List (List A) → ℕ → List A
  values_of_columns x rows n = map (value_of_column x rows) (range_with_len 0 n)

  values-at : (x : A) (rows : List (List A)) (n i : ℕ) → i < n → get_or (values_of_columns x rows n) i R.zero ≡ value_of_column x rows i
  values-at x rows n i l = get_or-map-range_with_len (value_of_column x rows) 0 n i i R.zero l (omega arith)

  values-count : (x : A) (rows : List (List A)) (n : ℕ) → length (values_of_columns x rows n) ≡ n
  values-count x rows n = length-map-range_with_len (value_of_column x rows) 0 n

  -- the weighted sums by each row, as coefficients, have as value the weighted sum of the values of the columns
  value-of_sums : (x : A) (xs : List A) (rows : List (List A)) → HaveLength (length xs) rows
      → OverRing.value R x (map (λ row. OverRing.weighted_sum R xs row) rows) ≡ OverRing.weighted_sum R xs (values_of_columns x rows (length xs))
  value-of_sums x xs [] h =
      sym (weighted_sum-all_zero R xs (values_of_columns x [] (length xs)) (λ i l. values-at x [] (length xs) i (omega (arith, l, values-count x [] (length xs)))))
  value-of_sums x xs (row ∷ rows) h =
      let n = length xs in
      value-cons R x (OverRing.weighted_sum R xs row) (map (λ r. OverRing.weighted_sum R xs r) rows)
      ∙ ap (λ v. sum (OverRing.weighted_sum R xs row) (product x v)) (value-of_sums x xs rows (λ k l. h (suc k) (omega arith)))
      ∙ sym (weighted_sum-combined x xs (values_of_columns x (row ∷ rows) n) row (values_of_columns x rows n)
      (values-count x (row ∷ rows) n) (h 0 (omega arith)) (values-count x rows n)
      (λ i l. values-at x (row ∷ rows) n i l ∙ value-cons R x (get_or row i R.zero) (column_at R.zero rows i)
      ∙ ap (λ v. sum (get_or row i R.zero) (product x v)) (sym (values-at x rows n i l))))

  -- where the value of column t is one and those of the others are zero, it is item t
  pub value-at_place : (x : A) (xs : List A) (rows : List (List A)) (t : ℕ) → HaveLength (length xs) rows → t < length xs → value_of_column x rows t ≡ R.one
      → ((i : ℕ) → i < length xs → i ≢ t → value_of_column x rows i ≡ R.zero)
      → OverRing.value R x (map (λ row. OverRing.weighted_sum R xs row) rows) ≡ get_or xs t R.zero
  value-at_place x xs rows t h l e z = grind (arith, values-count, value-of_sums, weighted_sum-one_at, values-at)
