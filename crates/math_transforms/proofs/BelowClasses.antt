-- Trees of square roots, and values below their places, carried to the classes of a type's own equality and back.
use Rattle.std.proofs.Common.{◌≡◌, ◌∙◌, ℕ, zero, suc, ◌+◌, ◌-◌, ◌*◌, ◌/◌, ◌%◌, ◌<◌, ◌≤◌, ◌^◌, ◌==◌, if◌then◌else◌, Bool, true, false, List, ◌∷◌, ◌++◌, length, map, take, drop, get_or, refl, sym, ap, ap₂, subst, arith}
use Rattle.std.proofs.lemmas.List.{map-append, take-map, drop-map}
use Rattle.math_theory.specs.Laws.{IsEquality, IsGroup, IsProduct, IsRing}
use Rattle.math_theory.specs.OverRing as OverRing
use Rattle.math_theory.specs.Rings.{CommutativeRing}
use Rattle.math_theory.proofs.classes.Classes.{Class, class, class_same, same_class, ring_of_classes}
use Rattle.math_theory.proofs.classes.ClassesOfLists.{coefficient-class, length-classes, power-class, value-class}
use Rattle.math_base.specs.Members.{RingOf}
use Rattle.math_base.specs.Columns.{IsCombined}
use Rattle.math_transforms.specs.DomainValues.{matrix_of}
use Rattle.math_transforms.specs.Matrices.{column_of}
use Rattle.math_base.specs.Columns.{IsTurned}
use Rattle.math_transforms.specs.RootTrees.{AreMultiplesBelow, AreValuesBelow, IsRootTree, class_at, column_value, entry, twos}
use Rattle.math_transforms.proofs.LevelsBelow.{AreMultiplesAt, multiples-level, row-multiples, row-values, values-level}
use Rattle.math_transforms.proofs.PointsBelow.{plain}
use Rattle.math_transforms.proofs.QuartersBelow.{multiples-quarters, values-quarters}
use Rattle.math_transforms.proofs.TurnedCells.{combined-class, turned-class}

module _ {A : Type 0} (R : RingOf A) (E : IsEquality R.same) (G : IsGroup R.same R.zero R.sum R.negative) (P : IsProduct R.same R.product) (L : IsRing R.same R.sum R.product R.one) where
  abbrev C : CommutativeRing (Class E)
  C = ring_of_classes E G P L

  abbrev S : RingOf (Class E)
  S = plain C

  abbrev classes : List A → List (Class E)
  classes xs = map (class E) xs

  entry-class : (xs : List A) (j : ℕ) → entry S (classes xs) j ≡ class E (entry R xs j)
  entry-class xs j = coefficient-class E G P L xs j

  class_at-class : (roots : List A) (j : ℕ) → class_at S (classes roots) j ≡ class E (class_at R roots j)
  class_at-class roots j = signed (j % 2 == 0)
    where
      signed : (b : Bool) → (if b then entry S (classes roots) (j / 2) else C.negative (entry S (classes roots) (j / 2))) ≡ class E (if b then entry R roots (j / 2) else R.negative (entry R roots (j / 2)))
      signed true = entry-class roots (j / 2)
      signed false = ap C.negative (entry-class roots (j / 2))

  pub tree-class : (turn : A) (roots : List A) → IsRootTree R turn roots → IsRootTree S (class E turn) (classes roots)
  tree-class turn roots tree = record {
    first = λ l. entry-class roots 0 ∙ class_same E _ _ (tree.first (omega (arith, l, length-classes E roots)));
    even = λ j l m.
        ap (λ x. C.product x x) (entry-class roots (2 * j)) ∙ class_same E _ _ (tree.even j l (omega (arith, m, length-classes E roots))) ∙ sym (entry-class roots j);
    odd = λ j l m.
        entry-class roots (2 * j + 1) ∙ class_same E _ _ (tree.odd j l (omega (arith, m, length-classes E roots))) ∙ ap (λ x. C.product x (class E turn)) (sym (entry-class roots (2 * j)));
  }

  column-class : (n c k : ℕ) (xs : List A) → column_of C.zero (matrix_of n c (classes xs)) k ≡ classes (column_of R.zero (matrix_of n c xs) k)
  column-class zero c k xs = refl
  column-class (suc n) c k xs =
      ap₂ (λ y ys. y ∷ ys)
      (ap (λ row. get_or row k C.zero) (take-map (class E) c xs) ∙ coefficient-class E G P L (take c xs) k)
      (ap (λ rest. column_of C.zero (matrix_of n c rest) k) (drop-map (class E) c xs) ∙ column-class n c k (drop c xs))

  column_value-class : (lg c k : ℕ) (cells : List A) (x : A) → column_value S lg c (classes cells) k (class E x) ≡ class E (column_value R lg c cells k x)
  column_value-class lg c k cells x = ap (OverRing.value C (class E x)) (column-class (2 ^ lg) c k cells) ∙ value-class E G P L x (column_of R.zero (matrix_of (2 ^ lg) c cells) k)

  twos-class : (n : ℕ) → twos S n ≡ class E (twos R n)
  twos-class n = power-class E G P L (R.sum R.one R.one) n

  values-to : (roots : List A) (lg place c : ℕ) (old new : List A) → AreValuesBelow R roots lg place c old new → AreValuesBelow S (classes roots) lg place c (classes old) (classes new)
  values-to roots lg place c old new h = λ t k b l.
      entry-class new (t * c + k) ∙ class_same E _ _ (h t k b l) ∙ sym (column_value-class lg c k old (class_at R roots (2 ^ lg * place + t)))
      ∙ ap (column_value S lg c (classes old) k) (sym (class_at-class roots (2 ^ lg * place + t)))

  values-from : (roots : List A) (lg place c : ℕ) (old new : List A) → AreValuesBelow S (classes roots) lg place c (classes old) (classes new) → AreValuesBelow R roots lg place c old new
  values-from roots lg place c old new h = λ t k b l.
      same_class E _ _
      (sym (entry-class new (t * c + k)) ∙ h t k b l ∙ ap (column_value S lg c (classes old) k) (class_at-class roots (2 ^ lg * place + t))
      ∙ column_value-class lg c k old (class_at R roots (2 ^ lg * place + t)))

  multiples-to : (x : A) (inverses : List A) (lg place c : ℕ) (old new : List A) → AreMultiplesBelow R inverses lg place c old new
      → AreMultiplesAt C (class E x) (classes inverses) lg place c (classes old) (classes new)
  multiples-to x inverses lg place c old new h = λ t k b l there.
      column_value-class lg c k new x
      ∙ class_same E _ _ (h t k x b l (same_class E _ _ (ap (C.product (class E x)) (sym (class_at-class inverses (2 ^ lg * place + t))) ∙ there)))
      ∙ ap₂ C.product (sym (entry-class old (t * c + k))) (sym (twos-class lg))

  multiples-from : (inverses : List A) (lg place c : ℕ) (old new : List A) → ((x : A) → AreMultiplesAt C (class E x) (classes inverses) lg place c (classes old) (classes new))
      → AreMultiplesBelow R inverses lg place c old new
  multiples-from inverses lg place c old new h = λ t k x b l there.
      same_class E _ _
      (sym (column_value-class lg c k new x)
      ∙ h x t k b l (ap (C.product (class E x)) (class_at-class inverses (2 ^ lg * place + t)) ∙ class_same E _ _ there)
      ∙ ap₂ C.product (entry-class old (t * c + k)) (twos-class lg))

  -- one row
  pub row-values-same : (roots : List A) (lg place c : ℕ) (cells : List A) → lg ≡ 0 → AreValuesBelow R roots lg place c cells cells
  row-values-same roots lg place c cells none = values-from roots lg place c cells cells (row-values C (classes roots) lg place c (classes cells) none)

  pub row-multiples-same : (inverses : List A) (lg place c : ℕ) (cells : List A) → lg ≡ 0 → AreMultiplesBelow R inverses lg place c cells cells
  row-multiples-same inverses lg place c cells none = multiples-from inverses lg place c cells cells (λ x. row-multiples C (class E x) (classes inverses) lg place c (classes cells) none)

  -- cells that are combined or turned, by classes
  combined-item : (forward : Bool) (w : A) (lows highs new_lows new_highs : List A) (j : ℕ) → IsCombined R forward w (entry R lows j) (entry R highs j) (entry R new_lows j) (entry R new_highs j)
      → IsCombined S forward (class E w) (entry S (classes lows) j) (entry S (classes highs) j) (entry S (classes new_lows) j) (entry S (classes new_highs) j)
  combined-item forward w lows highs new_lows new_highs j h =
      rw (entry-class lows j, entry-class highs j, entry-class new_lows j, entry-class new_highs j)
      (combined-class R E G P L forward w (entry R lows j) (entry R highs j) (entry R new_lows j) (entry R new_highs j) h)

  turned-item : (forward : Bool) (e f g : A) (a b c d na nb nc nd : List A) (j : ℕ)
      → IsTurned R forward e f g (entry R a j) (entry R b j) (entry R c j) (entry R d j) (entry R na j) (entry R nb j) (entry R nc j) (entry R nd j)
      → IsTurned S forward (class E e) (class E f) (class E g) (entry S (classes a) j) (entry S (classes b) j) (entry S (classes c) j) (entry S (classes d) j)
      (entry S (classes na) j) (entry S (classes nb) j) (entry S (classes nc) j) (entry S (classes nd) j)
  turned-item forward e f g a b c d na nb nc nd j h =
      rw (entry-class a j, entry-class b j, entry-class c j, entry-class d j, entry-class na j, entry-class nb j, entry-class nc j, entry-class nd j)
      (turned-class R E G P L forward e f g _ _ _ _ _ _ _ _ h)

  two-parts : (p q : List A) → classes (p ++ q) ≡ classes p ++ classes q
  two-parts p q = map-append (class E) p q

  four-parts : (p q r s : List A) → classes ((p ++ q) ++ (r ++ s)) ≡ (classes p ++ classes q) ++ (classes r ++ classes s)
  four-parts p q r s = two-parts (p ++ q) (r ++ s) ∙ ap₂ (λ x y. x ++ y) (two-parts p q) (two-parts r s)

  module _ (turn : A) (roots : List A) (tree : IsRootTree R turn roots)
      (lg place cols : ℕ) (square : 1 < lg → R.same (R.product turn turn) (R.negative R.one)) (one : 1 ≤ place) (within : 2 ^ lg * (place + 1) ≤ 2 * length roots) where
    within-classes : 2 ^ lg * (place + 1) ≤ 2 * length (classes roots)
    within-classes = omega (arith, within, length-classes E roots)

    counted : (xs : List A) (m : ℕ) → length xs ≡ m → length (classes xs) ≡ m
    counted xs m e = length-classes E xs ∙ e

    module _ (some : 0 < lg) (w : A) (is : w ≡ entry R roots place) where
      weight : class E w ≡ entry S (classes roots) place
      weight = ap (class E) is ∙ sym (entry-class roots place)

      -- two halves combined, and then each turned into its values
      pub values-level-same : (low high new_low new_high values_low values_high : List A) → length low ≡ 2 ^ (lg - 1) * cols → length values_low ≡ 2 ^ (lg - 1) * cols
          → ((j : ℕ) → j < 2 ^ (lg - 1) * cols → IsCombined R true w (entry R low j) (entry R high j) (entry R new_low j) (entry R new_high j))
          → AreValuesBelow R roots (lg - 1) (2 * place) cols new_low values_low → AreValuesBelow R roots (lg - 1) (2 * place + 1) cols new_high values_high
          → AreValuesBelow R roots lg place cols (low ++ high) (values_low ++ values_high)
      values-level-same low high new_low new_high values_low values_high count values_count combined first second =
          values-from roots lg place cols (low ++ high) (values_low ++ values_high)
          (rw (two-parts low high, two-parts values_low values_high)
          (values-level C (class E turn) (classes roots) (tree-class turn roots tree) lg place cols (λ l. class_same E _ _ (square l)) some one within-classes
          (classes low) (classes high) (classes new_low) (classes new_high) (counted low _ count) (classes values_low) (classes values_high) (counted values_low _ values_count)
          (λ j m. subst (λ r. IsCombined S true r (entry S (classes low) j) (entry S (classes high) j) (entry S (classes new_low) j) (entry S (classes new_high) j)) weight
          (combined-item true w low high new_low new_high j (combined j m)))
          (values-to roots (lg - 1) (2 * place) cols new_low values_low first) (values-to roots (lg - 1) (2 * place + 1) cols new_high values_high second)))

      -- multiples of two halves, combined on the way back
      pub multiples-level-same : (low high mid_low mid_high new_low new_high : List A) → length low ≡ 2 ^ (lg - 1) * cols → length mid_low ≡ 2 ^ (lg - 1) * cols → length new_low ≡ 2 ^ (lg - 1) * cols
          → ((j : ℕ) → j < 2 ^ (lg - 1) * cols → IsCombined R false w (entry R mid_low j) (entry R mid_high j) (entry R new_low j) (entry R new_high j))
          → AreMultiplesBelow R roots (lg - 1) (2 * place) cols low mid_low → AreMultiplesBelow R roots (lg - 1) (2 * place + 1) cols high mid_high
          → AreMultiplesBelow R roots lg place cols (low ++ high) (new_low ++ new_high)
      multiples-level-same low high mid_low mid_high new_low new_high count mid_count new_count combined first second =
          multiples-from roots lg place cols (low ++ high) (new_low ++ new_high)
          (λ x. rw (two-parts low high, two-parts new_low new_high)
          (multiples-level C (class E turn) (classes roots) (tree-class turn roots tree) lg place cols (λ l. class_same E _ _ (square l)) some one within-classes
          (class E x) (classes low) (classes high) (classes mid_low) (classes mid_high) (classes new_low) (classes new_high) (counted low _ count) (counted new_low _ new_count)
          (λ j m. subst (λ r. IsCombined S false r (entry S (classes mid_low) j) (entry S (classes mid_high) j) (entry S (classes new_low) j) (entry S (classes new_high) j)) weight
          (combined-item false w mid_low mid_high new_low new_high j (combined j m)))
          (multiples-to x roots (lg - 1) (2 * place) cols low mid_low first) (multiples-to x roots (lg - 1) (2 * place + 1) cols high mid_high second)))

    module _ (two : 2 ≤ lg) (e f g : A) (e_is : e ≡ entry R roots (2 * place)) (f_is : f ≡ entry R roots (2 * place + 1)) (g_is : g ≡ entry R roots place)
        (a b c d : List A) (a_count : length a ≡ 2 ^ (lg - 2) * cols) (b_count : length b ≡ 2 ^ (lg - 2) * cols) (c_count : length c ≡ 2 ^ (lg - 2) * cols) (d_count : length d ≡ 2 ^ (lg - 2) * cols) where
      e-class : class E e ≡ entry S (classes roots) (2 * place)
      e-class = ap (class E) e_is ∙ sym (entry-class roots (2 * place))

      f-class : class E f ≡ entry S (classes roots) (2 * place + 1)
      f-class = ap (class E) f_is ∙ sym (entry-class roots (2 * place + 1))

      g-class : class E g ≡ entry S (classes roots) place
      g-class = ap (class E) g_is ∙ sym (entry-class roots place)

      -- four quarters turned, and then each turned into its values
      pub values-quarters-same : (na nb nc nd va vb vc vd : List A) → length va ≡ 2 ^ (lg - 2) * cols → length vb ≡ 2 ^ (lg - 2) * cols → length vc ≡ 2 ^ (lg - 2) * cols
          → ((j : ℕ) → j < 2 ^ (lg - 2) * cols → IsTurned R true e f g (entry R a j) (entry R b j) (entry R c j) (entry R d j) (entry R na j) (entry R nb j) (entry R nc j) (entry R nd j))
          → AreValuesBelow R roots (lg - 2) (2 * (2 * place)) cols na va → AreValuesBelow R roots (lg - 2) (2 * (2 * place) + 1) cols nb vb
          → AreValuesBelow R roots (lg - 2) (2 * (2 * place) + 2) cols nc vc → AreValuesBelow R roots (lg - 2) (2 * (2 * place) + 3) cols nd vd
          → AreValuesBelow R roots lg place cols ((a ++ b) ++ (c ++ d)) ((va ++ vb) ++ (vc ++ vd))
      values-quarters-same na nb nc nd va vb vc vd va_count vb_count vc_count turned first second third fourth =
          values-from roots lg place cols ((a ++ b) ++ (c ++ d)) ((va ++ vb) ++ (vc ++ vd))
          (rw (four-parts a b c d, four-parts va vb vc vd)
          (values-quarters C (class E turn) (class_same E _ _ (square (omega (arith, two)))) (classes roots) (tree-class turn roots tree) lg place cols two one within-classes
          (classes a) (classes b) (classes c) (classes d) (counted a _ a_count) (counted b _ b_count) (counted c _ c_count) (counted d _ d_count)
          (classes na) (classes nb) (classes nc) (classes nd) (classes va) (classes vb) (classes vc) (classes vd) (counted va _ va_count) (counted vb _ vb_count) (counted vc _ vc_count)
          (λ j m. rw (e-class, f-class, g-class) at (turned-item true e f g a b c d na nb nc nd j (turned j m)))
          (values-to roots (lg - 2) (2 * (2 * place)) cols na va first) (values-to roots (lg - 2) (2 * (2 * place) + 1) cols nb vb second)
          (values-to roots (lg - 2) (2 * (2 * place) + 2) cols nc vc third) (values-to roots (lg - 2) (2 * (2 * place) + 3) cols nd vd fourth)))

      -- four quarters of multiples, turned back
      pub multiples-quarters-same : (ma mb mc md na nb nc nd : List A)
          → length ma ≡ 2 ^ (lg - 2) * cols → length mb ≡ 2 ^ (lg - 2) * cols → length mc ≡ 2 ^ (lg - 2) * cols → length md ≡ 2 ^ (lg - 2) * cols
          → length na ≡ 2 ^ (lg - 2) * cols → length nb ≡ 2 ^ (lg - 2) * cols → length nc ≡ 2 ^ (lg - 2) * cols
          → ((j : ℕ) → j < 2 ^ (lg - 2) * cols → IsTurned R false e f g (entry R ma j) (entry R mb j) (entry R mc j) (entry R md j) (entry R na j) (entry R nb j) (entry R nc j) (entry R nd j))
          → AreMultiplesBelow R roots (lg - 2) (2 * (2 * place)) cols a ma → AreMultiplesBelow R roots (lg - 2) (2 * (2 * place) + 1) cols b mb
          → AreMultiplesBelow R roots (lg - 2) (2 * (2 * place) + 2) cols c mc → AreMultiplesBelow R roots (lg - 2) (2 * (2 * place) + 3) cols d md
          → AreMultiplesBelow R roots lg place cols ((a ++ b) ++ (c ++ d)) ((na ++ nb) ++ (nc ++ nd))
      multiples-quarters-same ma mb mc md na nb nc nd ma_count mb_count mc_count md_count na_count nb_count nc_count turned first second third fourth =
          multiples-from roots lg place cols ((a ++ b) ++ (c ++ d)) ((na ++ nb) ++ (nc ++ nd))
          (λ x. rw (four-parts a b c d, four-parts na nb nc nd)
          (multiples-quarters C (class E turn) (class_same E _ _ (square (omega (arith, two)))) (classes roots) (tree-class turn roots tree) lg place cols two one within-classes
          (classes a) (classes b) (classes c) (classes d) (counted a _ a_count) (counted b _ b_count) (counted c _ c_count) (counted d _ d_count)
          (class E x) (classes ma) (classes mb) (classes mc) (classes md) (classes na) (classes nb) (classes nc) (classes nd)
          (counted ma _ ma_count) (counted mb _ mb_count) (counted mc _ mc_count) (counted md _ md_count) (counted na _ na_count) (counted nb _ nb_count) (counted nc _ nc_count)
          (λ j m. rw (e-class, f-class, g-class) at (turned-item false e f g ma mb mc md na nb nc nd j (turned j m)))
          (multiples-to x roots (lg - 2) (2 * (2 * place)) cols a ma first) (multiples-to x roots (lg - 2) (2 * (2 * place) + 1) cols b mb second)
          (multiples-to x roots (lg - 2) (2 * (2 * place) + 2) cols c mc third) (multiples-to x roots (lg - 2) (2 * (2 * place) + 3) cols d md fourth)))
