-- Pairs of cells that are combined, one column after the other.
use Rattle.std.proofs.Common.{◌≡◌, ◌≢◌, ◌∙◌, ℕ, ◌+◌, ◌*◌, ◌<◌, Bool, true, false, eqb, not, List, length, get_or, set, refl, arith}
use Rattle.std.specs.Prelude.{IsTrue}
use Rattle.std.proofs.lemmas.Bool.{eq-eqb, ne_eqb}
use Rattle.std.proofs.lemmas.List.{get_or-set_same, get_or-set_other, length-set}
use Rattle.math_theory.specs.Laws.{IsEquality, IsGroup, IsProduct, IsRing}
use Rattle.math_base.specs.Members.{RingOf}
use Rattle.math_base.specs.Columns.{AreCombinedBelow, IsCombined}

-- a number that stands for a truth value and is not zero stands for true
pub true-from_number : (n : ℕ) → n ≢ 0 → IsTrue (not (eqb n 0))
true-from_number n h = rw (ne_eqb n 0 h) refl

module _ {A : Type 0} (R : RingOf A) where
  module _ (E : IsEquality R.same) (G : IsGroup R.same R.zero R.sum R.negative) where
    -- forward, where the number that stands for it is not zero: b becomes b w, then d is the difference, and s the sum
    pub combined-forward : (n : ℕ) → n ≢ 0 → (w a b c d s : A) → R.same c (R.product b w) → R.same s (R.sum a c) → R.same d (R.sum a (R.negative c)) → IsCombined R (not (eqb n 0)) w a b s d
    combined-forward n h w a b c d s u t v =
        let q : eqb n 0 ≡ false = ne_eqb n 0 h in
        record {
          sum = rw q (E.transitive _ _ _ t (G.respects_sum _ _ _ _ (E.reflexive a) u));
          difference = rw q (E.transitive _ _ _ v (G.respects_sum _ _ _ _ (E.reflexive a) (G.respects_negative _ _ u)));
        }

    module _ (P : IsProduct R.same R.product) where
      -- on the way back, where that number is zero: d is the difference, and then becomes d w
      pub combined-back : (n : ℕ) → n ≡ 0 → (w a b d f s : A) → R.same s (R.sum a b) → R.same d (R.sum a (R.negative b)) → R.same f (R.product d w) → IsCombined R (not (eqb n 0)) w a b s f
      combined-back n h w a b d f s t v u =
          let q : eqb n 0 ≡ true = eq-eqb n 0 h in
          record { sum = rw q t; difference = rw q (E.transitive _ _ _ u (P.respects _ _ _ _ v (E.reflexive w))) }

      -- both ways, where w is one
      pub combined-at_one : IsRing R.same R.sum R.product R.one → (forward : Bool) (w a b d s : A) → R.same w R.one → R.same s (R.sum a b) → R.same d (R.sum a (R.negative b))
          → IsCombined R forward w a b s d
      combined-at_one L forward w a b d s h t v =
          let times : (c : A) → R.same c (R.product c w) = λ c.
          E.symmetric _ _ (E.transitive _ _ _ (P.respects c c w R.one (E.reflexive c) h) (E.transitive _ _ _ (P.commutative c R.one) (L.identity c))) in
          elim forward as (λ f. IsCombined R f w a b s d) [
            | true ↦ record {
              sum = E.transitive _ _ _ t (G.respects_sum _ _ _ _ (E.reflexive a) (times b));
              difference = E.transitive _ _ _ v (G.respects_sum _ _ _ _ (E.reflexive a) (G.respects_negative _ _ (times b)));
            }
            | false ↦ record { sum = t; difference = E.transitive _ _ _ v (times (R.sum a (R.negative b))) }
          ]

  module _ (forward : Bool) (w : A) (c : ℕ) where
    -- the cell at place i
    abbrev at : List A → ℕ → A
    at xs i = get_or xs i R.zero

    -- column p of two rows of c cells is combined, and all other cells are as before
    record IsColumnCombined (p : ℕ) (old new : List A) : Type 0 where
      combined : IsCombined R forward w (at old p) (at old (c + p)) (at new p) (at new (c + p))
      others : (i : ℕ) → i ≢ p → i ≢ c + p → at new i ≡ at old i

    -- and then the next column
    column-more : (n : ℕ) (old mid new : List A) → n < c → AreCombinedBelow R forward w c n old mid → IsColumnCombined n mid new → AreCombinedBelow R forward w c (n + 1) old new
    column-more n old mid new l h k = grind arith

    -- one column, of which both cells are written
    combined-column : (p : ℕ) (old : List A) (a b x y : A) → p < c → length old ≡ 2 * c → a ≡ at old p → b ≡ at old (c + p) → IsCombined R forward w a b x y
        → IsColumnCombined p old (set (set old p x) (c + p) y)
    combined-column p old a b x y l long is_a is_b h = grind (arith, get_or-set_other, get_or-set_same, length-set)

    -- and so with the next column, of which both cells are written
    pub combined-more : (n : ℕ) (old mid : List A) (x y : A) → n < c → length mid ≡ 2 * c → AreCombinedBelow R forward w c n old mid → (a b : A) → a ≡ at mid n → b ≡ at mid (c + n) → IsCombined R forward w a b x y
        → AreCombinedBelow R forward w c (n + 1) old (set (set mid n x) (c + n) y)
    combined-more n old mid x y l long h a b is_a is_b k = column-more n old mid _ l h (combined-column n mid a b x y l long is_a is_b k)
