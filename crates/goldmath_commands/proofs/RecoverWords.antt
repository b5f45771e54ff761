-- The words of the command `recover LG ROW..`.
use Rattle.std.proofs.Common.{◌≡◌, ◌≢◌, ℕ, zero, suc, ◌+◌, ◌<◌, ◌≤◌, ◌^◌, List, [], ◌∷◌, ◌++◌, length, get_or, map, take, drop, codes, All, add-one, sym, refl, ap, ap₂, ◌∙◌, subst, arith}
use Rattle.std.specs.List.{AllZip, AllPairs}
use Rattle.std.proofs.lemmas.List.Elements.{All-nil, All-cons}
use Rattle.goldmath_commands.specs.Numerals.{WritesNumber, WritesRow}
use Rattle.goldmath_commands.specs.Recoveries.{AreRecoverWords}

-- one more item, beside what is made of the next word
pub written_more : {W A B : Type 0} (R : A → B → Type 0) (text_of : W → A) (words : List W) (ys : List B) (i : ℕ) (w : W) (y : B) → i < length words → w ≡ get_or words i w
    → AllZip R (map text_of (take i words)) ys → R (text_of w) y → AllZip R (map text_of (take (i + 1) words)) (ys ++ y ∷ [])
written_more R text_of [] ys i w y l e h r = absurd (omega arith)
written_more R text_of (v ∷ words) [] zero w y l e h r = (subst (λ x. R (text_of x) y) e r, tt)
written_more R text_of (v ∷ words) (x ∷ ys) zero w y l e h r = elim h [ ]
written_more R text_of (v ∷ words) [] (suc i) w y l e h r = elim h [ ]
written_more R text_of (v ∷ words) (x ∷ ys) (suc i) w y l e h r = rw add-one (h.0, rw add-one at (written_more R text_of words ys i w y (omega arith) e h.1 r))

-- each word has its item
pub written_at : {W A B : Type 0} (R : A → B → Type 0) (text_of : W → A) (words : List W) (ys : List B) (i : ℕ) (w : W) → i < length words → w ≡ get_or words i w
    → AllZip R (map text_of words) ys → (y : B) × R (text_of w) y
written_at R text_of [] ys i w l e h = absurd (omega arith)
written_at R text_of (v ∷ words) [] i w l e h = elim h [ ]
written_at R text_of (v ∷ words) (y ∷ ys) zero w l e h = (y, subst (λ x. R (text_of x) y) (sym e) h.0)
written_at R text_of (v ∷ words) (y ∷ ys) (suc i) w l e h = written_at R text_of words ys i w (omega arith) e h.1

-- words write one list of rows
pub rows_once : (lg : ℕ) (texts : List (List ℕ)) (xs ys : List ℕ) → AllZip (WritesRow lg) texts xs → AllZip (WritesRow lg) texts ys → xs ≡ ys
rows_once lg [] [] [] h k = refl
rows_once lg [] [] (y ∷ ys) h k = elim k [ ]
rows_once lg [] (x ∷ xs) ys h k = elim h [ ]
rows_once lg (t ∷ texts) [] ys h k = elim h [ ]
rows_once lg (t ∷ texts) (x ∷ xs) [] h k = elim k [ ]
rows_once lg (t ∷ texts) (x ∷ xs) (y ∷ ys) h k = ap₂ (λ a rest. a ∷ rest) (sym h.0.number.value ∙ k.0.number.value) (rows_once lg texts xs ys h.1 k.1)

-- a list of two items or more by its first two and the others
two_and_more : {W : Type 0} (words : List W) (a b : W) → 2 ≤ length words → a ≡ get_or words 0 a → b ≡ get_or words 1 b → words ≡ a ∷ b ∷ drop 2 words
two_and_more [] a b l e f = absurd (omega (arith, l))
two_and_more (v ∷ []) a b l e f = absurd (omega (arith, l))
two_and_more (v ∷ w ∷ words) a b l e f = ap₂ (λ x y. x ∷ y ∷ words) (sym e) (sym f)

-- what is made of the words of the command
pub recover_words : {W : Type 0} (text_of : W → List ℕ) (words : List W) (a b : W) → 2 ≤ length words → a ≡ get_or words 0 a → b ≡ get_or words 1 b → text_of a ≡ codes "recover"
    → (lg : ℕ) (rows : List ℕ) → WritesNumber (text_of b) lg → lg ≤ 24 → AllZip (WritesRow lg) (map text_of (drop 2 words)) rows → AllPairs (λ i j. i ≢ j) rows
    → AreRecoverWords (map text_of words) lg rows
recover_words text_of words a b l e f command lg rows size small each distinct = record {
  text = text_of b;
  texts = map text_of (drop 2 words);
  command = ap (map text_of) (two_and_more words a b l e f) ∙ ap (λ x. x ∷ text_of b ∷ map text_of (drop 2 words)) command;
  size = size;
  small = small;
  each = each;
  distinct = distinct;
}

-- rows that words write are below 2^lg
pub rows_below : (lg : ℕ) (texts : List (List ℕ)) (rows : List ℕ) → AllZip (WritesRow lg) texts rows → All (λ row. row < 2 ^ lg) rows
rows_below lg [] [] h = All-nil (λ row. row < 2 ^ lg)
rows_below lg [] (x ∷ rows) h = elim h [ ]
rows_below lg (t ∷ texts) [] h = elim h [ ]
rows_below lg (t ∷ texts) (x ∷ rows) h = All-cons (λ row. row < 2 ^ lg) x rows h.0.below_size (rows_below lg texts rows h.1)
