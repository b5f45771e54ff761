-- Rows below a place of a tree of square roots: values and multiples of all of them from a step of one or two levels and those of its parts.
use Rattle.std.proofs.Common.{◌≡◌, ◌∙◌, ℕ, zero, suc, ◌+◌, ◌-◌, ◌*◌, ◌<◌, ◌≤◌, ◌^◌, Bool, true, false, if◌then◌else◌, List, ◌++◌, length, drop, refl, sym, ap, ap₂, subst, arith}
use Rattle.std.proofs.lemmas.List.{drop_all}
use Rattle.std.proofs.lemmas.Nat.{mul-le, pow-add, pow_pos}
use Rattle.math_theory.specs.Laws.{IsEquality, IsField, IsGroup, IsProduct, IsRing}
use Rattle.math_theory.specs.RootLaws.{HasRootsOfUnity}
use Rattle.math_base.specs.Members.{RingOf}
use Rattle.math_base.specs.Columns.{AreSixteenTurned, IsCombined, IsTurned, IsTurnedByTree}
use Rattle.math_transforms.specs.CombinedCells.{AreCombined}
use Rattle.math_transforms.specs.Quarters.{AreTurned}
use Rattle.math_transforms.specs.RootTrees.{AreMultiplesBelow, ArePoints, AreValuesBelow, IsRootTree, entry}
use Rattle.math_transforms.specs.StepsBelow.{AreStepped, AreSteppedBelow, AreTransformed, AreTransformedBelow}
use Rattle.math_transforms.specs.declared.points_below.Points.{Points}
use Rattle.math_transforms.proofs.BelowClasses.{multiples-level-same, multiples-quarters-same, row-multiples-same, row-values-same, values-level-same, values-quarters-same}
use Rattle.math_transforms.proofs.BelowSteps.{either_turn-square, one_level}
use Rattle.math_transforms.proofs.ListParts.{ArePartsDone, four-parts, part, part-item, part-length, two-parts}

-- sizes and counts of a step of some levels below a place, where 2^lg rows of c cells are n cells
pub record StepCounts (lg levels place c long n : ℕ) : Type 0 where
  pub cells : n ≡ 2 ^ levels * (2 ^ (lg - levels) * c)
  pub count : c * 2 ^ lg * lg ≡ 2 ^ levels * (c * 2 ^ (lg - levels) * (lg - levels)) + levels * n
  pub children : (k : ℕ) → k < 2 ^ levels → 2 ^ (lg - levels) * (2 ^ levels * place + k + 1) ≤ 2 * long
  pub inside : 2 ^ levels * (place + 1) ≤ 2 * long
  pub deeper : levels < lg → 2 ^ levels * (place + 1) ≤ long

count-of_parts : (c m b l i : ℕ) → c * (m * b) * (l + i) ≡ b * (c * m * l) + i * (m * b * c)
count-of_parts c m b l i = omega arith

pub step-counts : (lg levels place c long n : ℕ) → levels ≤ lg → 2 ^ lg * (place + 1) ≤ 2 * long → n ≡ 2 ^ lg * c → StepCounts lg levels place c long n
step-counts lg levels place c long n deep within size =
    let m = 2 ^ (lg - levels) in
    let b = 2 ^ levels in
    let up : lg ≡ (lg - levels) + levels = omega (arith, deep) in
    let all : 2 ^ lg ≡ m * b = ap (λ i. 2 ^ i) up ∙ pow-add 2 (lg - levels) levels in
    let rows : 2 ^ lg * (place + 1) ≡ m * (b * place + b) = ap (λ i. i * (place + 1)) all ∙ omega arith in
    record {
      cells = size ∙ ap (λ i. i * c) all ∙ omega arith;
      count = ap (λ i. c * 2 ^ lg * i) up ∙ ap (λ i. c * i * ((lg - levels) + levels)) all ∙ count-of_parts c m b (lg - levels) levels
          ∙ ap (λ i. b * (c * m * (lg - levels)) + levels * i) (sym (size ∙ ap (λ i. i * c) all));
      children = λ k l.
          let less : m * (b * place + k + 1) ≤ m * (b * place + b) = mul-le m (b * place + k + 1) m (b * place + b) (omega arith) (omega (arith, l)) in
          omega (arith, less, rows, within);
      inside =
          let least : 1 * (b * place + b) ≤ m * (b * place + b) = mul-le 1 (b * place + b) m (b * place + b) (pow_pos (lg - levels)) (omega arith) in
          let spread : b * (place + 1) ≡ b * place + b = omega arith in
          omega (arith, least, rows, within, spread);
      deeper = λ l.
          let next : lg - levels ≡ (lg - levels - 1) + 1 = omega (arith, l) in
          let twice : m ≡ 2 ^ (lg - levels - 1) * 2 = ap (λ i. 2 ^ i) next ∙ pow-add 2 (lg - levels - 1) 1 in
          let some : 0 < 2 ^ (lg - levels - 1) = pow_pos (lg - levels - 1) in
          let more : 2 * (b * place + b) ≤ m * (b * place + b) = mul-le 2 (b * place + b) m (b * place + b) (omega (arith, twice, some)) (omega arith) in
          let spread : b * (place + 1) ≡ b * place + b = omega arith in
          omega (arith, more, rows, within, spread);
    }

-- a step of i levels, of parts of m c cells
pub record StepAt (i levels place part long n : ℕ) : Type 0 where
  pub cells : n ≡ 2 ^ i * part
  pub count : levels * n ≡ i * n
  pub inside : 2 ^ i * (place + 1) ≤ 2 * long

pub step-at : (i lg levels place c long n m : ℕ) → levels ≡ i → levels ≤ lg → 2 ^ lg * (place + 1) ≤ 2 * long → n ≡ 2 ^ lg * c → m ≡ 2 ^ (lg - levels) → StepAt i levels place (m * c) long n
step-at i lg levels place c long n m is deep within size m_is =
    let h = step-counts lg levels place c long n deep within size in
    record {
      cells = h.cells ∙ ap₂ (λ j k. 2 ^ j * (k * c)) is (sym m_is);
      count = ap (λ j. j * n) is;
      inside = subst (λ j. 2 ^ j * (place + 1) ≤ 2 * long) is h.inside;
    }

-- A step before the parts, the parts, each of s cells and so many steps, and the rest of the step behind them: where the parts lie, and what
-- all count.
pub record Cut (lg levels first parts s place c long n steps : ℕ) : Type 0 where
  pub deep : levels ≤ lg
  pub one : s ≤ n
  pub rows : s ≡ 2 ^ (lg - levels) * c
  pub inside : parts * place + parts ≤ long
  pub cells : (k : ℕ) → k < parts → k * s + s ≤ n
  pub upto : (k : ℕ) → k < parts → first * n + k * steps + steps ≤ c * 2 ^ lg * lg
  pub total : first * n + parts * steps + (levels - first) * n ≡ c * 2 ^ lg * lg

pub cut : (lg levels first parts m place c long n : ℕ) → levels ≤ 2 → 2 < lg → first ≤ levels → parts ≡ 2 ^ levels → m ≡ 2 ^ (lg - levels)
    → 2 ^ lg * (place + 1) ≤ 2 * long → n ≡ 2 ^ lg * c → Cut lg levels first parts (m * c) place c long n (c * 2 ^ (lg - levels) * (lg - levels))
cut lg levels first parts m place c long n few many most parts_is m_is within size =
    let deep : levels ≤ lg = omega (arith, few, many) in
    let h = step-counts lg levels place c long n deep within size in
    let s = m * c in
    let steps = c * 2 ^ (lg - levels) * (lg - levels) in
    let whole : n ≡ parts * s = h.cells ∙ ap₂ (λ i j. i * (j * c)) (sym parts_is) (sym m_is) in
    let all : c * 2 ^ lg * lg ≡ parts * steps + levels * n = h.count ∙ ap (λ i. i * steps + levels * n) (sym parts_is) in
    let split : levels ≡ first + (levels - first) = omega (arith, most) in
    let both : levels * n ≡ first * n + (levels - first) * n = ap (λ i. i * n) split ∙ omega arith in
    let least : 1 * s ≤ parts * s = mul-le 1 s parts s (omega (arith, parts_is, pow_pos levels)) (omega arith) in
    let inside : parts * (place + 1) ≤ long = rw parts_is (h.deeper (omega (arith, few, many))) in
    let up = λ (k x : ℕ) (l : k < parts). mul-le (k + 1) x parts x (omega (arith, l)) (omega arith) in
    let next = λ (k x : ℕ). let e : (k + 1) * x ≡ k * x + x = omega arith in e in
    record {
      deep = deep;
      one = omega (arith, whole, least);
      rows = ap (λ i. i * c) m_is;
      inside = let e : parts * (place + 1) ≡ parts * place + parts = omega arith in omega (arith, inside, e);
      cells = λ k l. omega (arith, up k s l, next k s, whole);
      upto = λ k l. omega (arith, up k steps l, next k steps, all, both);
      total = omega (arith, all, both);
    }

module _ {A : Type 0} (R : RingOf A) (E : IsEquality R.same) (G : IsGroup R.same R.zero R.sum R.negative) (P : IsProduct R.same R.product) (L : IsRing R.same R.sum R.product R.one)
    (turn : A) (roots : List A) (tree : IsRootTree R turn roots) (cols : ℕ) where
  abbrev below : Bool → ℕ → ℕ → List A → List A → Type 0
  below forward lg place old new = AreTransformedBelow R forward roots lg place cols old new

  -- one row
  pub row-same : (forward : Bool) (lg place : ℕ) (xs : List A) → lg ≡ 0 → below forward lg place xs xs
  row-same true lg place xs none = row-values-same R E G P L roots lg place cols xs none
  row-same false lg place xs none = row-multiples-same R E G P L roots lg place cols xs none

  -- one row, or none
  pub few-same : (forward : Bool) (lg place : ℕ) (xs : List A) → length xs ≡ 2 ^ lg * cols → length xs ≤ cols → below forward lg place xs xs
  few-same true lg place xs size few = λ t k b l. row-values-same R E G P L roots lg place cols xs (one_level lg cols (length xs) size few (omega (arith, l))) t k b l
  few-same false lg place xs size few = λ t k x b l there. row-multiples-same R E G P L roots lg place cols xs (one_level lg cols (length xs) size few (omega (arith, l))) t k x b l there

  module _ (s : ℕ) where
    -- cells of the parts that are combined or turned
    combined-parts : (forward : Bool) (w : A) (old new : List A) → AreCombined R forward w s old new → (j : ℕ) → j < s
        → IsCombined R forward w (entry R (part s 0 old) j) (entry R (part s 1 old) j) (entry R (part s 0 new) j) (entry R (part s 1 new) j)
    combined-parts forward w old new h j l = grind (arith, part-item)

    turned-parts : (forward : Bool) (e f g : A) (old new : List A) → AreTurned R forward e f g s old new → (j : ℕ) → j < s
        → IsTurned R forward e f g (entry R (part s 0 old) j) (entry R (part s 1 old) j) (entry R (part s 2 old) j) (entry R (part s 3 old) j)
        (entry R (part s 0 new) j) (entry R (part s 1 new) j) (entry R (part s 2 new) j) (entry R (part s 3 new) j)
    turned-parts forward e f g old new h j l = grind (arith, part-item)

  module _ (lg place : ℕ) (square : 1 < lg → R.same (R.product turn turn) (R.negative R.one)) (one : 1 ≤ place) (within : 2 ^ lg * (place + 1) ≤ 2 * length roots) where
    -- all parts, of s cells, after or before a step of so many levels
    abbrev parts : Bool → ℕ → ℕ → List A → List A → Type 0
    parts forward levels s old new = ArePartsDone s (λ k. below forward (lg - levels) (2 ^ levels * place + k)) (2 ^ levels) old new

    abbrev step : Bool → ℕ → ℕ → List A → List A → Type 0
    step forward levels s old new = AreSteppedBelow R forward levels roots place s old new

    first-place : 2 * place + 0 ≡ 2 * place
    first-place = omega arith

    at-quarter : (k : ℕ) → 4 * place + k ≡ 2 * (2 * place) + k
    at-quarter k = omega arith

    at-first_quarter : 4 * place + 0 ≡ 2 * (2 * place)
    at-first_quarter = omega arith

    -- a step, and then each part turned into its values
    pub step-values : (levels s : ℕ) → 1 ≤ levels → levels ≤ 2 → levels ≤ lg → s ≡ 2 ^ (lg - levels) * cols → (old mid new : List A)
        → length old ≡ 2 ^ levels * s → length mid ≡ 2 ^ levels * s → length new ≡ 2 ^ levels * s → step true levels s old mid → parts true levels s mid new → below true lg place old new
    step-values zero s some few deep is old mid new a b c stepped done = absurd (omega (arith, some))
    step-values (suc zero) s some few deep is old mid new a b c stepped done =
        let long = λ (k : ℕ) (xs : List A) (l : k < 2) (e : length xs ≡ 2 * s). part-length s k xs (omega (arith, e, mul-le k s 1 s (omega (arith, l)) (omega arith))) ∙ is in
        subst (λ xs. AreValuesBelow R roots lg place cols xs new) (sym (two-parts s old a))
        (subst (λ ys. AreValuesBelow R roots lg place cols (part s 0 old ++ part s 1 old) ys) (sym (two-parts s new c))
        (values-level-same R E G P L turn roots tree lg place cols square one within deep (entry R roots place) refl
        (part s 0 old) (part s 1 old) (part s 0 mid) (part s 1 mid) (part s 0 new) (part s 1 new) (long 0 old (omega arith) a) (long 0 new (omega arith) c)
        (λ j l. combined-parts s true (entry R roots place) old mid (stepped.one refl) j (omega (arith, l, is)))
        (rw first-place at (done.done 0 (omega arith))) (done.done 1 (omega arith))))
    step-values (suc (suc zero)) s some few deep is old mid new a b c stepped done =
        let long = λ (k : ℕ) (xs : List A) (l : k < 4) (e : length xs ≡ 4 * s). part-length s k xs (omega (arith, e, mul-le k s 3 s (omega (arith, l)) (omega arith))) ∙ is in
        subst (λ xs. AreValuesBelow R roots lg place cols xs new) (sym (four-parts s old a))
        (subst (λ ys. AreValuesBelow R roots lg place cols ((part s 0 old ++ part s 1 old) ++ (part s 2 old ++ part s 3 old)) ys) (sym (four-parts s new c))
        (values-quarters-same R E G P L turn roots tree lg place cols square one within deep _ _ _ refl refl refl
        (part s 0 old) (part s 1 old) (part s 2 old) (part s 3 old) (long 0 old (omega arith) a) (long 1 old (omega arith) a) (long 2 old (omega arith) a) (long 3 old (omega arith) a)
        (part s 0 mid) (part s 1 mid) (part s 2 mid) (part s 3 mid) (part s 0 new) (part s 1 new) (part s 2 new) (part s 3 new)
        (long 0 new (omega arith) c) (long 1 new (omega arith) c) (long 2 new (omega arith) c)
        (λ j l. turned-parts s true _ _ _ old mid (stepped.two refl) j (omega (arith, l, is)))
        (rw at-first_quarter at (done.done 0 (omega arith))) (rw (at-quarter 1) at (done.done 1 (omega arith)))
        (rw (at-quarter 2) at (done.done 2 (omega arith))) (rw (at-quarter 3) at (done.done 3 (omega arith)))))
    step-values (suc (suc (suc n))) s some few deep is old mid new a b c stepped done = absurd (omega (arith, few))

    -- multiples of all parts, and then a step back
    pub step-multiples : (levels s : ℕ) → 1 ≤ levels → levels ≤ 2 → levels ≤ lg → s ≡ 2 ^ (lg - levels) * cols → (old mid new : List A)
        → length old ≡ 2 ^ levels * s → length mid ≡ 2 ^ levels * s → length new ≡ 2 ^ levels * s → parts false levels s old mid → step false levels s mid new → below false lg place old new
    step-multiples zero s some few deep is old mid new a b c done stepped = absurd (omega (arith, some))
    step-multiples (suc zero) s some few deep is old mid new a b c done stepped =
        let long = λ (k : ℕ) (xs : List A) (l : k < 2) (e : length xs ≡ 2 * s). part-length s k xs (omega (arith, e, mul-le k s 1 s (omega (arith, l)) (omega arith))) ∙ is in
        subst (λ xs. AreMultiplesBelow R roots lg place cols xs new) (sym (two-parts s old a))
        (subst (λ ys. AreMultiplesBelow R roots lg place cols (part s 0 old ++ part s 1 old) ys) (sym (two-parts s new c))
        (multiples-level-same R E G P L turn roots tree lg place cols square one within deep (entry R roots place) refl
        (part s 0 old) (part s 1 old) (part s 0 mid) (part s 1 mid) (part s 0 new) (part s 1 new) (long 0 old (omega arith) a) (long 0 mid (omega arith) b) (long 0 new (omega arith) c)
        (λ j l. combined-parts s false (entry R roots place) mid new (stepped.one refl) j (omega (arith, l, is)))
        (rw first-place at (done.done 0 (omega arith))) (done.done 1 (omega arith))))
    step-multiples (suc (suc zero)) s some few deep is old mid new a b c done stepped =
        let long = λ (k : ℕ) (xs : List A) (l : k < 4) (e : length xs ≡ 4 * s). part-length s k xs (omega (arith, e, mul-le k s 3 s (omega (arith, l)) (omega arith))) ∙ is in
        subst (λ xs. AreMultiplesBelow R roots lg place cols xs new) (sym (four-parts s old a))
        (subst (λ ys. AreMultiplesBelow R roots lg place cols ((part s 0 old ++ part s 1 old) ++ (part s 2 old ++ part s 3 old)) ys) (sym (four-parts s new c))
        (multiples-quarters-same R E G P L turn roots tree lg place cols square one within deep _ _ _ refl refl refl
        (part s 0 old) (part s 1 old) (part s 2 old) (part s 3 old) (long 0 old (omega arith) a) (long 1 old (omega arith) a) (long 2 old (omega arith) a) (long 3 old (omega arith) a)
        (part s 0 mid) (part s 1 mid) (part s 2 mid) (part s 3 mid) (part s 0 new) (part s 1 new) (part s 2 new) (part s 3 new)
        (long 0 mid (omega arith) b) (long 1 mid (omega arith) b) (long 2 mid (omega arith) b) (long 3 mid (omega arith) b)
        (long 0 new (omega arith) c) (long 1 new (omega arith) c) (long 2 new (omega arith) c)
        (λ j l. turned-parts s false _ _ _ mid new (stepped.two refl) j (omega (arith, l, is)))
        (rw at-first_quarter at (done.done 0 (omega arith))) (rw (at-quarter 1) at (done.done 1 (omega arith)))
        (rw (at-quarter 2) at (done.done 2 (omega arith))) (rw (at-quarter 3) at (done.done 3 (omega arith)))))
    step-multiples (suc (suc (suc n))) s some few deep is old mid new a b c done stepped = absurd (omega (arith, few))

    -- a step of all levels
    pub all-levels : (forward : Bool) (s : ℕ) → 1 ≤ lg → lg ≤ 2 → s ≡ cols → (old new : List A) → length old ≡ 2 ^ lg * cols → length new ≡ 2 ^ lg * cols → step forward lg s old new → below forward lg place old new
    all-levels forward s some few is old new a b stepped = of forward stepped
      where
        nothing : lg - lg ≡ 0
        nothing = omega arith

        size : s ≡ 2 ^ (lg - lg) * cols
        size = is ∙ sym (ap (λ i. 2 ^ i * cols) nothing ∙ omega arith)

        long : (xs : List A) → length xs ≡ 2 ^ lg * cols → length xs ≡ 2 ^ lg * s
        long xs e = e ∙ ap (λ i. 2 ^ lg * i) (sym is)

        rows : (forward : Bool) (xs : List A) → parts forward lg s xs xs
        rows forward xs = record { done = λ k l. row-same forward (lg - lg) (2 ^ lg * place + k) (part s k xs) nothing; rest = refl }

        of : (forward : Bool) → step forward lg s old new → below forward lg place old new
        of true h = step-values lg s some few (omega arith) size old new new (long old a) (long new b) (long new b) h (rows true new)
        of false h = step-multiples lg s some few (omega arith) size old old new (long old a) (long old a) (long new b) (rows false old) h

    -- a step before the parts forward, and after them on the way back
    pub step-and-parts : (forward : Bool) (levels first s n : ℕ) → 1 ≤ levels → levels ≤ 2 → levels ≤ lg → first ≡ (if forward then levels else 0) → s ≡ 2 ^ (lg - levels) * cols → n ≡ 2 ^ levels
        → (old mid done new : List A) → length old ≡ 2 ^ lg * cols → length mid ≡ length old → length done ≡ length mid → length new ≡ length done
        → step forward first (2 ^ (lg - first) * cols) old mid → ArePartsDone s (λ k. below forward (lg - levels) (n * place + k)) n mid done
        → step forward (levels - first) (2 ^ (lg - (levels - first)) * cols) done new → below forward lg place old new
    step-and-parts forward levels first s n some few deep first_is is n_is old mid done new a b c d before between after = of forward first_is before all after
      where
        long : length old ≡ 2 ^ levels * s
        long = (step-counts lg levels place cols (length roots) (length old) deep within a).cells ∙ ap (λ i. 2 ^ levels * i) (sym is)

        all : parts forward levels s mid done
        all = subst (λ i. ArePartsDone s (λ k. below forward (lg - levels) (i * place + k)) i mid done) n_is between

        of : (forward : Bool) → first ≡ (if forward then levels else 0) → step forward first (2 ^ (lg - first) * cols) old mid → parts forward levels s mid done
            → step forward (levels - first) (2 ^ (lg - (levels - first)) * cols) done new → below forward lg place old new
        of true e x y z =
            subst (λ ys. AreValuesBelow R roots lg place cols old ys) (sym (z.none (omega (arith, e))))
            (step-values levels s some few deep is old mid done long (omega (arith, long, b)) (omega (arith, long, b, c))
            (subst (λ i. step true levels i old mid) (sym is) (subst (λ i. step true i (2 ^ (lg - i) * cols) old mid) e x)) y)
        of false e x y z =
            let same : mid ≡ old = x.none e in
            let all_levels : levels - first ≡ levels = omega (arith, e) in
            step-multiples levels s some few deep is old done new long (omega (arith, long, b, c)) (omega (arith, long, b, c, d))
            (subst (λ xs. parts false levels s xs done) same y)
            (subst (λ i. step false levels i done new) (sym is) (subst (λ i. step false i (2 ^ (lg - i) * cols) done new) all_levels z))

  -- the cells of one part of sixteen rows, turned by two levels
  turned-part : (forward : Bool) (lg place k : ℕ) (to : ℕ → ℕ) → ((i : ℕ) → to i ≡ k * (4 * cols) + i) → lg ≡ 2 → 1 ≤ place → 2 ^ lg * (place + 1) ≤ 2 * length roots
      → (1 < lg → R.same (R.product turn turn) (R.negative R.one)) → (old new : List A) → k * (4 * cols) + 4 * cols ≤ length old → length new ≡ length old
      → ((i : ℕ) → i < cols → IsTurnedByTree R forward roots place cols (to i) old new) → below forward lg place (part (4 * cols) k old) (part (4 * cols) k new)
  turned-part forward lg place k to at level one within square old new l e h =
      let rows : 4 * cols ≡ 2 ^ lg * cols = sym (ap (λ i. 2 ^ i * cols) level) in
      let item = λ (n i : ℕ) (b : n + i < 4 * cols) (xs : List A).
      part-item (4 * cols) R.zero k (n + i) (n + to i) xs (omega (arith, at i)) b in
      let first = λ (i : ℕ) (b : i < 4 * cols) (xs : List A). part-item (4 * cols) R.zero k i (to i) xs (at i) b in
      all-levels lg place square one within forward cols (omega (arith, level)) (omega (arith, level)) refl (part (4 * cols) k old) (part (4 * cols) k new)
      (part-length (4 * cols) k old l ∙ rows) (part-length (4 * cols) k new (omega (arith, l, e)) ∙ rows)
      (record {
        none = λ z. absurd (omega (arith, z, level));
        one = λ z. absurd (omega (arith, z, level));
        two = λ _. record {
          turned = λ i b.
              let c = 4 * cols in
              rw (
                first i (omega (arith, b)) old,
                item cols i (omega (arith, b)) old,
                item (2 * cols) i (omega (arith, b)) old,
                item (3 * cols) i (omega (arith, b)) old,
                first i (omega (arith, b)) new,
                item cols i (omega (arith, b)) new,
                item (2 * cols) i (omega (arith, b)) new,
                item (3 * cols) i (omega (arith, b)) new,
              ) (h i b);
        };
      })

  -- sixteen rows turned by all four levels at once
  module _ (lg place : ℕ) (square : 1 < lg → R.same (R.product turn turn) (R.negative R.one)) (one : 1 ≤ place) (within : 2 ^ lg * (place + 1) ≤ 2 * length roots) (level : lg ≡ 4) where
    abbrev s : ℕ
    s = 4 * cols

    part_is : s ≡ 2 ^ (lg - 2) * cols
    part_is = sym (ap (λ i. 2 ^ (i - 2) * cols) level)

    two-more : lg - 2 ≡ 2
    two-more = omega (arith, level)

    child : (k : ℕ) → k < 4 → 2 ^ (lg - 2) * (4 * place + k + 1) ≤ 2 * length roots
    child k l = (step-counts lg 2 place cols (length roots) (2 ^ lg * cols) (omega (arith, level)) within refl).children k l

    four : (forward : Bool) (old new : List A) → length old ≡ 16 * cols → length new ≡ 16 * cols
        → ((i : ℕ) → i < cols → IsTurnedByTree R forward roots (4 * place) cols i old new)
        → ((i : ℕ) → i < cols → IsTurnedByTree R forward roots (4 * place + 1) cols (4 * cols + i) old new)
        → ((i : ℕ) → i < cols → IsTurnedByTree R forward roots (4 * place + 2) cols (2 * (4 * cols) + i) old new)
        → ((i : ℕ) → i < cols → IsTurnedByTree R forward roots (4 * place + 3) cols (3 * (4 * cols) + i) old new)
        → ArePartsDone s (λ k. below forward (lg - 2) (4 * place + k)) 4 old new
    four forward old new a b first second third fourth = record { done = done; rest = none-left }
      where
        at-zero : 4 * place ≡ 4 * place + 0
        at-zero = omega arith

        done : (k : ℕ) → k < 4 → below forward (lg - 2) (4 * place + k) (part s k old) (part s k new)
        done zero l =
            turned-part forward (lg - 2) (4 * place + 0) 0 (λ i. i) (λ i. omega arith) two-more (omega (arith, one)) (child 0 l) (λ _. square (omega (arith, level))) old new (omega (arith, a)) (omega (arith, a, b))
            (subst (λ p. (i : ℕ) → i < cols → IsTurnedByTree R forward roots p cols i old new) at-zero first)
        done (suc zero) l =
            turned-part forward (lg - 2) (4 * place + 1) 1 (λ i. 4 * cols + i) (λ i. omega arith) two-more (omega (arith, one)) (child 1 l) (λ _. square (omega (arith, level))) old new (omega (arith, a)) (omega (arith, a, b)) second
        done (suc (suc zero)) l =
            turned-part forward (lg - 2) (4 * place + 2) 2 (λ i. 2 * (4 * cols) + i) (λ i. refl) two-more (omega (arith, one)) (child 2 l) (λ _. square (omega (arith, level))) old new (omega (arith, a)) (omega (arith, a, b)) third
        done (suc (suc (suc zero))) l =
            turned-part forward (lg - 2) (4 * place + 3) 3 (λ i. 3 * (4 * cols) + i) (λ i. refl) two-more (omega (arith, one)) (child 3 l) (λ _. square (omega (arith, level))) old new (omega (arith, a)) (omega (arith, a, b)) fourth
        done (suc (suc (suc (suc k)))) l = absurd (omega (arith, l))

        none-left : drop (4 * s) new ≡ drop (4 * s) old
        none-left = drop_all (4 * s) new (omega (arith, b)) ∙ sym (drop_all (4 * s) old (omega (arith, a)))

    pub sixteen-at-once : (forward : Bool) (old new : List A) → length old ≡ 16 * cols → length new ≡ 16 * cols → AreSixteenTurned R forward roots place cols old new → below forward lg place old new
    sixteen-at-once true old new a b h =
        step-values lg place square one within 2 s (omega arith) (omega arith) (omega (arith, level)) part_is old h.between new (omega (arith, a)) (omega (arith, h.count)) (omega (arith, b))
        (record { none = λ z. absurd (omega (arith, z)); one = λ z. absurd (omega (arith, z)); two = λ _. record { turned = h.all } })
        (four true h.between new h.count b h.first h.second h.third h.fourth)
    sixteen-at-once false old new a b h =
        step-multiples lg place square one within 2 s (omega arith) (omega arith) (omega (arith, level)) part_is old h.between new (omega (arith, a)) (omega (arith, h.count)) (omega (arith, b))
        (four false old h.between a h.count h.first h.second h.third h.fourth)
        (record { none = λ z. absurd (omega (arith, z)); one = λ z. absurd (omega (arith, z)); two = λ _. record { turned = h.all } })

-- the same at points, in a field with roots of unity
module _ {A : Type 0} (R : RingOf A) (E : IsEquality R.same) (G : IsGroup R.same R.zero R.sum R.negative) (P : IsProduct R.same R.product) (L : IsRing R.same R.sum R.product R.one)
    {inverse : A → A} (F : IsField R.same R.zero R.product R.one inverse) {root : ℕ → A} {greatest : ℕ} {shift : A} {half : A → A}
    (unity : HasRootsOfUnity R.same R.zero R.sum R.product R.one greatest root shift half)
    (forward : Bool) (p : Points A) (h : ArePoints R greatest (if forward then root 2 else inverse (root 2)) p) (cols : ℕ) where
  abbrev turn : A
  turn = if forward then root 2 else inverse (root 2)

  square : 1 < p.lg → R.same (R.product turn turn) (R.negative R.one)
  square l = either_turn-square E G P L F unity (omega (arith, l, h.domain)) forward

  pub few-done : (xs : List A) → length xs ≡ 2 ^ p.lg * cols → length xs ≤ cols → AreTransformed R forward p cols xs xs
  few-done xs size few = few-same R E G P L turn p.roots.now h.tree cols forward p.lg p.place xs size few

  pub all-done : 1 ≤ p.lg → p.lg ≤ 2 → (old new : List A) → length old ≡ 2 ^ p.lg * cols → length new ≡ length old → AreStepped R forward p.lg p cols old new → AreTransformed R forward p cols old new
  all-done some few old new a b stepped =
      let none : p.lg - p.lg ≡ 0 = omega arith in
      let size : 2 ^ (p.lg - p.lg) * cols ≡ cols = ap (λ i. 2 ^ i * cols) none ∙ omega arith in
      all-levels R E G P L turn p.roots.now h.tree cols p.lg p.place square h.some h.within forward (2 ^ (p.lg - p.lg) * cols) some few size old new a (b ∙ a) stepped

  pub sixteen-done : p.lg ≡ 4 → (old new : List A) → length old ≡ 16 * cols → length new ≡ 16 * cols → AreSixteenTurned R forward p.roots.now p.place cols old new → AreTransformed R forward p cols old new
  sixteen-done level old new a b turned =
      sixteen-at-once R E G P L turn p.roots.now h.tree cols p.lg p.place square h.some h.within level forward old new a b turned

  -- how part k of the rows is transformed
  abbrev pub part-done : (levels n : ℕ) → ℕ → List A → List A → Type 0
  part-done levels n k old new = AreTransformedBelow R forward p.roots.now (p.lg - levels) (n * p.place + k) cols old new

  pub step-done : (levels first s n : ℕ) → 1 ≤ levels → levels ≤ 2 → levels ≤ p.lg → first ≡ (if forward then levels else 0) → s ≡ 2 ^ (p.lg - levels) * cols → n ≡ 2 ^ levels
      → (old mid done new : List A) → length old ≡ 2 ^ p.lg * cols → length mid ≡ length old → length done ≡ length mid → length new ≡ length done
      → AreStepped R forward first p cols old mid → ArePartsDone s (part-done levels n) n mid done → AreStepped R forward (levels - first) p cols done new → AreTransformed R forward p cols old new
  step-done levels first s n some few deep first_is is n_is old mid done new a b c d before between after =
      step-and-parts R E G P L turn p.roots.now h.tree cols p.lg p.place square h.some h.within forward levels first s n some few deep first_is is n_is old mid done new a b c d before between after

  pub part-points : (levels n k : ℕ) → levels ≤ p.lg → n ≡ 2 ^ levels → k < n → 1 ≤ n * p.place + k × 2 ^ (p.lg - levels) * (n * p.place + k + 1) ≤ 2 * length p.roots.now
  part-points levels n k deep n_is l =
      let w = (step-counts p.lg levels p.place cols (length p.roots.now) (2 ^ p.lg * cols) deep h.within refl).children k (omega (arith, l, n_is)) in
      let least : 1 * 1 ≤ n * p.place = mul-le 1 1 n p.place (omega (arith, n_is, pow_pos levels)) h.some in
      (omega (arith, least), rw n_is w)
