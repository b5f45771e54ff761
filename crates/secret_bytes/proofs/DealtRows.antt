-- Elements that are dealt in turn, and rows of shares that take the values of one polynomial after another.
use Rattle.std.proofs.Common.{◌≡◌, ◌∙◌, ℕ, zero, suc, ◌+◌, ◌<◌, ◌^◌, List, [], ◌∷◌, ◌++◌, length, map, take, drop, get_or, refl, sym, ap, ap₂, subst, arith}
use Rattle.std.specs.List.{All, AllZip, range_with_len}
use Rattle.std.proofs.lemmas.List.{append-nil, drop_all, map-id, take_all}
use Rattle.std.proofs.lemmas.List.Elements.{All-cons, All-head, All-nil, All-tail}
use Rattle.std.proofs.lemmas.List.FromFn.{length-range_with_len, get_or-range_with_len, map-range_with_len_more}
use Rattle.rand_core.specs.Stream.{Stream}
use Rattle.math_fields.specs.declared.goldilocks.F.{F}
use Rattle.math_fields.specs.Elements.{number, residue, same, sample_of, goldilocks}
use Rattle.math_base.specs.Polynomials.{value_in_ring}
use Rattle.math_fields.proofs.ElementNumbers.{same_number}
use Rattle.math_values.specs.Tables as Tables
use Rattle.shared_secret.specs.declared.shares.Share.{Share}
use Rattle.shared_secret.specs.Shares.{AreDealt, AreSharesOf, IsSampled, point}
use Rattle.secret_bytes.specs.declared.dealing.Row.{Row}
use Rattle.secret_bytes.specs.declared.share.SecretShare.{SecretShare}
use Rattle.secret_bytes.specs.Columns.{column, share_of}
use Rattle.secret_bytes.specs.Deals.{AreSampled, IsOfDeal}
use Rattle.secret_bytes.specs.Rows.{AreRows, IsGrown, IsRow}
use Rattle.secret_bytes.proofs.ElementPoints.{point-number}

-- one more element and its polynomial
pub sampled-push : (t : ℕ) (before now after : Stream) (all : List F) (ps : List (List F)) (a : F) (p : List F) → AreSampled t before now all ps → IsSampled sample_of a t now after p
    → AreSampled t before after (all ++ (a ∷ [])) (ps ++ (p ∷ []))
sampled-push t before now after [] [] a p e h = (after, subst-start e h, refl)
  where
    subst-start : before ≡ now → IsSampled sample_of a t now after p → IsSampled sample_of a t before after p
    subst-start e h = subst (λ (s : Stream). IsSampled sample_of a t s after p) (sym e) h
sampled-push t before now after [] (q ∷ ps) a p e h = absurd e
sampled-push t before now after (b ∷ all) [] a p e h = absurd e
sampled-push t before now after (b ∷ all) (q ∷ ps) a p e h = (e.0, e.1, sampled-push t e.0 now after all ps a p e.2 h)

pub sampled-count : (t : ℕ) (before after : Stream) (all : List F) (ps : List (List F)) → AreSampled t before after all ps → length ps ≡ length all
sampled-count t before after [] [] h = refl
sampled-count t before after [] (p ∷ ps) h = absurd h
sampled-count t before after (a ∷ all) [] h = absurd h
sampled-count t before after (a ∷ all) (p ∷ ps) h = ap suc (sampled-count t h.0 after all ps h.2)

-- one more item of both lists
zip-push : {A B : Type 0} (R : A → B → Type 0) (xs : List A) (ys : List B) (x : A) (y : B) → AllZip R xs ys → R x y → AllZip R (xs ++ (x ∷ [])) (ys ++ (y ∷ []))
zip-push R [] [] x y h k = (k, tt)
zip-push R [] (w ∷ ys) x y h k = absurd h
zip-push R (q ∷ xs) [] x y h k = absurd h
zip-push R (q ∷ xs) (w ∷ ys) x y h k = (h.0, zip-push R xs ys x y h.1 k)

range-next : (a n : ℕ) → range_with_len a (n + 1) ≡ range_with_len a n ++ ((a + n) ∷ [])
range-next a n =
    sym (map-id (range_with_len a (n + 1))) ∙ map-range_with_len_more (λ k. k) a n (a + n) refl ∙ ap (λ ks. ks ++ ((a + n) ∷ [])) (map-id (range_with_len a n))

-- one more row
pub rows-push : (t : ℕ) (deal : F) (n : ℕ) (rows : List Row) (r : Row) → AreRows t deal n [] rows → IsRow t deal [] (1 + n) r → AreRows t deal (n + 1) [] (rows ++ (r ∷ []))
rows-push t deal n rows r h k = rw (range-next 1 n) (zip-push (IsRow t deal []) (range_with_len 1 n) rows (1 + n) r h k)

abbrev AreValuesAt : F → List (List F) → List F → Type 0
AreValuesAt x ps values = AllZip (λ p value. value ≡ value_in_ring goldilocks p x) ps values

row-grown : (t : ℕ) (deal : F) (ps : List (List F)) (p : List F) (place : ℕ) (old new : Row) → IsRow t deal ps place old → IsGrown p old new → IsRow t deal (ps ++ (p ∷ [])) place new
row-grown t deal ps p place old new h g = record {
  point = ap (λ table. number (Tables.point table)) g.table ∙ h.point;
  threshold = g.threshold ∙ h.threshold;
  index = g.index ∙ h.index;
  deal = g.deal ∙ h.deal;
  values = subst (AreValuesAt (Tables.point new.table) (ps ++ (p ∷ []))) (sym g.values)
      (subst (λ x. AreValuesAt x (ps ++ (p ∷ [])) (old.share.values.items ++ (value_in_ring goldilocks p (Tables.point old.table) ∷ []))) (ap Tables.point (sym g.table))
      (zip-push (λ p value. value ≡ value_in_ring goldilocks p (Tables.point old.table)) ps old.share.values.items p (value_in_ring goldilocks p (Tables.point old.table)) h.values refl));
}

-- each row has one value more
pub rows-grown : (t : ℕ) (deal : F) (ps : List (List F)) (p : List F) (places : List ℕ) (old new : List Row) → AllZip (IsRow t deal ps) places old → AllZip (IsGrown p) old new
    → AllZip (IsRow t deal (ps ++ (p ∷ []))) places new
rows-grown t deal ps p [] [] [] h g = tt
rows-grown t deal ps p [] [] (r ∷ new) h g = absurd g
rows-grown t deal ps p [] (o ∷ old) new h g = absurd h
rows-grown t deal ps p (i ∷ places) [] new h g = absurd h
rows-grown t deal ps p (i ∷ places) (o ∷ old) [] h g = absurd g
rows-grown t deal ps p (i ∷ places) (o ∷ old) (r ∷ new) h g = (row-grown t deal ps p i o r h.0 g.0, rows-grown t deal ps p places old new h.1 g.1)

-- what holds at each place holds of both lists
pub zip-from : {A : Type 0} (R : A → A → Type 0) (xs ys : List A) → length ys ≡ length xs → ((k : ℕ) (d : A) → k < length xs → R (get_or xs k d) (get_or ys k d)) → AllZip R xs ys
zip-from R [] [] e h = tt
zip-from R [] (y ∷ ys) e h = absurd (omega (arith, e))
zip-from R (x ∷ xs) [] e h = absurd (omega (arith, e))
zip-from R (x ∷ xs) (y ∷ ys) e h = (h 0 x (omega arith), zip-from R xs ys (omega (arith, e)) (λ k d l. h (suc k) d (omega (arith, l))))

-- where all are written, they are what is written
pub written-all : {A : Type 0} (n : ℕ) (new old : List A) → length new ≡ length old → n ≡ length old → take n (new ++ drop (length new) old) ≡ new
written-all n new old e f =
    ap (λ xs. take n (new ++ xs)) (drop_all (length new) old (omega (arith, e))) ∙ ap (take n) (append-nil new) ∙ take_all n new (omega (arith, e, f))

pub rows-count : (t : ℕ) (deal : F) (ps : List (List F)) (places : List ℕ) (rows : List Row) → AllZip (IsRow t deal ps) places rows → length rows ≡ length places
rows-count t deal ps [] [] h = refl
rows-count t deal ps [] (r ∷ rows) h = absurd h
rows-count t deal ps (i ∷ places) [] h = absurd h
rows-count t deal ps (i ∷ places) (r ∷ rows) h = ap suc (rows-count t deal ps places rows h.1)

abbrev shares_in : List Row → List SecretShare
shares_in rows = map (λ (r : Row). r.share) rows

-- the shares have the indices
pub rows-indices : (t : ℕ) (deal : F) (ps : List (List F)) (places : List ℕ) (rows : List Row) → AllZip (IsRow t deal ps) places rows → map (λ s. s.index) (shares_in rows) ≡ places
rows-indices t deal ps [] [] h = refl
rows-indices t deal ps [] (r ∷ rows) h = absurd h
rows-indices t deal ps (i ∷ places) [] h = absurd h
rows-indices t deal ps (i ∷ places) (r ∷ rows) h = ap₂ (λ (k : ℕ) ks. k ∷ ks) h.0.index (rows-indices t deal ps places rows h.1)

values-count : (x : F) (ps : List (List F)) (values : List F) → AreValuesAt x ps values → length values ≡ length ps
values-count x [] [] h = refl
values-count x [] (v ∷ values) h = absurd h
values-count x (p ∷ ps) [] h = absurd h
values-count x (p ∷ ps) (v ∷ values) h = ap suc (values-count x ps values h.1)

-- and are of one deal
pub rows-alike : (t : ℕ) (deal : F) (ps : List (List F)) (places : List ℕ) (rows : List Row) → AllZip (IsRow t deal ps) places rows → All (IsOfDeal t deal (length ps)) (shares_in rows)
rows-alike t deal ps [] [] h = All-nil (IsOfDeal t deal (length ps))
rows-alike t deal ps [] (r ∷ rows) h = absurd h
rows-alike t deal ps (i ∷ places) [] h = absurd h
rows-alike t deal ps (i ∷ places) (r ∷ rows) h =
    All-cons (IsOfDeal t deal (length ps)) r.share (shares_in rows) record {
      threshold = h.0.threshold;
      deal = h.0.deal;
      count = values-count (Tables.point r.table) ps r.share.values.items h.0.values;
    } (rows-alike t deal ps places rows h.1)

value-at : (x : F) (ps : List (List F)) (values : List F) → AreValuesAt x ps values → (j : ℕ) → j < length ps → get_or values j (residue 0) ≡ value_in_ring goldilocks (get_or ps j []) x
value-at x [] values h j l = absurd (omega (arith, l))
value-at x (p ∷ ps) [] h j l = absurd h
value-at x (p ∷ ps) (v ∷ values) h zero l = h.0
value-at x (p ∷ ps) (v ∷ values) h (suc j) l = value-at x ps values h.1 j (omega (arith, l))

-- value j of each is that of polynomial j at the point of its index
rows-values : (t : ℕ) (deal : F) (ps : List (List F)) (j : ℕ) (places : List ℕ) (rows : List Row) → j < length ps → All (λ i. i < 2 ^ 32) places → AllZip (IsRow t deal ps) places rows
    → AreSharesOf goldilocks (get_or ps j []) (column j (shares_in rows))
rows-values t deal ps j [] [] l few h = All-nil (λ (s : Share F). same s.value (value_in_ring goldilocks (get_or ps j []) (point goldilocks s.index)))
rows-values t deal ps j [] (r ∷ rows) l few h = absurd h
rows-values t deal ps j (i ∷ places) [] l few h = absurd h
rows-values t deal ps j (i ∷ places) (r ∷ rows) l few h =
    let below : i < 2 ^ 32 = All-head (λ i. i < 2 ^ 32) i places few in
    let at : number (point goldilocks r.share.index) ≡ i = ap (λ k. number (point goldilocks k)) h.0.index ∙ point-number i (omega (arith, below)) in
    let x : Tables.point r.table ≡ point goldilocks r.share.index = same_number (Tables.point r.table) (point goldilocks r.share.index) (h.0.point ∙ sym at) in
    All-cons (λ (s : Share F). same s.value (value_in_ring goldilocks (get_or ps j []) (point goldilocks s.index))) (share_of j r.share) (column j (shares_in rows))
    (ap number (value-at (Tables.point r.table) ps r.share.values.items h.0.values j l ∙ ap (value_in_ring goldilocks (get_or ps j [])) x))
    (rows-values t deal ps j places rows l (All-tail (λ i. i < 2 ^ 32) i places few) h.1)

column-indices : (j : ℕ) (shares : List SecretShare) → map (λ s. s.index) (column j shares) ≡ map (λ s. s.index) shares
column-indices j [] = refl
column-indices j (s ∷ shares) = ap (λ is. s.index ∷ is) (column-indices j shares)

-- the shares are dealt with the polynomials
pub rows-dealt : (t : ℕ) (deal : F) (n : ℕ) (ps : List (List F)) (rows : List Row) → n < 2 ^ 32 → AreRows t deal n ps rows → (j : ℕ) → j < length ps
    → AreDealt goldilocks n (get_or ps j []) (column j (shares_in rows))
rows-dealt t deal n ps rows small h j l = record {
  indices = column-indices j (shares_in rows) ∙ rows-indices t deal ps (range_with_len 1 n) rows h;
  values = rows-values t deal ps j (range_with_len 1 n) rows l
      (λ k d m. let below : k < n = omega (arith, m, length-range_with_len 1 n) in omega (arith, get_or-range_with_len 1 n k d below, below, small)) h;
  points = λ z. let at : number (point goldilocks z.0) ≡ z.0 = point-number z.0 (omega (arith, z.2, small)) in let zero_at : number (point goldilocks z.0) ≡ 0 = z.3 in omega (arith, at, zero_at, z.1);
}
