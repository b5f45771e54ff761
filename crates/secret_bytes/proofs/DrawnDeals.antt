-- What is drawn for a deal, and that it explains the shares.
use Rattle.std.proofs.Common.{inl, inr, ◌≡◌, ◌∙◌, ℕ, zero, suc, ◌+◌, ◌-◌, ◌*◌, ◌<◌, ◌≤◌, ◌^◌, List, [], ◌∷◌, length, drop, take, get_or, map, Option, Some, None, ltb, refl, sym, ap, ap₂, subst, arith}
use Rattle.std.specs.List.{All, Contains, flat_map}
use Rattle.std.specs.Option.{option_map}
use Rattle.std.proofs.Math.Nat.{mod-eq_of_lt}
use Rattle.std.proofs.lemmas.Bool.{cases_Bool, ltb-true}
use Rattle.std.proofs.lemmas.List.{ext_get_or, get_or-map, get_or-take, get_or_default, length-drop, length-map, length-take, take-map}
use Rattle.std.proofs.lemmas.List.FromFn.{length-range_with_len}
use Rattle.std.proofs.lemmas.List.Elements.{All-contains, All-contains_itself, All-take}
use Rattle.std.proofs.lemmas.Option.{get_or_from_slice_get, none-some, same_Some}
use Rattle.rand_core.specs.Stream.{Stream, next_u64}
use Rattle.math_numbers.specs.Goldilocks.{P}
use Rattle.math_fields.specs.declared.goldilocks.F.{F}
use Rattle.math_fields.specs.Elements.{number, residue, same, sample_of, goldilocks}
use Rattle.math_base.specs.Polynomials.{value_in_ring}
use Rattle.math_base.specs.Samples.{before_samples, first_below, samples}
use Rattle.math_fields.proofs.ElementNumbers.{residue-number, same_number}
use Rattle.math_base.proofs.SampleLists.{rest_of, samples_behind_first}
use Rattle.math_fields.proofs.SampleSteps.{word_found}
use Rattle.shared_secret.specs.declared.shares.Share.{Share}
use Rattle.shared_secret.specs.Explanations.{Explains}
use Rattle.shared_secret.specs.Shares.{AreSharesOf, point}
use Rattle.secret_bytes.specs.declared.share.SecretShare.{SecretShare}
use Rattle.secret_bytes.specs.Columns.{column, share_of}
use Rattle.secret_bytes.specs.DealingLaws.{DealsOfBytesAreExplained, EachListIsDrawnOnce, ExplanationsAreDealt, accepted, draws}
use Rattle.secret_bytes.specs.Deals.{AreDealtBytes, IsOfDeal, sample_count}
use Rattle.secret_bytes.specs.Explanations.{AreExplained, HaveDistinctIndices}
use Rattle.secret_bytes.specs.Keyed.{element_count}
use Rattle.secret_bytes.proofs.AnyShares.{number_of-index, sampled-at}
use Rattle.secret_bytes.proofs.SeenSlips.{equal_parts}
use Rattle.secret_bytes.proofs.DealtRows.{sampled-count}
use Rattle.secret_bytes.proofs.DrawnSamples.{sampled-samples}
use Rattle.secret_bytes.proofs.ExplainedBytes.{same_lists}
use Rattle.secret_bytes.proofs.ExplainedSecrets.{each-explains}
use Rattle.secret_bytes.proofs.PackedAlone.{keyed-alone, keyed-length}

-- a word that is found is below P
found-below : (n : ℕ) (s t : Stream) (w : ℕ) → first_below n s ≡ (Some w, t) → w < P
unfolding first_below
found-below zero s t w e = absurd (none-some w (ap (λ p. p.0) e))
found-below (suc n) s t w e = elim (cases_Bool (ltb (next_u64 s).0 P)) as (λ _. w < P) [
  | inl below ↦ subst (λ x. x < P) (same_Some (next_u64 s).0 w (ap (λ p. p.0) (rw below at e))) (ltb-true (next_u64 s).0 P below)
  | inr above ↦ found-below n (next_u64 s).1 t w (rw above at e)
]

abbrev Found : Type 0
Found = Option ℕ × Stream

abbrev sampled_of : Found → Option F × Stream
sampled_of q = (option_map residue q.0, q.1)

-- a first sample and a first word
forth : (q : Found) (whole : Stream → Option (List F) × Stream) (words : Stream → Option (List ℕ) × Stream) (x : F) (xs : List F) (u : Stream) → ((w : ℕ) → q.0 ≡ Some w → w < P)
    → ((r : Stream) → whole r ≡ (Some xs, u) → words r ≡ (Some (map number xs), u)) → before_samples (sampled_of q) whole ≡ (Some (x ∷ xs), u) → before_samples q words ≡ (Some (number x ∷ map number xs), u)
unfolding before_samples
forth (None, r) whole words x xs u below h e = absurd (none-some (x ∷ xs) (ap (λ p. p.0) e))
forth (Some w, r) whole words x xs u below h e =
    let (ys, f, g) = rest_of (whole r) (residue w) (x ∷ xs) u e in
    let first : residue w ≡ x = ap (λ zs. get_or zs 0 x) g in
    let rest : ys ≡ xs = ap (drop 1) g in
    let word : w ≡ number x = sym (mod-eq_of_lt (below w refl)) ∙ ap number first in
    ap (λ p. (option_map (λ ws. w ∷ ws) p.0, p.1)) (h r (f ∙ ap (λ zs. (Some zs, u)) rest)) ∙ ap (λ v. (Some (v ∷ map number xs), u)) word

back : (q : Found) (whole : Stream → Option (List F) × Stream) (words : Stream → Option (List ℕ) × Stream) (x : F) (xs : List F) (u : Stream)
    → ((r : Stream) → words r ≡ (Some (map number xs), u) → whole r ≡ (Some xs, u)) → before_samples q words ≡ (Some (number x ∷ map number xs), u) → before_samples (sampled_of q) whole ≡ (Some (x ∷ xs), u)
unfolding before_samples
back (None, r) whole words x xs u h e = absurd (none-some (number x ∷ map number xs) (ap (λ p. p.0) e))
back (Some w, r) whole words x xs u h e =
    let (ys, f, g) = rest_of (words r) w (number x ∷ map number xs) u e in
    let first : w ≡ number x = ap (λ zs. get_or zs 0 w) g in
    let rest : ys ≡ map number xs = ap (drop 1) g in
    ap (λ p. (option_map (λ zs. residue w ∷ zs) p.0, p.1)) (h r (f ∙ ap (λ zs. (Some zs, u)) rest)) ∙ ap (λ v. (Some (residue v ∷ xs), u)) first
    ∙ ap (λ y. (Some (y ∷ xs), u)) (residue-number x)

words-of : (xs : List F) (s u : Stream) → samples sample_of (length xs) s ≡ (Some xs, u) → accepted (length xs) s ≡ (Some (map number xs), u)
unfolding samples
words-of [] s u e = ap (λ t. (Some [], t)) (ap (λ p. p.1) e)
words-of (x ∷ xs) s u e =
    forth (first_below 64 s) (samples sample_of (length xs)) (samples (first_below 64) (length xs)) x xs u
    (λ w h. found-below 64 s (first_below 64 s).1 w (ap (λ o. (o, (first_below 64 s).1)) h)) (λ r. words-of xs r u) e

elements-of : (xs : List F) (s u : Stream) → accepted (length xs) s ≡ (Some (map number xs), u) → samples sample_of (length xs) s ≡ (Some xs, u)
unfolding samples
elements-of [] s u e = ap (λ t. (Some [], t)) (ap (λ p. p.1) e)
elements-of (x ∷ xs) s u e = back (first_below 64 s) (samples sample_of (length xs)) (samples (first_below 64) (length xs)) x xs u (λ r. elements-of xs r u) e

-- a source that gives these words
source_of : List ℕ → Stream
source_of ws = record { u32_after = λ _. 0; u64_after = λ calls. get_or ws (length calls) 0; bytes_after = λ _ _. [] }

source-next : (w : ℕ) (ws : List ℕ) → (w, source_of ws) ≡ next_u64 (source_of (w ∷ ws))
unfolding next_u64 source_of
source-next w ws = refl

source-gives : (xs : List F) → samples sample_of (length xs) (source_of (map number xs)) ≡ (Some xs, source_of [])
unfolding samples before_samples
source-gives [] = refl
source-gives (x ∷ xs) =
    let first : first_below 64 (source_of (number x ∷ map number xs)) ≡ (Some (number x), source_of (map number xs)) =
    word_found 64 (source_of (number x ∷ map number xs)) (source_of (map number xs)) (number x) (omega arith) (source-next (number x) (map number xs)) x.below in
    rw first (ap (λ p. (option_map (λ zs. residue (number x) ∷ zs) p.0, p.1)) (source-gives xs) ∙ ap (λ y. (Some (y ∷ xs), source_of [])) (residue-number x))

pub drawn-once : EachListIsDrawnOnce
drawn-once xs = (λ before after. (words-of xs before after, elements-of xs before after), (source_of (map number xs), source_of [], source-gives xs))

module _ (bytes : List ℕ) (t n : ℕ) (before after : Stream) (dealt : List SecretShare) (some : 0 < t) (small : n < 2 ^ 32) (D : AreDealtBytes bytes t n before after dealt) where
  width : length D.polynomials ≡ length D.all
  width = sampled-count t D.third after D.all D.polynomials D.sampled

  count : length D.all ≡ element_count (length bytes)
  count = keyed-length D.keyed.key bytes D.all (D.keyed, refl)

  pub drawn : samples sample_of (sample_count t (length bytes)) before ≡ (Some (draws D.deal D.keyed.key D.polynomials), after)
  drawn =
      let rest = flat_map (drop 1) D.polynomials in
      let coefficients : samples sample_of (length D.all * (t - 1)) D.third ≡ (Some rest, after) = sampled-samples t D.third after D.all D.polynomials D.sampled in
      let with_key : samples sample_of (length D.all * (t - 1) + 1) D.second ≡ (Some (D.keyed.key ∷ rest), after) =
      samples_behind_first sample_of (length D.all * (t - 1)) D.second D.third after D.keyed.key (D.keyed.key ∷ rest) D.key_sampled coefficients refl in
      let with_deal : samples sample_of (length D.all * (t - 1) + 1 + 1) before ≡ (Some (D.deal ∷ D.keyed.key ∷ rest), after) =
      samples_behind_first sample_of (length D.all * (t - 1) + 1) before D.second after D.deal (D.deal ∷ D.keyed.key ∷ rest) D.deal_sampled with_key refl in
      let all : sample_count t (length bytes) ≡ length D.all * (t - 1) + 1 + 1 = ap (λ k. 2 + k * (t - 1)) (sym count) ∙ omega arith in
      ap (λ k. samples sample_of k before) all ∙ with_deal

  -- the shares of element j among those of some dealt shares have the polynomial's values
  column-of : (shares : List SecretShare) → All (Contains dealt) shares → (j : ℕ) → j < length D.all → AreSharesOf goldilocks (get_or D.polynomials j []) (column j shares)
  column-of [] h j l = λ k d m. absurd (omega arith)
  column-of (s ∷ shares) h j l = at (column-of shares (λ i e o. h (suc i) e (omega arith)) j l)
    where
      fits : (u : SecretShare) → Contains dealt u → same (share_of j u).value (value_in_ring goldilocks (get_or D.polynomials j []) (point goldilocks u.index))
      fits u c =
          let there : get_or (column j dealt) c.0 (share_of j u) ≡ share_of j u = get_or-map (share_of j) dealt c.0 u (share_of j u) c.1 ∙ ap (share_of j) c.2 in
          subst (λ (v : Share F). same v.value (value_in_ring goldilocks (get_or D.polynomials j []) (point goldilocks v.index))) there
          ((D.columns j (omega (arith, l, width))).values c.0 (share_of j u) (omega (arith, c.1, length-map dealt (share_of j))))

      at : AreSharesOf goldilocks (get_or D.polynomials j []) (column j shares)
          → (k : ℕ) (d : Share F) → k < length (column j (s ∷ shares)) → same (get_or (column j (s ∷ shares)) k d).value (value_in_ring goldilocks (get_or D.polynomials j []) (point goldilocks (get_or (column j (s ∷ shares)) k d).index))
      at rest zero d m = fits s (h 0 s (omega arith))
      at rest (suc k) d m = rest k d (omega arith)

  explains-at : (shares : List SecretShare) → All (Contains dealt) shares → (j : ℕ) → j < length D.all
      → Explains goldilocks t (get_or D.all j (residue 0)) (column j shares) (get_or D.polynomials j [])
  explains-at shares h j l =
      let p = sampled-at t D.third after D.all D.polynomials D.sampled j (omega (arith, l, width)) in
      record { count = p.0; constant = ap number (get_or_from_slice_get (get_or D.polynomials j []) 0 (get_or D.all j (residue 0)) (residue 0) p.1); values = column-of shares h j l }

  pub explained : (shares : List SecretShare) → All (Contains dealt) shares → AreExplained t D.all shares D.polynomials
  explained shares h = record {
    width = λ k d l. (All-contains (IsOfDeal t D.deal (length D.all)) dealt (get_or shares k d) D.alike (h k d l)).count;
    count = width;
    each = explains-at shares h;
  }

  dealt-count : length dealt ≡ n
  dealt-count = sym (length-map dealt (λ (u : SecretShare). u.index)) ∙ ap length D.indices ∙ length-range_with_len 1 n

  -- dealt shares have distinct indices other than zero
  index-at : (k : ℕ) (d : SecretShare) → k < length dealt → (get_or dealt k d).index ≡ 1 + k
  index-at k d l = (number_of-index bytes t n before after dealt D k (get_or dealt k d) l (sym (get_or_default dealt k d (get_or dealt k d) l))).0

  first-shares : HaveDistinctIndices (take (t - 1) dealt)
  first-shares = record {
    apart = λ i j d l m e.
        let within : j < length dealt = omega (arith, m, length-take (t - 1) dealt) in
        let below : j < t - 1 = omega (arith, m, length-take (t - 1) dealt) in
        let first : (get_or dealt i d).index ≡ 1 + i = index-at i d (omega (arith, l, within)) in
        let second : (get_or dealt j d).index ≡ 1 + j = index-at j d within in
        let same_index : (get_or dealt i d).index ≡ (get_or dealt j d).index =
        ap (λ (s : SecretShare). s.index) (sym (get_or-take (t - 1) dealt i d (omega (arith, l, below)))) ∙ e ∙ ap (λ (s : SecretShare). s.index) (get_or-take (t - 1) dealt j d below) in
        omega (arith, first, second, same_index, l);
    some = All-take (λ s. 0 < s.index) (t - 1) dealt (λ k d l. omega (arith, index-at k d l));
    small = All-take (λ s. s.index < 2 ^ 32) (t - 1) dealt (λ k d l. omega (arith, index-at k d l, l, dealt-count, small));
  }

  -- what explains all dealt shares explains the first t - 1
  first-explained : (ps : List (List F)) → AreExplained t D.all dealt ps → t ≤ n + 1 → AreExplained (length (take (t - 1) dealt) + 1) D.all (take (t - 1) dealt) ps
  first-explained ps h enough =
      let some_first : length (take (t - 1) dealt) + 1 ≡ t = omega (arith, enough, some, dealt-count, length-take (t - 1) dealt) in
      subst (λ m. AreExplained m D.all (take (t - 1) dealt) ps) (sym some_first) record {
        width = All-take (λ (s : SecretShare). length s.values.items ≡ length D.all) (t - 1) dealt h.width;
        count = h.count;
        each = λ j l. let e = h.each j l in record {
          count = e.count;
          constant = e.constant;
          values = subst (AreSharesOf goldilocks (get_or ps j [])) (take-map (share_of j) (t - 1) dealt)
              (All-take (λ (s : Share F). same s.value (value_in_ring goldilocks (get_or ps j []) (point goldilocks s.index))) (t - 1) (column j dealt) e.values);
        };
      }

  pub alone : t ≤ n + 1 → (others : List (List F)) → AreExplained t D.all dealt others → others ≡ D.polynomials
  alone enough others h =
      let mine = explained dealt (All-contains_itself dealt) in
      let once = each-explains (take (t - 1) dealt) D.all first-shares (All-take (λ (s : SecretShare). length s.values.items ≡ length D.all) (t - 1) dealt mine.width) in
      let at : (ps : List (List F)) → AreExplained t D.all dealt ps → ps ≡ once.0 =
      λ ps e. same_lists ps once.0 (e.count ∙ sym once.1.count) (λ j l. once.2 ps (first-explained ps e enough) j (omega (arith, l, e.count))) in
      at others h ∙ sym (at D.polynomials mine)

pub deals-explained : DealsOfBytesAreExplained
deals-explained bytes t n before after dealt some small D = record {
  identity = D.deal;
  key = D.keyed.key;
  all = D.all;
  polynomials = D.polynomials;
  drawn = drawn bytes t n before after dealt some small D;
  keyed = (D.keyed, refl);
  of_deal = λ k d l. (D.alike k d l).deal;
  explained = explained bytes t n before after dealt some small D;
  alone = alone bytes t n before after dealt some small D;
}

-- polynomials with as many coefficients and the same constants are the same where the others are
from-others : (t : ℕ) (all : List F) (ps qs : List (List F)) → 0 < t → length ps ≡ length all → length qs ≡ length all
    → ((j : ℕ) → j < length all → (length (get_or ps j []) ≡ t) × (length (get_or qs j []) ≡ t) × (get_or (get_or ps j []) 0 (residue 0) ≡ get_or (get_or qs j []) 0 (residue 0)))
    → flat_map (drop 1) ps ≡ flat_map (drop 1) qs → ps ≡ qs
from-others t [] [] [] some e f h g = refl
from-others t [] (p ∷ ps) qs some e f h g = absurd (omega (arith, e))
from-others t [] [] (q ∷ qs) some e f h g = absurd (omega (arith, f))
from-others t (a ∷ all) [] qs some e f h g = absurd (omega (arith, e))
from-others t (a ∷ all) (p ∷ ps) [] some e f h g = absurd (omega (arith, f))
from-others t (a ∷ all) (p ∷ ps) (q ∷ qs) some e f h g =
    let here = h 0 (omega arith) in
    let sizes : length (drop 1 p) ≡ length (drop 1 q) = omega (arith, here.0, here.1, length-drop 1 p, length-drop 1 q) in
    let parts = equal_parts (drop 1 p) (flat_map (drop 1) ps) (drop 1 q) (flat_map (drop 1) qs) g sizes in
    ap₂ (λ x xs. x ∷ xs) (from-rest p q (omega (arith, some, here.0)) (omega (arith, some, here.1)) here.2 parts.0)
    (from-others t all ps qs some (omega (arith, e)) (omega (arith, f)) (λ j l. h (suc j) (omega (arith, l))) parts.1)
  where
    from-rest : (p q : List F) → 0 < length p → 0 < length q → get_or p 0 (residue 0) ≡ get_or q 0 (residue 0) → drop 1 p ≡ drop 1 q → p ≡ q
    from-rest [] q l m e f = absurd (omega (arith, l))
    from-rest (x ∷ p) [] l m e f = absurd (omega (arith, m))
    from-rest (x ∷ p) (y ∷ q) l m e f = ap₂ (λ z zs. z ∷ zs) e f

pub explanations-dealt : ExplanationsAreDealt
explanations-dealt bytes t n before after dealt shares identity d h some small D source s u in_shares in_dealt same_index =
    ext_get_or (residue 0) u.values.items s.values.items (u_width ∙ sym s_width) values
  where
    drawn_alike : draws D.deal D.keyed.key D.polynomials ≡ draws identity h.0.key d.1
    drawn_alike = same_Some _ _ (ap (λ p. p.0) (sym (drawn bytes t n before after dealt some small D) ∙ source))

    keys : D.keyed.key ≡ h.0.key
    keys = ap (λ xs. get_or xs 1 D.keyed.key) drawn_alike

    all_alike : D.all ≡ d.0
    all_alike = keyed-alone h.0.key bytes d.0 D.all (h.0, refl) (D.keyed, keys)

    E : AreExplained t D.all shares d.1
    E = subst (λ (es : List F). AreExplained t es shares d.1) (sym all_alike) h.1

    mine : AreExplained t D.all dealt D.polynomials
    mine = explained bytes t n before after dealt some small D dealt (All-contains_itself dealt)

    polynomials_alike : D.polynomials ≡ d.1
    polynomials_alike =
        from-others t D.all D.polynomials d.1 some mine.count E.count
        (λ j l. ((mine.each j l).count, (E.each j l).count, same_number _ _ ((mine.each j l).constant ∙ sym (E.each j l).constant)))
        (ap (drop 2) drawn_alike)

    u_width : length u.values.items ≡ length D.all
    u_width = All-contains (λ (v : SecretShare). length v.values.items ≡ length D.all) dealt u mine.width in_dealt

    s_width : length s.values.items ≡ length D.all
    s_width = All-contains (λ (v : SecretShare). length v.values.items ≡ length D.all) shares s E.width in_shares

    -- the value of a share that is explained
    value-of : (given : List SecretShare) (ps : List (List F)) → AreExplained t D.all given ps → (v : SecretShare) → Contains given v → (j : ℕ) → j < length D.all
        → same (get_or v.values.items j (residue 0)) (value_in_ring goldilocks (get_or ps j []) (point goldilocks v.index))
    value-of given ps e v c j l =
        let there : get_or (column j given) c.0 (share_of j v) ≡ share_of j v = get_or-map (share_of j) given c.0 v (share_of j v) c.1 ∙ ap (share_of j) c.2 in
        subst (λ (w : Share F). same w.value (value_in_ring goldilocks (get_or ps j []) (point goldilocks w.index))) there
        ((e.each j l).values c.0 (share_of j v) (omega (arith, c.1, length-map given (share_of j))))

    values : (j : ℕ) → j < length u.values.items → get_or u.values.items j (residue 0) ≡ get_or s.values.items j (residue 0)
    values j l =
        let below : j < length D.all = omega (arith, l, u_width) in
        let at_u = value-of dealt D.polynomials mine u in_dealt j below in
        let at_s = value-of shares d.1 E s in_shares j below in
        let polynomials : number (value_in_ring goldilocks (get_or D.polynomials j []) (point goldilocks u.index)) ≡ number (value_in_ring goldilocks (get_or d.1 j []) (point goldilocks s.index)) =
        ap₂ (λ ps i. number (value_in_ring goldilocks (get_or ps j []) (point goldilocks i))) polynomials_alike same_index in
        same_number _ _ (at_u ∙ polynomials ∙ sym at_s)
