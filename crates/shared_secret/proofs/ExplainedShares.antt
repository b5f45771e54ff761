-- Shares at distinct points other than zero, fewer than t, are explained by each secret, and equally often by each.
use Rattle.std.proofs.Common.{◌≡◌, ◌∙◌, ℕ, zero, suc, ◌+◌, ◌-◌, ◌<◌, List, [], ◌∷◌, Option, length, map, take, drop, get_or, sym, ap, subst, arith}
use Rattle.std.specs.List.{All, AllZip, Contains}
use Rattle.std.proofs.lemmas.List.{get_or-map, get_or-take, length-drop, length-map, length-take, take-map}
use Rattle.std.proofs.Math.Seq.{drop-length}
use Rattle.std.proofs.lemmas.List.Elements.{All-contains, All-contains_itself, All-map, All-take, length_all_zip}
use Rattle.std.proofs.lemmas.List.FromFn.{length-range_with_len}
use Rattle.std.proofs.lemmas.Option.{get_or_from_slice_get, slice_get_within}
use Rattle.rand_core.specs.Stream.{Stream}
use Rattle.math_theory.specs.Interpolation.{AreApart}
use Rattle.math_theory.specs.Laws.{IsEquality, IsGroup, IsProduct, IsRing, IsField}
use Rattle.math_theory.specs.ModuleLaws.{ring_is_module}
use Rattle.math_theory.proofs.polynomials.Horner.{value_over-at_zero}
use Rattle.math_base.specs.Members.{RingOf}
use Rattle.math_base.specs.Polynomials.{value_in_ring}
use Rattle.shared_secret.specs.declared.shares.Share.{Share}
use Rattle.shared_secret.specs.Shares.{point, points, values, AreSharesOf, AreAtDistinctPoints, AreDealt, IsSampled}
use Rattle.shared_secret.specs.Explanations.{DealsAreExplained, Explains, EachSecretExplainsOnce, EachSecretExplainsByLast, EachSecretExplainsEquallyOften}
use Rattle.shared_secret.proofs.ExplainedValues.{explained, length-explained, last-explained, value-explained, agreed, zip-drop, zip-symmetric, zip-transitive, zip-reflexive}
use Rattle.shared_secret.proofs.ListsOfElements.{lists, length-lists, each-length, apart-lists, lists-every, pairs-map, contains-map}

module _ {A : Type 0} (R : RingOf A) {inverse : A → A} (E : IsEquality R.same) (G : IsGroup R.same R.zero R.sum R.negative) (P : IsProduct R.same R.product)
    (L : IsRing R.same R.sum R.product R.one) (F : IsField R.same R.zero R.product R.one inverse) where
  -- the polynomial that explains the shares by the secret, with these last coefficients
  abbrev explaining : List (Share A) → A → List A → List A
  explaining shares secret last = explained E G P L F secret (points R shares) (values shares) last

  count : (shares : List (Share A)) → length (points R shares) ≡ length (values shares)
  count shares = length-map shares (λ s. point R s.index) ∙ sym (length-map shares (λ s. s.value))

  nonzero : (shares : List (Share A)) → AreAtDistinctPoints R shares → (k : ℕ) → k < length (points R shares) → ¬ (R.same (get_or (points R shares) k R.zero) R.zero)
  nonzero shares h k l s = h.0 (k, R.zero, omega (arith, l, length-map shares (λ s. point R s.index)), s)

  point-at : (shares : List (Share A)) (k : ℕ) (d : Share A) → k < length shares → get_or (points R shares) k R.zero ≡ point R (get_or shares k d).index
  point-at shares k d l = get_or-map (λ s. point R s.index) shares k d R.zero l

  value-at : (shares : List (Share A)) (k : ℕ) (d : Share A) → k < length shares → get_or (values shares) k R.zero ≡ (get_or shares k d).value
  value-at shares k d l = get_or-map (λ s. s.value) shares k d R.zero l

  -- it has the shares
  has-shares : (shares : List (Share A)) (secret : A) (last : List A) → AreAtDistinctPoints R shares → AreSharesOf R (explaining shares secret last) shares
  has-shares shares secret last h k d l =
      let p = explaining shares secret last in
      let s = get_or shares k d in
      let there = value-explained E G P L F secret (points R shares) (values shares) last h.1 (nonzero shares h) (count shares) k (omega (arith, l, length-map shares (λ s. point R s.index))) in
      E.symmetric _ _ (subst (λ v. R.same (value_in_ring R p (point R s.index)) v) (value-at shares k d l)
      (subst (λ x. R.same (value_in_ring R p x) (get_or (values shares) k R.zero)) (point-at shares k d l) there))

  explains : (t : ℕ) (shares : List (Share A)) (secret : A) (last : List A) → AreAtDistinctPoints R shares → length shares + 1 + length last ≡ t
      → Explains R t secret shares (explaining shares secret last)
  explains t shares secret last h e = record {
    count = omega (arith, e, length-explained E G P L F secret (points R shares) (values shares) last (count shares), length-map shares (λ s. point R s.index));
    constant = E.reflexive secret;
    values = has-shares shares secret last h;
  }

  last-of : (shares : List (Share A)) (secret : A) (last : List A) → drop (length shares + 1) (explaining shares secret last) ≡ last
  last-of shares secret last =
      ap (λ n. drop (n + 1) (explaining shares secret last)) (sym (length-map shares (λ s. point R s.index)))
      ∙ last-explained E G P L F secret (points R shares) (values shares) last (count shares)

  -- zero and the points of the shares
  zero-apart : (shares : List (Share A)) → AreAtDistinctPoints R shares → AreApart R.same (R.zero ∷ points R shares)
  zero-apart shares h zero zero d l m = absurd (omega arith)
  zero-apart shares h zero (suc j) d l m = λ s. h.0 (j, d, omega (arith, m, length-map shares (λ s. point R s.index)), E.symmetric _ _ s)
  zero-apart shares h (suc i) zero d l m = absurd (omega arith)
  zero-apart shares h (suc i) (suc j) d l m = h.1 i j d (omega arith) (omega arith)

  same-values : (t : ℕ) (shares : List (Share A)) (secret : A) (p q : List A) → Explains R t secret shares p → Explains R t secret shares q
      → (k : ℕ) → k < length shares + 1 → R.same (value_in_ring R p (get_or (R.zero ∷ points R shares) k R.zero)) (value_in_ring R q (get_or (R.zero ∷ points R shares) k R.zero))
  same-values t shares secret p q hp hq zero l =
      let M = ring_is_module E G P L in
      E.transitive _ _ _ (value_over-at_zero E G M p) (E.transitive _ _ _ hp.constant
      (E.transitive _ _ _ (E.symmetric _ _ hq.constant) (E.symmetric _ _ (value_over-at_zero E G M q))))
  same-values t shares secret p q hp hq (suc k) l =
      let d : Share A = record { index = 0; value = R.zero } in
      let b : k < length shares = omega arith in
      subst (λ x. R.same (value_in_ring R p x) (value_in_ring R q x)) (sym (point-at shares k d b)) (E.transitive _ _ _ (E.symmetric _ _ (hp.values k d b)) (hq.values k d b))

  -- what explains the shares by one secret with the same last coefficients is the same
  alone : (t : ℕ) (shares : List (Share A)) (secret : A) (p q : List A) → AreAtDistinctPoints R shares → length shares < t → Explains R t secret shares p → Explains R t secret shares q
      → AllZip R.same (drop (length shares + 1) p) (drop (length shares + 1) q) → AllZip R.same p q
  alone t shares secret p q h l hp hq e =
      agreed E G P L F (length shares + 1) (R.zero ∷ points R shares) p q (zero-apart shares h) (omega (arith, length-map shares (λ s. point R s.index))) (hp.count ∙ sym hq.count)
      (omega (arith, l, hp.count)) e (same-values t shares secret p q hp hq)

  pub by_last : EachSecretExplainsByLast R
  by_last t shares secret last h e =
      let p = explaining shares secret last in
      let hp = explains t shares secret last h e in
      let ends : AllZip R.same (drop (length shares + 1) p) last = subst (λ a. AllZip R.same a last) (sym (last-of shares secret last)) (zip-reflexive E G P L F last) in (
        p,
        hp,
        ends,
        λ q hq s. alone t shares secret q p h (omega (arith, e)) hq hp (zip-transitive E G P L F _ _ _ s (zip-symmetric E G P L F _ _ ends)),
      )

  none-left : (n : ℕ) (p : List A) → length p ≡ n → drop n p ≡ []
  none-left n p e = ap (λ k. drop k p) (sym e) ∙ drop-length p

  pub once : EachSecretExplainsOnce R
  once shares secret h =
      let n = length shares + 1 in
      let all = by_last n shares secret [] h (omega arith) in
      (all.0, (all.1, λ q hq. all.3 q hq (subst (λ a. AllZip R.same a []) (sym (none-left n q hq.count)) tt)))

  explains-some : (sample : Stream → Option A × Stream) (secret : A) (t n : ℕ) (before after : Stream) (p : List A) (dealt shares : List (Share A)) → IsSampled sample secret t before after p
      → AreDealt R n p dealt → All (Contains dealt) shares → Explains R t secret shares p
  explains-some sample secret t n before after p dealt shares S D h = record {
    count = S.count;
    constant = subst (λ c. R.same c secret) (sym (get_or_from_slice_get p 0 secret R.zero S.constant)) (E.reflexive secret);
    values = λ k d l. All-contains (λ s. R.same s.value (value_in_ring R p (point R s.index))) dealt (get_or shares k d) D.values (h k d l);
  }

  -- what explains shares explains the first of them
  explains-first : (m t : ℕ) (secret : A) (shares : List (Share A)) (p : List A) → Explains R t secret shares p → Explains R t secret (take m shares) p
  explains-first m t secret shares p h =
      record { count = h.count; constant = h.constant; values = All-take (λ s. R.same s.value (value_in_ring R p (point R s.index))) m shares h.values }

  first-distinct : (m : ℕ) (shares : List (Share A)) → AreAtDistinctPoints R shares → AreAtDistinctPoints R (take m shares)
  first-distinct m shares h =
      let some : take m (points R shares) ≡ points R (take m shares) = take-map (λ s. point R s.index) m shares in (
        λ z.
            let within : z.0 < length shares = omega (arith, z.2, length-take m shares) in
            let below : z.0 < m = omega (arith, z.2, length-take m shares) in
            h.0 (z.0, z.1, within, subst (λ x. R.same x R.zero) (ap (λ xs. get_or xs z.0 z.1) (sym some) ∙ get_or-take m (points R shares) z.0 z.1 below) z.3),
        λ i j x l b s.
            let size : length (points R (take m shares)) ≡ length (take m shares) = length-map (take m shares) (λ s. point R s.index) in
            let all : length (points R shares) ≡ length shares = length-map shares (λ s. point R s.index) in
            let within : j < length (points R shares) = omega (arith, b, size, all, length-take m shares) in
            let below : j < m = omega (arith, b, size, length-take m shares) in
            let first : get_or (points R (take m shares)) i x ≡ get_or (points R shares) i x = ap (λ xs. get_or xs i x) (sym some) ∙ get_or-take m (points R shares) i x (omega (arith, l, below)) in
            let second : get_or (points R (take m shares)) j x ≡ get_or (points R shares) j x = ap (λ xs. get_or xs j x) (sym some) ∙ get_or-take m (points R shares) j x below in
            h.1 i j x l within (subst (λ v. R.same (get_or (points R shares) i x) v) second (subst (λ v. R.same v (get_or (points R (take m shares)) j x)) first s)),
      )

  pub deals : (sample : Stream → Option A × Stream) → DealsAreExplained R sample
  deals sample secret t n before after p dealt S D = (
    λ shares h. explains-some sample secret t n before after p dealt shares S D h,
    λ enough distinct q hq.
        let count : length dealt ≡ n = sym (length-map dealt (λ u. u.index)) ∙ ap length D.indices ∙ length-range_with_len 1 n in
        let first = take (t - 1) dealt in
        let mine : Explains R t secret first p = explains-first (t - 1) t secret dealt p (explains-some sample secret t n before after p dealt dealt S D (All-contains_itself dealt)) in
        let other : Explains R t secret first q = explains-first (t - 1) t secret dealt q hq in
        let some : 0 < t = omega (arith, slice_get_within p 0 secret S.constant, S.count) in
        let size : length first + 1 ≡ t = omega (arith, enough, some, count, length-take (t - 1) dealt) in
        let only = once first secret (first-distinct (t - 1) dealt distinct) in
        let like : (r : List A) → Explains R t secret first r → AllZip R.same r only.0 = λ r h. only.1.1 r (subst (λ m. Explains R m secret first r) (sym size) h) in
        zip-transitive E G P L F _ _ _ (like q other) (zip-symmetric E G P L F _ _ (like p mine)),
  )

  pub equally : EachSecretExplainsEquallyOften R
  equally elements t shares secret es h l =
      let k = t - 1 - length shares in
      let n = length shares + 1 in
      let all = lists R.same elements k in
      let f : List A → List A = explaining shares secret in
      let ends : (a b : List A) → AllZip R.same (f a) (f b) → AllZip R.same a b = λ a b s.
      subst (λ x. AllZip R.same x b) (last-of shares secret a)
      (subst (λ y. AllZip R.same (drop n (f a)) y) (last-of shares secret b) (zip-drop R.same n (f a) (f b) s)) in (
        map f all,
        record {
          each = All-map (Explains R t secret shares) f all
              (λ i d m. explains t shares secret (get_or all i d) h (omega (arith, l, each-length R.same elements k i d m)));
          apart = pairs-map (λ x y. ¬ (AllZip R.same x y)) f all (λ i j d m o s. apart-lists R.same elements k es.apart i j d m o (ends (get_or all i d) (get_or all j d) s));
          every = λ q hq.
              let rest = drop n q in
              let size : length rest ≡ k = omega (arith, l, hq.count, length-drop n q) in
              let found = lists-every R.same elements es.every rest in
              let last = found.0 in
              let some : Contains all last = subst (λ m. Contains (lists R.same elements m) last) size found.1 in
              let fits : length shares + 1 + length last ≡ t = omega (arith, l, size, length_all_zip R.same rest last found.2) in
              let p = f last in (
                p,
                contains-map f all last some,
                alone t shares secret q p h l hq (explains t shares secret last h fits)
                    (subst (λ y. AllZip R.same rest y) (sym (last-of shares secret last)) found.2),
              );
        },
        length-map all f ∙ length-lists R.same elements k,
      )
