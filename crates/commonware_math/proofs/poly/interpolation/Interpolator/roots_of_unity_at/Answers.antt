use Rattle.std.proofs.Common.{◌≡◌, ◌∙◌, ◌++◌, refl, ◌^◌, ℕ, List, ap, ap₂, sym, subst, length}
use Rattle.std.proofs.lemmas.List.{length-map}
use Rattle.std.proofs.lemmas.Map.Made.{keys_of-zip}
use Rattle.std.proofs.lemmas.Slice.Zip.{seconds-zip}
use Rattle.std.specs.List.{AllZip, zip}
use Rattle.std.specs.List.Sorted.{IsStrictlySortedBy}
use Rattle.std.specs.Map.{keys_of, values_of}
use Rattle.std.specs.Ordering.{nat_cmp}
use Rattle.math_codec.specs.OrderedMaps.{first_pair}
use Rattle.math_codec.proofs.ItemsSoFar.{vec_items}
use Rattle.math_codec.proofs.MapParts.{zip_of_parts}
use Rattle.math_base.specs.Members.{RingOf}
use Rattle.math_transforms.specs.RootWeights.{AreIndicesBelow}
use Rattle.commonware_math.specs.RootInterpolators.{pairs_below, weighted_pairs, weight_at}
use Rattle.commonware_math.proofs.KeyedRoots.{keyed-roots, weighted-kept, rise-kept, Differ-distinct, AllZip-places}
use Rattle.commonware_math.proofs.poly.interpolation.Interpolator.roots_of_unity_at.Goals as goal

pub from_parts-weights-requires-clause-rise : goal.from_parts-weights-requires-clause-rise
from_parts-weights-requires-clause-rise g c =
    let points = c.args.points in
    let total = c.args.total.value in
    let ws = c.in_ok-weights.weights.items in
    let q = c.in_ok-weights.ensures.indices in
    let p = c.in_ok-weights-2.ensures in
    let keys : c.into_parts-keys.result.0.items ≡ keys_of points = c.into_parts-keys.ensures.keys ∙ ap keys_of c.into_map.ensures.pairs in
    let indices : c.into_parts-keys.result.1.items ≡ values_of points = c.into_parts-keys.ensures.values ∙ ap values_of c.into_map.ensures.pairs in
    let copies : q.1 ≡ values_of points =
    vec_items q.0 q.1 c.extend_from_slice.new.self.items q.3 q.2.0 (q.2.1 ∙ c.extend_from_slice.new.self.ok.0)
    ∙ c.in_ok-extend_from_slice.ensures.items ∙ ap₂ (λ (xs ys : List ℕ). xs ++ ys) c.new-copy.ensures.items c.deref.ensures.value ∙ indices in
    let h : AreIndicesBelow total (values_of points) (keys_of ws) = subst (λ xs. AreIndicesBelow total xs (keys_of ws)) copies q.4 in
    let taken : p.1 ≡ ws = vec_items p.0 p.1 ws p.3 p.2.0 (p.2.1 ∙ c.in_ok-weights.weights.ok.0) in
    let first : (i : ℕ) → first_pair nat_cmp i c.in_ok-weights-2.weights ≡ first_pair nat_cmp i ws = λ i. p.4.1 i ∙ ap (first_pair nat_cmp i) taken in
    let kept : weighted_pairs c.in_ok-weights-2.weights (zip c.into_parts-keys.result.0.items c.into_parts-keys.result.1.items) ≡ pairs_below total points =
    ap (weighted_pairs c.in_ok-weights-2.weights) (ap₂ zip keys indices ∙ zip_of_parts points) ∙ weighted-kept total points (keys_of ws) h ws c.in_ok-weights-2.weights refl first in
    let out : c.in_ok-keys.keys.items ≡ keys_of (pairs_below total points) = c.in_ok-keys.ensures.keys ∙ ap keys_of kept in
    let risen : IsStrictlySortedBy g.I.Ord.cmp (keys_of points) = subst (λ ps. IsStrictlySortedBy g.I.Ord.cmp (keys_of ps)) c.into_map.ensures.pairs c.into_parts-keys.ensures.rise in
    subst (IsStrictlySortedBy g.I.Ord.cmp) (sym out) (rise-kept total g.I.Ord.cmp points risen)

pub from_parts-weights-requires-clause-count : goal.from_parts-weights-requires-clause-count
from_parts-weights-requires-clause-count g c =
    let points = c.args.points in
    let total = c.args.total.value in
    let ws = c.in_ok-weights.weights.items in
    let q = c.in_ok-weights.ensures.indices in
    let p = c.in_ok-weights-2.ensures in
    let keys : c.into_parts-keys.result.0.items ≡ keys_of points = c.into_parts-keys.ensures.keys ∙ ap keys_of c.into_map.ensures.pairs in
    let indices : c.into_parts-keys.result.1.items ≡ values_of points = c.into_parts-keys.ensures.values ∙ ap values_of c.into_map.ensures.pairs in
    let copies : q.1 ≡ values_of points =
    vec_items q.0 q.1 c.extend_from_slice.new.self.items q.3 q.2.0 (q.2.1 ∙ c.extend_from_slice.new.self.ok.0)
    ∙ c.in_ok-extend_from_slice.ensures.items ∙ ap₂ (λ (xs ys : List ℕ). xs ++ ys) c.new-copy.ensures.items c.deref.ensures.value ∙ indices in
    let h : AreIndicesBelow total (values_of points) (keys_of ws) = subst (λ xs. AreIndicesBelow total xs (keys_of ws)) copies q.4 in
    let taken : p.1 ≡ ws = vec_items p.0 p.1 ws p.3 p.2.0 (p.2.1 ∙ c.in_ok-weights.weights.ok.0) in
    let first : (i : ℕ) → first_pair nat_cmp i c.in_ok-weights-2.weights ≡ first_pair nat_cmp i ws = λ i. p.4.1 i ∙ ap (first_pair nat_cmp i) taken in
    let kept : weighted_pairs c.in_ok-weights-2.weights (zip c.into_parts-keys.result.0.items c.into_parts-keys.result.1.items) ≡ pairs_below total points =
    ap (weighted_pairs c.in_ok-weights-2.weights) (ap₂ zip keys indices ∙ zip_of_parts points) ∙ weighted-kept total points (keys_of ws) h ws c.in_ok-weights-2.weights refl first in
    let out : c.in_ok-keys.keys.items ≡ keys_of (pairs_below total points) = c.in_ok-keys.ensures.keys ∙ ap keys_of kept in
    let zipped : AllZip (λ v i. g.F.Object.same v (weight_at g.F.Additive.zero c.in_ok-weights-2.weights i)) c.in_ok-keys.values.items (values_of (pairs_below total points)) =
    subst (λ ps. AllZip (λ v i. g.F.Object.same v (weight_at g.F.Additive.zero c.in_ok-weights-2.weights i)) c.in_ok-keys.values.items (values_of ps)) kept c.in_ok-keys.ensures.weights in
    let count : length c.in_ok-keys.values.items ≡ length c.in_ok-keys.keys.items =
    (AllZip-places (λ v i. g.F.Object.same v (weight_at g.F.Additive.zero c.in_ok-weights-2.weights i)) g.F.Additive.zero c.in_ok-keys.values.items (values_of (pairs_below total points)) zipped).0
    ∙ length-map (pairs_below total points) (λ p. p.1) ∙ sym (length-map (pairs_below total points) (λ p. p.0)) ∙ ap length (sym out) in
    count

pub returns-clause-keys : goal.returns-clause-keys
returns-clause-keys g c =
    let points = c.args.points in
    let total = c.args.total.value in
    let ws = c.in_ok-weights.weights.items in
    let q = c.in_ok-weights.ensures.indices in
    let p = c.in_ok-weights-2.ensures in
    let keys : c.into_parts-keys.result.0.items ≡ keys_of points = c.into_parts-keys.ensures.keys ∙ ap keys_of c.into_map.ensures.pairs in
    let indices : c.into_parts-keys.result.1.items ≡ values_of points = c.into_parts-keys.ensures.values ∙ ap values_of c.into_map.ensures.pairs in
    let copies : q.1 ≡ values_of points =
    vec_items q.0 q.1 c.extend_from_slice.new.self.items q.3 q.2.0 (q.2.1 ∙ c.extend_from_slice.new.self.ok.0)
    ∙ c.in_ok-extend_from_slice.ensures.items ∙ ap₂ (λ (xs ys : List ℕ). xs ++ ys) c.new-copy.ensures.items c.deref.ensures.value ∙ indices in
    let h : AreIndicesBelow total (values_of points) (keys_of ws) = subst (λ xs. AreIndicesBelow total xs (keys_of ws)) copies q.4 in
    let taken : p.1 ≡ ws = vec_items p.0 p.1 ws p.3 p.2.0 (p.2.1 ∙ c.in_ok-weights.weights.ok.0) in
    let first : (i : ℕ) → first_pair nat_cmp i c.in_ok-weights-2.weights ≡ first_pair nat_cmp i ws = λ i. p.4.1 i ∙ ap (first_pair nat_cmp i) taken in
    let kept : weighted_pairs c.in_ok-weights-2.weights (zip c.into_parts-keys.result.0.items c.into_parts-keys.result.1.items) ≡ pairs_below total points =
    ap (weighted_pairs c.in_ok-weights-2.weights) (ap₂ zip keys indices ∙ zip_of_parts points) ∙ weighted-kept total points (keys_of ws) h ws c.in_ok-weights-2.weights refl first in
    let out : c.in_ok-keys.keys.items ≡ keys_of (pairs_below total points) = c.in_ok-keys.ensures.keys ∙ ap keys_of kept in
    let zipped : AllZip (λ v i. g.F.Object.same v (weight_at g.F.Additive.zero c.in_ok-weights-2.weights i)) c.in_ok-keys.values.items (values_of (pairs_below total points)) =
    subst (λ ps. AllZip (λ v i. g.F.Object.same v (weight_at g.F.Additive.zero c.in_ok-weights-2.weights i)) c.in_ok-keys.values.items (values_of ps)) kept c.in_ok-keys.ensures.weights in
    let count : length c.in_ok-keys.values.items ≡ length c.in_ok-keys.keys.items =
    (AllZip-places (λ v i. g.F.Object.same v (weight_at g.F.Additive.zero c.in_ok-weights-2.weights i)) g.F.Additive.zero c.in_ok-keys.values.items (values_of (pairs_below total points)) zipped).0
    ∙ length-map (pairs_below total points) (λ p. p.1) ∙ sym (length-map (pairs_below total points) (λ p. p.0)) ∙ ap length (sym out) in
    ap keys_of c.from_parts-weights.ensures ∙ keys_of-zip c.in_ok-keys.keys.items c.in_ok-keys.values.items count ∙ out

pub returns-clause-weights : goal.returns-clause-weights
returns-clause-weights g c = λ lg hlg.
    let Q : RingOf g.row.F.Denot = record {
      product = g.F.Multiplicative.product;
      debug_output = g.F.Debug.debug_output;
      same = g.F.Object.same;
      NEVER_REFUSES = g.F.Object.NEVER_REFUSES;
      zero = g.F.Additive.zero;
      sum = g.F.Additive.sum;
      negative = g.F.Additive.negative;
      one = g.F.Ring.one;
    } in
    let F = g.met.F in
    let points = c.args.points in
    let total = c.args.total.value in
    let ws = c.in_ok-weights.weights.items in
    let q = c.in_ok-weights.ensures.indices in
    let p = c.in_ok-weights-2.ensures in
    let keys : c.into_parts-keys.result.0.items ≡ keys_of points = c.into_parts-keys.ensures.keys ∙ ap keys_of c.into_map.ensures.pairs in
    let indices : c.into_parts-keys.result.1.items ≡ values_of points = c.into_parts-keys.ensures.values ∙ ap values_of c.into_map.ensures.pairs in
    let copies : q.1 ≡ values_of points =
    vec_items q.0 q.1 c.extend_from_slice.new.self.items q.3 q.2.0 (q.2.1 ∙ c.extend_from_slice.new.self.ok.0)
    ∙ c.in_ok-extend_from_slice.ensures.items ∙ ap₂ (λ (xs ys : List ℕ). xs ++ ys) c.new-copy.ensures.items c.deref.ensures.value ∙ indices in
    let h : AreIndicesBelow total (values_of points) (keys_of ws) = subst (λ xs. AreIndicesBelow total xs (keys_of ws)) copies q.4 in
    let taken : p.1 ≡ ws = vec_items p.0 p.1 ws p.3 p.2.0 (p.2.1 ∙ c.in_ok-weights.weights.ok.0) in
    let first : (i : ℕ) → first_pair nat_cmp i c.in_ok-weights-2.weights ≡ first_pair nat_cmp i ws = λ i. p.4.1 i ∙ ap (first_pair nat_cmp i) taken in
    let kept : weighted_pairs c.in_ok-weights-2.weights (zip c.into_parts-keys.result.0.items c.into_parts-keys.result.1.items) ≡ pairs_below total points =
    ap (weighted_pairs c.in_ok-weights-2.weights) (ap₂ zip keys indices ∙ zip_of_parts points) ∙ weighted-kept total points (keys_of ws) h ws c.in_ok-weights-2.weights refl first in
    let out : c.in_ok-keys.keys.items ≡ keys_of (pairs_below total points) = c.in_ok-keys.ensures.keys ∙ ap keys_of kept in
    let zipped : AllZip (λ v i. g.F.Object.same v (weight_at g.F.Additive.zero c.in_ok-weights-2.weights i)) c.in_ok-keys.values.items (values_of (pairs_below total points)) =
    subst (λ ps. AllZip (λ v i. g.F.Object.same v (weight_at g.F.Additive.zero c.in_ok-weights-2.weights i)) c.in_ok-keys.values.items (values_of ps)) kept c.in_ok-keys.ensures.weights in
    let count : length c.in_ok-keys.values.items ≡ length c.in_ok-keys.keys.items =
    (AllZip-places (λ v i. g.F.Object.same v (weight_at g.F.Additive.zero c.in_ok-weights-2.weights i)) g.F.Additive.zero c.in_ok-keys.values.items (values_of (pairs_below total points)) zipped).0
    ∙ length-map (pairs_below total points) (λ p. p.1) ∙ sym (length-map (pairs_below total points) (λ p. p.0)) ∙ ap length (sym out) in
    let risen : IsStrictlySortedBy g.I.Ord.cmp (keys_of points) = subst (λ ps. IsStrictlySortedBy g.I.Ord.cmp (keys_of ps)) c.into_map.ensures.pairs c.into_parts-keys.ensures.rise in
    keyed-roots Q F.Object.equality F.Additive.group F.Multiplicative.commutes F.Ring.ring F.Field.field (g.F.FieldNTT.root lg) (2 ^ lg) (F.FieldNTT.roots.order lg (c.requires lg hlg))
    g.I.Ord.cmp c.args.x.now total points ws c.in_ok-weights-2.weights c.from_parts-weights.result c.in_ok-keys.values.items risen
    (Differ-distinct (values_of points) c.into_map.ensures.differ) hlg.1 h first zipped
    (ap keys_of c.from_parts-weights.ensures ∙ keys_of-zip c.in_ok-keys.keys.items c.in_ok-keys.values.items count ∙ out)
    (ap values_of c.from_parts-weights.ensures ∙ seconds-zip c.in_ok-keys.keys.items c.in_ok-keys.values.items count)
    (c.in_ok-weights.ensures.weights lg hlg)
