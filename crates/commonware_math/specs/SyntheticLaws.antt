-- Combinations, equal where their weights and the sums of their points are, are a module.
use Rattle.std.proofs.Common.{ℕ, Bool, true, false, eqb, cond, append_assoc, List, [], ◌∷◌, ◌++◌}
use Rattle.math_theory.specs.Laws.{IsEquality, IsGroup, IsProduct, IsRing, IsModule}
use Rattle.math_theory.specs.ModuleLaws.{double_itself, ring_is_module}
use Rattle.commonware_math.specs.Synthetics.{IsAdditiveMap, weight_at, AreSameCombinations, map_weights, combination_zero, combination_sum, combination_negative, combination_multiple}

pub combinations_equality : {A B : Type 0} {same : A → A → Type 0} {same_point : B → B → Type 0} (zero : A) (sum : A → A → A) → IsEquality same → IsEquality same_point
    → IsEquality (AreSameCombinations {A = A} {B = B} same zero sum same_point)
combinations_equality zero sum E E' = record {
  prop = λ c d. let w = E.prop in let p = E'.prop in hlevel (w, p);
  reflexive = λ c. record { weights = λ i. E.reflexive _; points = E'.reflexive _ };
  symmetric = λ c d h. record { weights = λ i. E.symmetric _ _ (h.weights i); points = E'.symmetric _ _ h.points };
  transitive = λ c d e h k. record { weights = λ i. E.transitive _ _ _ (h.weights i) (k.weights i); points = E'.transitive _ _ _ h.points k.points };
}

module _ {A : Type 0} {same : A → A → Type 0} {zero : A} {sum : A → A → A} {negative : A → A} (E : IsEquality same) (G : IsGroup same zero sum negative) where
  pub exchange : (a b c d : A) → same (sum (sum a b) (sum c d)) (sum (sum a c) (sum b d))
  exchange a b c d =
      let s = E.symmetric in
      grw (E.transitive, E.reflexive, G.respects_sum, G.associative a b (sum c d), s _ _ (G.associative b c d), G.commutative b c, G.associative c b d, s _ _ (G.associative a c (sum b d)))

  -- what gives zero with a is its negative
  pub only_negative : (a b : A) → same (sum a b) zero → same b (negative a)
  only_negative a b h =
      let s = E.symmetric in
      let t = E.transitive in
      t _ _ _ (s _ _ (G.identity b)) (t _ _ _ (G.respects_sum _ _ _ _ (s _ _ (t _ _ _ (G.commutative _ _) (G.inverse a))) (E.reflexive b))
      (t _ _ _ (G.associative (negative a) a b) (t _ _ _ (G.respects_sum _ _ _ _ (E.reflexive _) h) (t _ _ _ (G.commutative _ _) (G.identity _)))))

  pub negative_of_sum : (a b : A) → same (negative (sum a b)) (sum (negative a) (negative b))
  negative_of_sum a b =
      E.symmetric _ _ (only_negative (sum a b) (sum (negative a) (negative b))
      (E.transitive _ _ _ (exchange a b (negative a) (negative b)) (E.transitive _ _ _ (G.respects_sum _ _ _ _ (G.inverse a) (G.inverse b)) (G.identity zero))))

  -- one term more, or not
  weight_of_choice : (b : Bool) (w p q r : A) → same p (sum q r) → same (cond b (sum w p) p) (sum (cond b (sum w q) q) r)
  weight_of_choice true w p q r h = E.transitive _ _ _ (G.respects_sum _ _ _ _ (E.reflexive w) h) (E.symmetric _ _ (G.associative w q r))
  weight_of_choice false w p q r h = h

  -- the weight in two lists together is the sum of the weights in each
  pub weight_at-append : (a b : List (ℕ × A)) (i : ℕ) → same (weight_at zero sum i (a ++ b)) (sum (weight_at zero sum i a) (weight_at zero sum i b))
  weight_at-append [] b i = E.symmetric _ _ (G.identity _)
  weight_at-append (term ∷ a) b i = weight_of_choice (eqb i term.0) term.1 _ _ _ (weight_at-append a b i)

module _ {A : Type 0} {same : A → A → Type 0} {zero : A} {sum : A → A → A} {negative : A → A} (E : IsEquality same) (G : IsGroup same zero sum negative)
    {f : A → A} (M : IsAdditiveMap same sum f) where
  weight_of_choice_map : (b : Bool) (w p q : A) → same p (f q) → same (cond b (sum (f w) p) p) (f (cond b (sum w q) q))
  weight_of_choice_map true w p q h = E.transitive _ _ _ (G.respects_sum _ _ _ _ (E.reflexive _) h) (E.symmetric _ _ (M.of_sum w q))
  weight_of_choice_map false w p q h = h

  pub additive_of_zero : same (f zero) zero
  additive_of_zero = double_itself E G (f zero) (E.transitive _ _ _ (E.symmetric _ _ (M.of_sum zero zero)) (M.respects _ _ (G.identity zero)))

  -- the weight in the list under f is f's answer at the weight
  pub weight_at-map : (a : List (ℕ × A)) (i : ℕ) → same (weight_at zero sum i (map_weights f a)) (f (weight_at zero sum i a))
  weight_at-map [] i = E.symmetric _ _ additive_of_zero
  weight_at-map (term ∷ a) i = weight_of_choice_map (eqb i term.0) term.1 _ _ (weight_at-map a i)

module _ {A B : Type 0} {same : A → A → Type 0} {zero : A} {sum : A → A → A} {negative : A → A} {same_point : B → B → Type 0} {zero_point : B} {sum_points : B → B → B} {negative_point : B → B}
    (E : IsEquality same) (G : IsGroup same zero sum negative) (E' : IsEquality same_point) (G' : IsGroup same_point zero_point sum_points negative_point) where
  pub combinations_group : IsGroup (AreSameCombinations same zero sum same_point) (combination_zero zero_point) (combination_sum sum_points) (combination_negative negative negative_point)
  combinations_group =
      let s = E.symmetric in
      let t = E.transitive in
      let at = weight_at-append E G in
      let N : IsAdditiveMap same sum negative = record { respects = G.respects_negative; of_sum = negative_of_sum E G } in
      record {
        respects_sum = λ a b c d h k. record {
          weights = λ i. t _ _ _ (at a.0 c.0 i) (t _ _ _ (G.respects_sum _ _ _ _ (h.weights i) (k.weights i)) (s _ _ (at b.0 d.0 i)));
          points = G'.respects_sum _ _ _ _ h.points k.points;
        };
        respects_negative = λ a b h. record {
          weights = λ i. t _ _ _ (weight_at-map E G N a.0 i) (t _ _ _ (G.respects_negative _ _ (h.weights i)) (s _ _ (weight_at-map E G N b.0 i)));
          points = G'.respects_negative _ _ h.points;
        };
        commutative = λ a b. record {
          weights = λ i. t _ _ _ (at a.0 b.0 i) (t _ _ _ (G.commutative _ _) (s _ _ (at b.0 a.0 i)));
          points = G'.commutative _ _;
        };
        associative = λ a b c. record { weights = λ i. rw append_assoc (E.reflexive _); points = G'.associative _ _ _ };
        identity = λ a. record { weights = λ i. E.reflexive _; points = G'.identity _ };
        inverse = λ a. record {
          weights = λ i. t _ _ _ (at a.0 (map_weights negative a.0) i) (t _ _ _ (G.respects_sum _ _ _ _ (E.reflexive _) (weight_at-map E G N a.0 i)) (G.inverse _));
          points = G'.inverse _;
        };
      }

module _ {A B : Type 0} {same : A → A → Type 0} {zero : A} {sum : A → A → A} {negative : A → A} {product : A → A → A} {one : A}
    {same_point : B → B → Type 0} {zero_point : B} {sum_points : B → B → B} {scaling : B → A → B}
    (E : IsEquality same) (G : IsGroup same zero sum negative) (P : IsProduct same product) (R : IsRing same sum product one)
    (M : IsModule same_point zero_point sum_points scaling same zero sum product one) where
  pub combinations_module : IsModule (AreSameCombinations same zero sum same_point) (combination_zero zero_point) (combination_sum sum_points)
      (combination_multiple product scaling) same zero sum product one
  combinations_module =
      let s = E.symmetric in
      let t = E.transitive in
      let W = ring_is_module E G P R in
      let N : (x : A) → IsAdditiveMap same sum (λ w. product w x) = λ x. record { respects = λ a b. W.respects_points a b x; of_sum = λ a b. W.sum_of_points a b x } in
      let at : (a : List (ℕ × A)) (x : A) (i : ℕ) → same (weight_at zero sum i (map_weights (λ w. product w x) a)) (product (weight_at zero sum i a) x) = λ a x i. weight_at-map E G (N x) a i in
      let both = weight_at-append E G in
      record {
        respects_points = λ a b x h. record { weights = λ i. t _ _ _ (at a.0 x i) (t _ _ _ (W.respects_points _ _ x (h.weights i)) (s _ _ (at b.0 x i))); points = M.respects_points _ _ x h.points };
        respects_scalars = λ a x y h. record { weights = λ i. t _ _ _ (at a.0 x i) (t _ _ _ (W.respects_scalars _ _ _ h) (s _ _ (at a.0 y i))); points = M.respects_scalars _ _ _ h };
        sum_of_points = λ a b x. record {
          weights = λ i. t _ _ _ (at (a.0 ++ b.0) x i) (t _ _ _ (W.respects_points _ _ x (both a.0 b.0 i)) (t _ _ _ (W.sum_of_points _ _ x)
              (s _ _ (t _ _ _ (both (map_weights (λ w. product w x) a.0) (map_weights (λ w. product w x) b.0) i) (G.respects_sum _ _ _ _ (at a.0 x i) (at b.0 x i))))));
          points = M.sum_of_points _ _ x;
        };
        sum_of_scalars = λ a x y. record {
          weights = λ i. t _ _ _ (at a.0 (sum x y) i) (t _ _ _ (W.sum_of_scalars _ x y)
              (s _ _ (t _ _ _ (both (map_weights (λ w. product w x) a.0) (map_weights (λ w. product w y) a.0) i) (G.respects_sum _ _ _ _ (at a.0 x i) (at a.0 y i)))));
          points = M.sum_of_scalars _ x y;
        };
        product_of_scalars = λ a x y. record {
          weights = λ i. t _ _ _ (at (map_weights (λ w. product w x) a.0) y i) (t _ _ _ (W.respects_points _ _ y (at a.0 x i)) (t _ _ _ (W.product_of_scalars _ x y) (s _ _ (at a.0 (product x y) i))));
          points = M.product_of_scalars _ x y;
        };
        identity = λ a. record { weights = λ i. t _ _ _ (at a.0 one i) (W.identity _); points = M.identity _ };
        annihilation = λ a. record { weights = λ i. t _ _ _ (at a.0 zero i) (W.annihilation _); points = M.annihilation _ };
      }
