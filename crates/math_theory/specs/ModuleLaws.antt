-- Each ring is a module over itself.
use Rattle.math_theory.specs.Laws.{IsEquality, IsGroup, IsProduct, IsRing, IsModule}

module _ {A : Type 0} {same : A → A → Type 0} {zero : A} {sum : A → A → A} {negative : A → A} (E : IsEquality same) (G : IsGroup same zero sum negative) where
  -- what is its own double is zero
  pub double_itself : (a : A) → same (sum a a) a → same a zero
  double_itself a e =
      let s = E.symmetric in
      grw (E.transitive, E.reflexive, G.respects_sum, s _ _ (G.identity a), G.commutative zero a, s _ _ (G.inverse a), s _ _ (G.associative a a (negative a)), e, G.inverse a)

  pub ring_is_module : {product : A → A → A} {one : A} → IsProduct same product
      → IsRing same sum product one → IsModule same zero sum product same zero sum product one
  ring_is_module {product} {one} P R =
      let s = E.symmetric in
      record {
        respects_points = λ a b x h. P.respects a b x x h (E.reflexive x);
        respects_scalars = λ a x y h. P.respects a a x y (E.reflexive a) h;
        sum_of_points = λ a b x. R.distributive a b x;
        sum_of_scalars = λ a x y.
            grw (E.transitive, E.reflexive, G.respects_sum, P.commutative a (sum x y), R.distributive x y a, P.commutative x a, P.commutative y a);
        product_of_scalars = λ a x y. P.associative a x y;
        identity = λ a. grw (E.transitive, E.reflexive, P.commutative a one, R.identity a);
        annihilation = λ a.
            let e : same (sum (product zero a) (product zero a)) (product zero a)
            = grw (E.transitive, E.reflexive, P.respects, s _ _ (R.distributive zero zero a), G.identity zero) in
            grw (E.transitive, E.reflexive, P.commutative a zero, double_itself (product zero a) e);
      }
