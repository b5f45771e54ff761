-- Laws carried back over a map that keeps the operations, and under which elements are the same exactly where their images are.
use Rattle.std.specs.Prelude.{ℕ, zero, suc, ◌^◌}
use Rattle.math_theory.specs.Laws.{IsEquality, IsGroup, IsProduct, IsRing, IsField}
use Rattle.math_theory.specs.Powers.{power, power-zero, power-suc}
use Rattle.math_theory.specs.Domains.{HasExactOrder, IsNoPower}
use Rattle.math_theory.specs.RootLaws.{HasRootsOfUnity}

module _ {A B : Type 0} {same : A → A → Type 0} {same_image : B → B → Type 0} (image : A → B) (E : IsEquality same_image)
    (to : (a b : A) → same a b → same_image (image a) (image b)) (back : (a b : A) → same_image (image a) (image b) → same a b) where
  pub equality_carried : ((a b : A) → IsProp (same a b)) → IsEquality same
  equality_carried prop = record {
    prop = prop;
    reflexive = λ a. back a a (E.reflexive (image a));
    symmetric = λ a b h. back b a (E.symmetric _ _ (to a b h));
    transitive = λ a b c h k. back a c (E.transitive _ _ _ (to a b h) (to b c k));
  }

  -- elements whose images are the same as two that are the same
  between : (a b : A) {x y : B} → same_image (image a) x → same_image x y → same_image (image b) y → same a b
  between a b h k l = back a b (E.transitive _ _ _ h (E.transitive _ _ _ k (E.symmetric _ _ l)))

  pub product_carried : {product : A → A → A} {product_image : B → B → B} → IsProduct same_image product_image
      → ((a b : A) → same_image (image (product a b)) (product_image (image a) (image b))) → IsProduct same product
  product_carried {product} {product_image} P product_is = record {
    respects = λ a b c d h k. between _ _ (product_is a c) (P.respects _ _ _ _ (to a b h) (to c d k)) (product_is b d);
    commutative = λ a b. between _ _ (product_is a b) (P.commutative (image a) (image b)) (product_is b a);
    associative = λ a b c. between _ _
        (E.transitive _ _ _ (product_is (product a b) c) (P.respects _ _ _ _ (product_is a b) (E.reflexive (image c))))
        (P.associative (image a) (image b) (image c))
        (E.transitive _ _ _ (product_is a (product b c)) (P.respects _ _ _ _ (E.reflexive (image a)) (product_is b c)));
  }

  pub group_carried : {zero_of : A} {sum : A → A → A} {negative : A → A} {zero_image : B} {sum_image : B → B → B} {negative_image : B → B}
      → IsGroup same_image zero_image sum_image negative_image
      → same_image (image zero_of) zero_image → ((a b : A) → same_image (image (sum a b)) (sum_image (image a) (image b)))
      → ((a : A) → same_image (image (negative a)) (negative_image (image a))) → IsGroup same zero_of sum negative
  group_carried {zero_of} {sum} {negative} G zero_is sum_is negative_is =
      let sums : IsProduct same sum = product_carried (record { respects = G.respects_sum; commutative = G.commutative; associative = G.associative }) sum_is in
      record {
        respects_sum = sums.respects;
        respects_negative = λ a b h. between _ _ (negative_is a) (G.respects_negative _ _ (to a b h)) (negative_is b);
        commutative = sums.commutative;
        associative = sums.associative;
        identity = λ a.
            between _ _ (E.transitive _ _ _ (sum_is zero_of a) (G.respects_sum _ _ _ _ zero_is (E.reflexive (image a))))
            (G.identity (image a)) (E.reflexive (image a));
        inverse = λ a.
            between _ _ (E.transitive _ _ _ (sum_is a (negative a)) (G.respects_sum _ _ _ _ (E.reflexive (image a)) (negative_is a))) (G.inverse (image a)) zero_is;
      }

  pub ring_carried : {sum product : A → A → A} {one : A} {zero_image : B}
      {sum_image : B → B → B} {negative_image : B → B} {product_image : B → B → B} {one_image : B}
      → IsGroup same_image zero_image sum_image negative_image → IsProduct same_image product_image → IsRing same_image sum_image product_image one_image
      → ((a b : A) → same_image (image (sum a b)) (sum_image (image a) (image b)))
      → ((a b : A) → same_image (image (product a b)) (product_image (image a) (image b)))
      → same_image (image one) one_image → IsRing same sum product one
  ring_carried {sum} {product} {one} G P R sum_is product_is one_is = record {
    identity = λ a.
        between _ _ (E.transitive _ _ _ (product_is one a) (P.respects _ _ _ _ one_is (E.reflexive (image a)))) (R.identity (image a)) (E.reflexive (image a));
    distributive = λ a b c. between _ _
        (E.transitive _ _ _ (product_is (sum a b) c) (P.respects _ _ _ _ (sum_is a b) (E.reflexive (image c))))
        (R.distributive (image a) (image b) (image c))
        (E.transitive _ _ _ (sum_is (product a c) (product b c)) (G.respects_sum _ _ _ _ (product_is a c) (product_is b c)));
  }

  pub field_carried : {zero_of : A} {product : A → A → A} {one : A} {inverse : A → A}
      {zero_image : B} {product_image : B → B → B} {one_image : B} {inverse_image : B → B}
      → IsProduct same_image product_image → IsField same_image zero_image product_image one_image inverse_image
      → same_image (image zero_of) zero_image → ((a b : A) → same_image (image (product a b)) (product_image (image a) (image b)))
      → same_image (image one) one_image → ((a : A) → same_image (image (inverse a)) (inverse_image (image a))) → IsField same zero_of product one inverse
  field_carried {zero_of} {product} {one} {inverse} P F zero_is product_is one_is inverse_is = record {
    distinct = λ h. F.distinct (E.transitive _ _ _ (E.symmetric _ _ one_is) (E.transitive _ _ _ (to _ _ h) zero_is));
    respects = λ a b h. between _ _ (inverse_is a) (F.respects _ _ (to a b h)) (inverse_is b);
    inverse_of_zero = between _ _ (inverse_is zero_of) (E.transitive _ _ _ (F.respects _ _ zero_is) F.inverse_of_zero) zero_is;
    inverts = λ a h. between _ _
        (E.transitive _ _ _ (product_is a (inverse a)) (P.respects _ _ _ _ (E.reflexive (image a)) (inverse_is a)))
        (F.inverts (image a) (λ k. h (back _ _ (E.transitive _ _ _ k (E.symmetric _ _ zero_is)))))
        one_is;
  }

  module _ {product : A → A → A} {one : A} {product_image : B → B → B} {one_image : B} (P : IsProduct same_image product_image)
      (product_is : (a b : A) → same_image (image (product a b)) (product_image (image a) (image b))) (one_is : same_image (image one) one_image) where
    -- the image of a power is the power of the image
    power_carried : (a : A) (x : B) → same_image (image a) x → (n : ℕ) → same_image (image (power one product a n)) (power one_image product_image x n)
    power_carried a x h zero = rw (power-zero one product a, power-zero one_image product_image x) one_is
    power_carried a x h (suc n) =
        rw (power-suc one product a n, power-suc one_image product_image x n)
        (E.transitive _ _ _ (product_is (power one product a n) a) (P.respects _ _ _ _ (power_carried a x h n) h))

    pub order_carried : (a : A) (x : B) (n : ℕ) → same_image (image a) x → HasExactOrder same_image one_image product_image x n → HasExactOrder same one product a n
    order_carried a x n h o = record {
      positive = o.positive;
      power_is_one = between _ _ (power_carried a x h n) o.power_is_one one_is;
      least = λ m positive small e. o.least m positive small (E.transitive _ _ _ (E.symmetric _ _ (power_carried a x h m)) (E.transitive _ _ _ (to _ _ e) one_is));
    }

    pub no_power_carried : (a s : A) (x y : B) → same_image (image a) x → same_image (image s) y
        → IsNoPower same_image one_image product_image x y → IsNoPower same one product a s
    no_power_carried a s x y h k outside m e = outside m (E.transitive _ _ _ (E.symmetric _ _ k) (E.transitive _ _ _ (to _ _ e) (power_carried a x h m)))

    pub roots_carried : {zero_of : A} {sum : A → A → A} {root : ℕ → A} {shift : A} {half : A → A}
        {zero_image : B} {sum_image : B → B → B} {negative_image : B → B} {root_image : ℕ → B} {shift_image : B} {half_image : B → B} {greatest : ℕ}
        → IsGroup same_image zero_image sum_image negative_image
        → HasRootsOfUnity same_image zero_image sum_image product_image one_image greatest root_image shift_image half_image
        → same_image (image zero_of) zero_image → ((a b : A) → same_image (image (sum a b)) (sum_image (image a) (image b)))
        → ((lg : ℕ) → same_image (image (root lg)) (root_image lg)) → same_image (image shift) shift_image
        → ((a : A) → same_image (image (half a)) (half_image (image a))) → HasRootsOfUnity same zero_of sum product one greatest root shift half
    roots_carried {zero_of} {sum} {root} {shift} {half} G roots zero_is sum_is root_is shift_is half_is = record {
      order = λ lg h. order_carried (root lg) _ (2 ^ lg) (root_is lg) (roots.order lg h);
      square = λ lg h. between _ _
          (E.transitive _ _ _ (product_is (root (suc lg)) (root (suc lg))) (P.respects _ _ _ _ (root_is (suc lg)) (root_is (suc lg))))
          (roots.square lg h)
          (root_is lg);
      shift_is_not_zero = λ h. roots.shift_is_not_zero (E.transitive _ _ _ (E.symmetric _ _ shift_is) (E.transitive _ _ _ (to _ _ h) zero_is));
      shift_is_no_power = λ lg h. no_power_carried (root lg) shift _ _ (root_is lg) shift_is (roots.shift_is_no_power lg h);
      respects_half = λ a b h. between _ _ (half_is a) (roots.respects_half _ _ (to a b h)) (half_is b);
      half_twice = λ a. between _ _
          (E.transitive _ _ _ (product_is (half a) (sum one one))
          (P.respects _ _ _ _ (half_is a) (E.transitive _ _ _ (sum_is one one) (G.respects_sum _ _ _ _ one_is one_is))))
          (roots.half_twice (image a))
          (E.reflexive (image a));
    }
