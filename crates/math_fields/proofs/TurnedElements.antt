-- Four elements that are turned by two levels, of which the second half has e times a root of order four: three products are enough.
use Rattle.std.proofs.Common.{◌≡◌, ◌∙◌, List, [], ◌∷◌, true, false, ap, refl}
use Rattle.math_theory.proofs.rings.Normal.{ring, ◌⊕◌, ◌⊗◌, minus, v0, v1, v2, v3, v4, v5, v6}
use Rattle.math_fields.specs.declared.goldilocks.F.{F}
use Rattle.math_fields.specs.Elements.{goldilocks, number, same, sum, negative, product}
use Rattle.math_base.specs.Columns.{IsTurned}
use Rattle.math_fields.proofs.ElementNumbers.{same_number}
use Rattle.math_fields.proofs.ElementRing.{elements}

module _ (a b c d e g i eg f : F) (is_eg : eg ≡ product e g) where
  abbrev xs : List F
  xs = a ∷ b ∷ c ∷ d ∷ e ∷ g ∷ i ∷ []

  -- what is computed forward
  abbrev more : F
  more = sum a (product c g)

  abbrev less : F
  less = sum a (negative (product c g))

  abbrev first : F
  first = sum (product b e) (product d eg)

  abbrev turn : F
  turn = product (sum (product b e) (negative (product d eg))) i

  -- and on the way back
  abbrev lower : F
  lower = sum a (negative b)

  abbrev back : F
  back = product (sum c (negative d)) i

  first-forward : sum more first ≡ sum more (product (sum b (product d g)) e)
  first-forward = rw is_eg (ring elements xs ((v0 ⊕ (v2 ⊗ v5)) ⊕ ((v1 ⊗ v4) ⊕ (v3 ⊗ (v4 ⊗ v5)))) ((v0 ⊕ (v2 ⊗ v5)) ⊕ ((v1 ⊕ (v3 ⊗ v5)) ⊗ v4)) refl)

  second-forward : sum more (negative first) ≡ sum more (negative (product (sum b (product d g)) e))
  second-forward = rw is_eg (ring elements xs ((v0 ⊕ (v2 ⊗ v5)) ⊕ minus ((v1 ⊗ v4) ⊕ (v3 ⊗ (v4 ⊗ v5)))) ((v0 ⊕ (v2 ⊗ v5)) ⊕ minus ((v1 ⊕ (v3 ⊗ v5)) ⊗ v4)) refl)

  third-forward : f ≡ product e i → sum less turn ≡ sum less (product (sum b (negative (product d g))) f)
  third-forward is_f = rw (is_eg, is_f)
      (ring elements xs ((v0 ⊕ minus (v2 ⊗ v5)) ⊕ (((v1 ⊗ v4) ⊕ minus (v3 ⊗ (v4 ⊗ v5))) ⊗ v6)) ((v0 ⊕ minus (v2 ⊗ v5)) ⊕ ((v1 ⊕ minus (v3 ⊗ v5)) ⊗ (v4 ⊗ v6))) refl)

  fourth-forward : f ≡ product e i → sum less (negative turn) ≡ sum less (negative (product (sum b (negative (product d g))) f))
  fourth-forward is_f = rw (is_eg, is_f)
      (ring elements xs ((v0 ⊕ minus (v2 ⊗ v5)) ⊕ minus (((v1 ⊗ v4) ⊕ minus (v3 ⊗ (v4 ⊗ v5))) ⊗ v6)) ((v0 ⊕ minus (v2 ⊗ v5)) ⊕ minus ((v1 ⊕ minus (v3 ⊗ v5)) ⊗ (v4 ⊗ v6))) refl)

  second-back : f ≡ product e (negative i) → product (sum lower (negative back)) e ≡ sum (product lower e) (product (sum c (negative d)) f)
  second-back is_f = rw is_f
      (ring elements xs (((v0 ⊕ minus v1) ⊕ minus ((v2 ⊕ minus v3) ⊗ v6)) ⊗ v4) (((v0 ⊕ minus v1) ⊗ v4) ⊕ ((v2 ⊕ minus v3) ⊗ (v4 ⊗ minus v6))) refl)

  fourth-back : f ≡ product e (negative i) → product (sum lower back) eg ≡ product (sum (product lower e) (negative (product (sum c (negative d)) f))) g
  fourth-back is_f = rw (is_eg, is_f)
      (ring elements xs (((v0 ⊕ minus v1) ⊕ ((v2 ⊕ minus v3) ⊗ v6)) ⊗ (v4 ⊗ v5)) ((((v0 ⊕ minus v1) ⊗ v4) ⊕ minus ((v2 ⊕ minus v3) ⊗ (v4 ⊗ minus v6))) ⊗ v5) refl)

module _ (a b c d e g i eg f : F) (is_eg : same eg (product e g)) (w x y z : F) where
  eg_is : eg ≡ product e g
  eg_is = same_number eg (product e g) is_eg

  pub turned_forward : same f (product e i)
      → same w (sum (sum a (product c g)) (sum (product b e) (product d eg)))
      → same x (sum (sum a (product c g)) (negative (sum (product b e) (product d eg))))
      → same y (sum (sum a (negative (product c g))) (product (sum (product b e) (negative (product d eg))) i))
      → same z (sum (sum a (negative (product c g))) (negative (product (sum (product b e) (negative (product d eg))) i)))
      → IsTurned goldilocks true e f g a b c d w x y z
  turned_forward is_f hw hx hy hz =
      let f_is = same_number f (product e i) is_f in
      record {
        first = hw ∙ ap number (first-forward a b c d e g i eg f eg_is);
        second = hx ∙ ap number (second-forward a b c d e g i eg f eg_is);
        third = hy ∙ ap number (third-forward a b c d e g i eg f eg_is f_is);
        fourth = hz ∙ ap number (fourth-forward a b c d e g i eg f eg_is f_is);
      }

  pub turned_back : same f (product e (negative i))
      → same w (sum (sum a b) (sum c d))
      → same x (product (sum (sum a (negative b)) (negative (product (sum c (negative d)) i))) e)
      → same y (product (sum (sum a b) (negative (sum c d))) g)
      → same z (product (sum (sum a (negative b)) (product (sum c (negative d)) i)) eg)
      → IsTurned goldilocks false e f g a b c d w x y z
  turned_back is_f hw hx hy hz =
      let f_is = same_number f (product e (negative i)) is_f in
      record {
        first = hw;
        second = hx ∙ ap number (second-back a b c d e g i eg f eg_is f_is);
        third = hy;
        fourth = hz ∙ ap number (fourth-back a b c d e g i eg f eg_is f_is);
      }
