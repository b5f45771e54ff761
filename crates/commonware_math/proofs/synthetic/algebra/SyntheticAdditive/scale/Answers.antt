use Rattle.std.proofs.Common.{◌≡◌, ◌≢◌, ◌↔◌, IsTrue, rules, tests, refl, arith}
use Rattle.std.proofs.lemmas.Iterator.{cases_from_all, YieldsList-from_slice}
use Rattle.math_theory.specs.Powers.{multiple, power-zero}
use Rattle.math_theory.specs.Sums.{number_of_limbs}
use Rattle.commonware_math.specs.SyntheticLaws.{combinations_equality}
use Rattle.commonware_math.proofs.CombinationMaps.{multiple_map, repeated}
use Rattle.math_poly.proofs.Limbs.{zero_by_limbs}
use Rattle.commonware_math.proofs.synthetic.algebra.SyntheticAdditive.scale.Goals as goal

pub returns-then-all : goal.returns-then-all
returns-then-all g c =
    let F = g.met.F in
    let test : IsTrue c.all.result ↔ (number_of_limbs c.args.bits_le.now ≡ 0) =
    zero_by_limbs _ c.args.bits_le.now
    (cases_from_all _ _ _ (λ x. x ≡ 0) (λ x. x ≢ 0) c.all.ensures.ran (YieldsList-from_slice c.args.bits_le.now cc) (λ x q k. search (rules, tests)) (λ x q k. search (rules, tests))) in
    let n : number_of_limbs c.args.bits_le.now ≡ 0 = test.0 c.if-all.true in
    rw (n, power-zero, c.default.ensures) record {
      ok = (combinations_equality g.F.Additive.zero g.F.Additive.sum F.Object.equality g.met.G.Object.equality).reflexive _;
      indices = λ l. absurd (omega arith);
      indices_of_zero = λ e. refl;
    }

pub returns-clause-ok : goal.returns-clause-ok
returns-clause-ok g c =
    let F = g.met.F in
    let G = g.met.G in
    let n = number_of_limbs c.args.bits_le.now in
    let out = c.in_ok-out.ensures.ok (λ w. multiple g.F.Additive.zero g.F.Additive.sum w n) (λ p. multiple g.G.Additive.zero g.G.Additive.sum p n)
    (multiple_map F.Object.equality F.Additive.group G.Object.equality G.Additive.group G.Space.spans n) (λ w x h. search rules) in
    (combinations_equality g.F.Additive.zero g.F.Additive.sum F.Object.equality G.Object.equality).transitive _ _ _ out
    (repeated F.Object.equality F.Additive.group G.Object.equality G.Additive.group G.Space.spans c.args.self.now n)

pub returns-clause-indices_of_zero : goal.returns-clause-indices_of_zero
returns-clause-indices_of_zero g c n =
    let test : IsTrue c.all.result ↔ (number_of_limbs c.args.bits_le.now ≡ 0) =
    zero_by_limbs _ c.args.bits_le.now
    (cases_from_all _ _ _ (λ x. x ≡ 0) (λ x. x ≢ 0) c.all.ensures.ran (YieldsList-from_slice c.args.bits_le.now cc) (λ x q k. search (rules, tests)) (λ x q k. search (rules, tests))) in
    let all = test.1 n in
    absurd (cc (c.if-all.false, all))
