use Rattle.std.proofs.Common.{length, subst}
use Rattle.row_interpolation.specs.Weights.{AreOwnProducts, ArePointsOf}
use Rattle.row_interpolation.proofs.weights.weights_by_points.Goals as goal

pub returns : goal.returns
returns c =
    let of_points : ArePointsOf c.args.total c.lg_above-lg.result c.args.indices.now c.in_ok-points.points.items c.in_ok-own.own.items = record {
      domain = c.lg_above-lg.ensures.value;
      are = c.in_ok-points.ensures;
      products = subst (λ ps. AreOwnProducts ps (length ps) c.in_ok-own.own.items) c.deref.ensures.value c.in_ok-own.ensures;
    } in
    c.in_ok-rows.ensures c.args.total c.args.indices.now (rw (c.deref-2.ensures.value, c.deref-3.ensures.value) of_points) c.requires
