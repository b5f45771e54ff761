use Rattle.math_poly.proofs.ListSizes.{list-size}
use Rattle.math_poly.proofs.poly.Poly.max_encode_size.Goals as goal

pub returns-clause-bound : goal.returns-clause-bound
returns-clause-bound g c p h =
    rw (c.len_size.ensures.count, c.MAX_ENCODE_SIZE.ensures) (list-size g.K.Encoding.spelling g.K.MaxEncodeSize.MAX_ENCODE_SIZE g.met.K.MaxEncodeSize.bounded c.args.n p h)
