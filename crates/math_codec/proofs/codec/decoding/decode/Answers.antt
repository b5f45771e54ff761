use Rattle.math_codec.proofs.ExactScan.{decoded_again}
use Rattle.math_codec.proofs.codec.decoding.decode.Goals as goal

pub returns-clause-again : goal.returns-clause-again
returns-clause-again g c =
    decoded_again g.T.Encoding.spelling (g.T.Read.admits c.args.cfg.now) g.T.Encoding.alike (g.T.Read.scan c.args.cfg.now) (g.met.T.Read.again c.args.cfg.now) (g.met.T.Read.apart c.args.cfg.now)
    c.args.bytes.now c.decode_exactly.result c.decode_exactly.ensures.taken c.decode_exactly.ensures.exact
