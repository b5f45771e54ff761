use Rattle.math_codec.proofs.codec.length.+read_rest.Given as goal

abbrev pub decreases-read_rest : goal.decreases-read_rest
decreases-read_rest l = l.more
