use Rattle.std.proofs.Common.{length, refl}
use Rattle.math_theory.proofs.recovery.Recovery.{padded_fitting, length-padded_fitting, Fits-padded_fitting, Fits-unique}
use Rattle.math_theory.proofs.laws.recovery.fits.Goals as goal

pub returns-clause-some : goal.returns-clause-some
returns-clause-some g c = λ F w cells filled e d.
    (padded_fitting F w (length cells) cells filled refl e d, length-padded_fitting F w (length cells) cells filled refl e d, Fits-padded_fitting F w (length cells) cells filled refl e d)

pub returns-clause-once : goal.returns-clause-once
returns-clause-once g c = λ F w cells filled e d. Fits-unique F w (length cells) cells filled refl e d
