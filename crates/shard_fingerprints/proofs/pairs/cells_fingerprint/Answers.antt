use Rattle.std.proofs.Common.{◌≡◌, ◌∷◌, ◌∙◌, ◌%◌, ap, length}
use Rattle.math_numbers.specs.Goldilocks.{P}
use Rattle.math_fields.specs.Elements.{number, residue}
use Rattle.shard_fingerprints.specs.Fingerprints.{fingerprint}
use Rattle.shard_fingerprints.proofs.FingerprintSteps.{fingerprint-cons}
use Rattle.shard_fingerprints.proofs.pairs.cells_fingerprint.Goals as goal

pub returns : goal.returns
returns c =
    let cells = c.args.cells.now in
    let key = c.args.key in
    let count = residue (length cells) in
    let index = residue c.args.index in
    let counted : number c.add-counted.result ≡ number (fingerprint (count ∷ cells) key) =
    fingerprint-cons count cells key c.fingerprint.result c.mul.result _ _ c.from.ensures c.fingerprint.ensures c.mul.ensures c.add-counted.ensures in
    let indexed : number c.add-indexed.result ≡ number (fingerprint (index ∷ count ∷ cells) key) =
    fingerprint-cons index (count ∷ cells) key c.add-counted.result c.mul-2.result _ _ (c.from-3.ensures ∙ ap (λ n. n % P) c.from-2.ensures) counted c.mul-2.ensures c.add-indexed.ensures in
    fingerprint-cons (residue c.args.block) (index ∷ count ∷ cells) key c.add-indexed.result c.mul-3.result _ _ c.from-4.ensures indexed c.mul-3.ensures c.add.ensures
