use Rattle.std.proofs.Common.{◌≡◌, ◌∷◌, ◌∙◌, ◌%◌, ap, length}
use Rattle.math_numbers.specs.Goldilocks.{P}
use Rattle.math_fields.specs.Elements.{number, residue}
use Rattle.shard_fingerprints.specs.Fingerprints.{fingerprint}
use Rattle.shard_fingerprints.proofs.FingerprintSteps.{fingerprint-cons}
use Rattle.shard_format.proofs.rows.row_fingerprint.Goals as goal

pub returns : goal.returns
returns c =
    let elements = c.args.elements.now in
    let key = c.args.key in
    let mask = residue c.args.mask in
    let count = residue (length elements) in
    let index = residue c.args.header.now.index in
    let masked : number c.add-masked.result ≡ number (fingerprint (mask ∷ elements) key) =
    fingerprint-cons mask elements key c.fingerprint.result c.mul.result _ _ (c.from-2.ensures ∙ ap (λ n. n % P) c.from.ensures) c.fingerprint.ensures c.mul.ensures c.add-masked.ensures in
    let counted : number c.add-counted.result ≡ number (fingerprint (count ∷ mask ∷ elements) key) =
    fingerprint-cons count (mask ∷ elements) key c.add-masked.result c.mul-2.result _ _ c.from-3.ensures masked c.mul-2.ensures c.add-counted.ensures in
    let indexed : number c.add-indexed.result ≡ number (fingerprint (index ∷ count ∷ mask ∷ elements) key) =
    fingerprint-cons index (count ∷ mask ∷ elements) key c.add-counted.result c.mul-3.result _ _ (c.from-5.ensures ∙ ap (λ n. n % P) c.from-4.ensures) counted c.mul-3.ensures c.add-indexed.ensures in
    fingerprint-cons (residue c.args.block) (index ∷ count ∷ mask ∷ elements) key c.add-indexed.result c.mul-4.result _ _ c.from-6.ensures indexed c.mul-4.ensures c.add.ensures
