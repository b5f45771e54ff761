use Rattle.std.proofs.Common.{◌≡◌, ◌∙◌, ◌+◌, ◌%◌, ◌++◌, [], ◌∷◌, List, get_or, take, sym, ap, ap₂}
use Rattle.std.proofs.lemmas.List.{take_more}
use Rattle.math_numbers.specs.Goldilocks.{P}
use Rattle.std.proofs.lemmas.List.{map_push}
use Rattle.math_fields.specs.declared.goldilocks.F.{F}
use Rattle.math_fields.specs.Elements.{residue}
use Rattle.math_fields.proofs.ElementNumbers.{same_number}
use Rattle.secret_bytes.specs.declared.share.SecretShare.{SecretShare}
use Rattle.secret_bytes.proofs.combining.points_of.Goals as goal

pub loop-share-preserved : goal.loop-share-preserved
loop-share-preserved c =
    let shares = c.args.shares.now in
    let i = c.loop-share.share-index in
    let s = c.share-item.result in
    let index : SecretShare → F = λ u. residue u.index in
    let at : get_or shares i s ≡ s = sym c.share-item.is in
    let more : take (i + 1) shares ≡ take i shares ++ s ∷ [] = take_more shares i s c.loop-share-test.true ∙ ap (λ (u : SecretShare). take i shares ++ u ∷ []) at in
    let x : c.from-in-loop-share.result ≡ residue s.index = same_number _ _ (c.from-in-loop-share.ensures ∙ ap (λ n. n % P) c.from.ensures) in
    let pushed : c.push.new.self.items ≡ c.loop-share.out.items ++ c.from-in-loop-share.result ∷ [] = c.in_ok-push.ensures.items in
    rw pushed (rw (more, map_push index (take i shares) s) (ap₂ (λ (xs : List F) (y : F). xs ++ y ∷ []) c.loop-share.invariant x))
