-- Writing the groups of a length at the end of what stands.
use Rattle.std.proofs.Common.{◌≡◌, ℕ, ◌+◌, ◌-◌, ◌/◌, ◌%◌, ◌<◌, ◌≤◌, List, [], ◌∷◌, ◌++◌, length, take, drop, sym, ap, ◌∙◌, append_assoc, arith}
use Rattle.std.proofs.Math.Seq.{take-append_seam}
use Rattle.std.proofs.lemmas.List.{take-append-drop}
use Rattle.math_codec.specs.Lengths.{groups}
use Rattle.math_codec.proofs.Groups.{groups-marked}

pub groups_written : (old new : List ℕ) (more n : ℕ) → 0 < more → 128 ≤ n → new ≡ (old ++ (128 + n % 128) ∷ []) ++ groups (more - 1) (n / 128) → new ≡ old ++ groups more n
groups_written old new more n pos h e =
    e ∙ append_assoc old ((128 + n % 128) ∷ []) (groups (more - 1) (n / 128)) ∙ ap (λ (t : List ℕ). old ++ t) (sym (groups-marked more (more - 1) n (omega arith) h))

-- where old and more are kept, old is
pub kept_before : (old more new : List ℕ) → take (length (old ++ more)) new ≡ old ++ more → take (length old) new ≡ old
kept_before old more new h =
    let k = length (old ++ more) in
    let parts : new ≡ old ++ (more ++ drop k new) = sym (take-append-drop k new) ∙ ap (λ (t : List ℕ). t ++ drop k new) h ∙ append_assoc old more (drop k new) in
    ap (take (length old)) parts ∙ take-append_seam old (more ++ drop k new)
