-- A list of which all was written.
use Rattle.std.proofs.Common.{◌≡◌, ◌≤◌, ◌∙◌, ℕ, List, ◌++◌, length, take, drop, arith}
use Rattle.std.proofs.lemmas.List.{take-append-le, take_all}

pub take-written : {A : Type 0} (n : ℕ) (old new : List A) → n ≡ length old → length new ≡ length old → take n (new ++ drop (length new) old) ≡ new
take-written n old new e f =
    let h : n ≤ length new = omega arith in
    take-append-le n new (drop (length new) old) h ∙ take_all n new (omega arith)
