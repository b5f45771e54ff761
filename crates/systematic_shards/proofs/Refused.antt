-- When refusals are due.
use Rattle.std.proofs.Common.{◌≡◌, ◌⊎◌, inl, inr, ℕ, List, [], subst}
use Rattle.systematic_shards.specs.declared.Error.{Error}
use Rattle.systematic_shards.specs.declared.Error.TheVariants.{Conflict, Inconsistent}
use Rattle.systematic_shards.specs.declared.rows.Row.{Row}
use Rattle.systematic_shards.specs.declared.split.Split.{Split}
use Rattle.systematic_shards.specs.Refusals.{AreElements, HaveCodewordOf, HaveConflict, HaveEnough, IsDue}

-- what is due where rows that are only checked belong to no codeword
pub no-codeword : {M : Type 0} (bytes : ℕ) (word : List M → ℕ → ℕ) (split : Split) (mask : ℕ) (rows : List (Row M)) (e : Error) → (e ≡ Conflict) ⊎ (e ≡ Inconsistent)
    → IsDue bytes word split mask rows [] e
    → AreElements word split mask rows × (HaveConflict word split rows ⊎ (HaveEnough split.min rows × (¬ (HaveCodewordOf word split mask rows))))
no-codeword bytes word split mask rows e (inl is) due = let d = subst (IsDue bytes word split mask rows []) is due in (d.1, inl d.2)
no-codeword bytes word split mask rows e (inr is) due = let d = subst (IsDue bytes word split mask rows []) is due in (d.1, inr (d.2, d.4))
