-- What is known of the parts of a scan from what the whole gave.
use Rattle.std.proofs.Common.{◌≡◌, ◌⊎◌, Bool, true, false, cond, Result, Ok, Err, refl, inl, inr}
use Rattle.math_codec.specs.Faults.{Fault, ◌>>=◌}

-- the value of a first step, where both met no fault
pub bind_ok : {A B : Type 0} (r : Result A Fault) (f : A → Result B Fault) (y : B) → (r >>= f) ≡ Ok y → (x : A) × (r ≡ Ok x) × (f x ≡ Ok y)
bind_ok (Ok x) f y e = (x, refl, e)
bind_ok (Err d) f y e = absurd cc

-- the fault is that of the first step, where the second meets none
pub bind_err : {A B : Type 0} (r : Result A Fault) (f : A → B) (fault : Fault) → (r >>= λ x. Ok (f x)) ≡ Err fault → r ≡ Err fault
bind_err (Ok x) f fault e = absurd cc
bind_err (Err d) f fault e = cc

-- which of the two was chosen
pub chosen : {A : Type 0} (b : Bool) (x y z : A) → cond b x y ≡ z → ((b ≡ true) × (x ≡ z)) ⊎ ((b ≡ false) × (y ≡ z))
chosen true x y z e = inl (refl, e)
chosen false x y z e = inr (refl, e)
