-- Memory is wanted among some items only where the first is read, or wants it itself.
use Rattle.std.proofs.Common.{◌≡◌, ◌⊎◌, inl, inr, ℕ, zero, suc, ◌<◌, List, Result, Ok, sym, ap, ◌∙◌, arith}
use Rattle.math_codec.specs.Faults.{Fault}
use Rattle.math_codec.specs.Lists.{ItemsGrow}

-- nothing is read yet, or the first item is
abbrev pub NoneOrFirstRead : (List ℕ → Result (List ℕ) Fault) → List ℕ → List ℕ → Type 0
NoneOrFirstRead scan bytes rest = (rest ≡ bytes) ⊎ ((after : List ℕ) × (scan bytes ≡ Ok after))

pub past_first : (scan : List ℕ → Result (List ℕ) Fault) (bytes rest after : List ℕ) → NoneOrFirstRead scan bytes rest → scan rest ≡ Ok after → NoneOrFirstRead scan bytes after
past_first scan bytes rest after (inl e) h = inr (after, ap scan (sym e) ∙ h)
past_first scan bytes rest after (inr b) h = inr b

first_grows : (scan : List ℕ → Result (List ℕ) Fault) (grows : List ℕ → Type 0) (count i : ℕ) (bytes : List ℕ) → i < count
    → grows bytes ⊎ ((after : List ℕ) × (scan bytes ≡ Ok after)) → ItemsGrow scan grows count bytes
first_grows scan grows zero i bytes lt h = absurd (omega arith)
first_grows scan grows (suc n) i bytes lt h = h

-- the item was read, and could not be stored
pub push_memory : (scan : List ℕ → Result (List ℕ) Fault) (grows : List ℕ → Type 0) (count i : ℕ) (bytes rest after : List ℕ)
    → i < count → NoneOrFirstRead scan bytes rest → scan rest ≡ Ok after → ItemsGrow scan grows count bytes
push_memory scan grows count i bytes rest after lt (inl e) h = first_grows scan grows count i bytes lt (inr (after, ap scan (sym e) ∙ h))
push_memory scan grows count i bytes rest after lt (inr b) h = first_grows scan grows count i bytes lt (inr b)
