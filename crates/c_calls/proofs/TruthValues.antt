-- Truth values that bytes say, written one by one over false ones.
use Rattle.std.proofs.Common.{◌≡◌, ℕ, zero, suc, ◌+◌, ◌-◌, ◌<◌, ◌==◌, List, [], ◌∷◌, ◌++◌, Bool, true, false, length, take, get_or, replicate, refl, sym, ap, ◌∙◌, arith}
use Rattle.std.proofs.Math.ListN.{set}
use Rattle.std.proofs.lemmas.List.{map_more, append_assoc, length-map, length-take-le}
use Rattle.c_calls.specs.WordRows.{truth}

-- the item behind those in front is written
set-behind : (xs ys : List Bool) (b c : Bool) → set (xs ++ b ∷ ys) (length xs) c ≡ xs ++ c ∷ ys
set-behind [] ys b c = refl
set-behind (x ∷ xs) ys b c = ap (λ zs. x ∷ zs) (set-behind xs ys b c)

-- one of the values that are left
one-left : (n : ℕ) → 0 < n → replicate n false ≡ false ∷ replicate (n - 1) false
one-left zero l = absurd (omega arith)
one-left (suc n) l = ap (λ m. false ∷ replicate m false) (let e : n ≡ suc n - 1 = omega arith in e)

-- the values so far, and false ones behind them
abbrev pub so_far : List ℕ → ℕ → List Bool
so_far bytes i = truth (take i bytes) ++ replicate (length bytes - i) false

-- with one value of b more, the next one is b
next : (bytes : List ℕ) (i : ℕ) (b : Bool) → i < length bytes → (get_or bytes i 0 == 1) ≡ b → so_far bytes (i + 1) ≡ truth (take i bytes) ++ b ∷ replicate (length bytes - i - 1) false
next bytes i b l e =
    let fewer : length bytes - (i + 1) ≡ length bytes - i - 1 = omega arith in
    rw (map_more (λ x. x == 1) bytes i 0 l, e, fewer) (append_assoc (truth (take i bytes)) (b ∷ []) (replicate (length bytes - i - 1) false))

behind : (bytes : List ℕ) (i : ℕ) → i < length bytes → so_far bytes i ≡ truth (take i bytes) ++ false ∷ replicate (length bytes - i - 1) false
behind bytes i l = ap (λ ys. truth (take i bytes) ++ ys) (one-left (length bytes - i) (omega arith))

-- a byte that is not 1 leaves the values
pub next-false : (bytes : List ℕ) (i : ℕ) → i < length bytes → (get_or bytes i 0 == 1) ≡ false → so_far bytes i ≡ so_far bytes (i + 1)
next-false bytes i l e = behind bytes i l ∙ sym (next bytes i false l e)

-- a byte that is 1 sets the next value
pub next-true : (bytes : List ℕ) (i : ℕ) → i < length bytes → (get_or bytes i 0 == 1) ≡ true → set (so_far bytes i) i true ≡ so_far bytes (i + 1)
next-true bytes i l e =
    let count : length (truth (take i bytes)) ≡ i = length-map (take i bytes) (λ x. x == 1) ∙ length-take-le i bytes (omega arith) in
    ap (λ xs. set xs i true) (behind bytes i l)
    ∙ ap (λ n. set (truth (take i bytes) ++ false ∷ replicate (length bytes - i - 1) false) n true) (sym count)
    ∙ set-behind (truth (take i bytes)) (replicate (length bytes - i - 1) false) false true ∙ sym (next bytes i true l e)
