-- Lists of bytes: how large their items are, and eight of them that are put into one.
use Rattle.std.proofs.Common.{◌≡◌, ℕ, zero, suc, ◌+◌, ◌≤◌, ◌<◌, Bool, false, eqb, List, ◌++◌, length, take, drop, get_or, refl, sym, ◌∙◌, subst, arith}
use Rattle.std.proofs.Math.ListN.{set}
use Rattle.std.proofs.Math.Seq.{paste}
use Rattle.std.proofs.lemmas.Bool.{false≢true}
use Rattle.std.proofs.lemmas.List.{get_or_default}
use Rattle.std.proofs.lemmas.List.Edits.{paste_all, paste_more, paste_none}
use Rattle.std.specs.List.{All}

-- where each number that is read from a list is below 256, its items are
pub all_bytes : (bytes : List ℕ) → ((k : ℕ) → get_or bytes k 0 < 256) → All (λ byte. byte < 256) bytes
all_bytes bytes h k d l = subst (λ (x : ℕ). x < 256) (get_or_default bytes k 0 d l) (h k)

-- where a test says that a number is not zero
pub some_of_test : (n : ℕ) (b : Bool) → b ≡ eqb n 0 → b ≡ false → 0 < n
some_of_test zero b e f = absurd (false≢true (sym f ∙ e))
some_of_test (suc n) b e f = omega arith

next_set : (d s x : List ℕ) (at j place : ℕ) → place ≡ at + j → x ≡ paste d at s j → at + j < length d → j < length s → set x place (get_or s j 0) ≡ paste d at s (j + 1)
next_set d s x at j place p e h k = rw (p, e) (paste_more d at s j 0 h k)

-- eight bytes that are put one by one
pub eight_put : (d s : List ℕ) (at : ℕ) → at + 8 ≤ length d → length s ≡ 8
    → set (set (set (set (set (set (set (set d at (get_or s 0 0)) (at + 1) (get_or s 1 0)) (at + 2) (get_or s 2 0)) (at + 3) (get_or s 3 0)) (at + 4) (get_or s 4 0)) (at + 5) (get_or s 5 0)) (at + 6) (get_or s 6 0)) (at + 7) (get_or s 7 0)
    ≡ take at d ++ (s ++ drop (at + 8) d)
eight_put d s at room l =
    let e0 = next_set d s d at 0 at (omega arith) (paste_none d at s) (omega (arith, room)) (omega (arith, l)) in
    let e1 = next_set d s _ at 1 (at + 1) refl e0 (omega (arith, room)) (omega (arith, l)) in
    let e2 = next_set d s _ at 2 (at + 2) refl e1 (omega (arith, room)) (omega (arith, l)) in
    let e3 = next_set d s _ at 3 (at + 3) refl e2 (omega (arith, room)) (omega (arith, l)) in
    let e4 = next_set d s _ at 4 (at + 4) refl e3 (omega (arith, room)) (omega (arith, l)) in
    let e5 = next_set d s _ at 5 (at + 5) refl e4 (omega (arith, room)) (omega (arith, l)) in
    let e6 = next_set d s _ at 6 (at + 6) refl e5 (omega (arith, room)) (omega (arith, l)) in
    let e7 = next_set d s _ at 7 (at + 7) refl e6 (omega (arith, room)) (omega (arith, l)) in
    e7 ∙ paste_all d at s 8 (sym l)
