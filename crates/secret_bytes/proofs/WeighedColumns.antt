-- The shares of all elements have the same indices, and so the same weights.
use Rattle.std.proofs.Common.{◌≡◌, ◌∙◌, ℕ, ◌+◌, ◌<◌, inl, inr, List, [], ◌∷◌, ◌++◌, length, map, get_or, Result, Ok, Err, sym, subst, arith}
use Rattle.std.specs.Prelude.{IfOk}
use Rattle.std.proofs.lemmas.Bool.{cases_lt}
use Rattle.std.proofs.lemmas.List.{get_or_append_left, get_or_push, length-map}
use Rattle.math_fields.specs.declared.goldilocks.F.{F}
use Rattle.math_fields.specs.Elements.{residue, goldilocks}
use Rattle.shared_secret.specs.declared.weighing.Weights.{Weights}
use Rattle.shared_secret.specs.CorrectedShares.{IsCorrectedSecret}
use Rattle.shared_secret.specs.Shares.{AreAtDistinctPoints, points}
use Rattle.shared_secret.specs.Weights.{AreWeightsAtPoints, AreWeightsOfShares}
use Rattle.secret_bytes.specs.declared.share.SecretShare.{SecretShare}
use Rattle.secret_bytes.specs.Columns.{column, share_of}
use Rattle.secret_bytes.specs.Passes.{AreReady, IsDecodedAt, IsPass}
use Rattle.secret_bytes.specs.declared.combining.Pass.{Pass}
use Rattle.secret_bytes.specs.declared.combining.Pass.TheVariants.{Fit, TooManyWrong, Wrong}
use Rattle.secret_bytes.proofs.ElementPoints.{points-of_indices}

column-length : (j : ℕ) (shares : List SecretShare) → length (column j shares) ≡ length shares
column-length j shares = length-map shares (share_of j)

-- the indices as elements are the points of the shares at each element
pub points-ready : (t width j : ℕ) (shares : List SecretShare) → AreReady t width shares → map (λ (s : SecretShare). residue s.index) shares ≡ points goldilocks (column j shares)
points-ready t width j shares ready = points-of_indices j shares (λ k d l. (ready.plain k d l).small)

-- weights of these points are those of the shares
pub weights-ready : (t width j : ℕ) (shares : List SecretShare) (w : Weights F) → AreReady t width shares → AreAtDistinctPoints goldilocks (column j shares)
    → AreWeightsAtPoints goldilocks t (points goldilocks (column j shares)) w → AreWeightsOfShares goldilocks t (column j shares) w
weights-ready t width j shares w ready apart h =
    record {
      combinable = record {
        enough = omega (arith, ready.enough, column-length j shares);
        nonzero = apart.0;
        apart = apart.1;
      };
      at_points = h;
    }

-- where the values are not those of one polynomial, what is corrected has wrong places
some-wrong : (t j : ℕ) (shares : List SecretShare) (a : F) (wrong : List ℕ) → IsCorrectedSecret goldilocks t (column j shares) a wrong
    → ((b : F) → ¬ (IsCorrectedSecret goldilocks t (column j shares) b [])) → 0 < length wrong
some-wrong t j shares a [] h differ = absurd (differ a h)
some-wrong t j shares a (i ∷ wrong) h differ = omega arith

-- so what is decoded there ends the pass
pub pass-decoded : {E : Type 0} (t width j : ℕ) (shares : List SecretShare) (count : ℕ) (result : Result Pass E) → j < width
    → ((b : F) → ¬ (IsCorrectedSecret goldilocks t (column j shares) b [])) → IfOk result (IsDecodedAt t j shares) → IfOk result (λ pass. IsPass t width shares count pass)
pass-decoded t width j shares count (Err e) l differ h = h
pass-decoded t width j shares count (Ok Fit) l differ h = absurd h
pass-decoded t width j shares count (Ok TooManyWrong) l differ h = (j, l, h)
pass-decoded t width j shares count (Ok (Wrong places)) l differ h = (j, h.0, l, some-wrong t j shares h.0 places.items h.1 differ, h.1)

-- what holds of each element holds with one more
pub elements-next : (Holds : ℕ → F → Type 0) (n : ℕ) (all : List F) (a : F) → length all ≡ n → ((i : ℕ) → i < n → Holds i (get_or all i (residue 0))) → Holds n a
    → (i : ℕ) → i < n + 1 → Holds i (get_or (all ++ (a ∷ [])) i (residue 0))
elements-next Holds n all a e h last i l =
    elim (cases_lt i n) as (λ _. Holds i (get_or (all ++ (a ∷ [])) i (residue 0))) [
      | inl less ↦ subst (Holds i) (sym (get_or_append_left all (a ∷ []) (residue 0) i (omega (arith, less, e)))) (h i less)
      | inr not_less ↦
          let at : n ≡ i = omega (arith, not_less, l) in
          subst (Holds i) (sym (get_or_push all a (residue 0) i (e ∙ at))) (subst (λ k. Holds k a) at last)
    ]
