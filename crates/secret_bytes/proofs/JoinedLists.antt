-- Lists that are joined, one for each item: how many items there are, that no two are related, and what is among them.
use Rattle.std.proofs.Common.{◌≡◌, ◌∙◌, ℕ, zero, suc, ◌+◌, ◌*◌, List, [], ◌∷◌, ◌++◌, length, get_or, sym, ap₂, subst, arith}
use Rattle.std.specs.List.{All, AllPairs, Contains}
use Rattle.std.proofs.Math.Nat.{zero-mul}
use Rattle.std.proofs.lemmas.List.{length-append}
use Rattle.std.proofs.lemmas.List.Elements.{All-append, All-head, All-nil, All-tail, Contains-append_left, Contains-append_right}
use Rattle.shared_secret.proofs.ListsOfElements.{pairs-append, pairs-head, pairs-tail}

module _ {K X : Type 0} (f : K → List X) where
  -- the list of each item, one after the other
  abbrev pub joined : List K → List X
  joined [] = []
  joined (k ∷ ks) = f k ++ joined ks

  pub joined-length : (n : ℕ) (ks : List K) → All (λ k. length (f k) ≡ n) ks → length (joined ks) ≡ length ks * n
  joined-length n [] h = sym (zero-mul n)
  joined-length n (k ∷ ks) h =
      let more : n + length ks * n ≡ suc (length ks) * n = grind arith in
      length-append (f k) (joined ks) ∙ ap₂ (λ a b. a + b) (All-head (λ k. length (f k) ≡ n) k ks h) (joined-length n ks (All-tail (λ k. length (f k) ≡ n) k ks h)) ∙ more

  pub joined-all : (Q : X → Type 0) (ks : List K) → All (λ k. All Q (f k)) ks → All Q (joined ks)
  joined-all Q [] h = All-nil Q
  joined-all Q (k ∷ ks) h = All-append Q (f k) (joined ks) (All-head (λ k. All Q (f k)) k ks h) (joined-all Q ks (All-tail (λ k. All Q (f k)) k ks h))

  pub joined-apart : (R : X → X → Type 0) (ks : List K) → All (λ k. AllPairs R (f k)) ks → AllPairs (λ k l. All (λ x. All (R x) (f l)) (f k)) ks → AllPairs R (joined ks)
  joined-apart R [] h c = λ i j d l m. absurd (omega arith)
  joined-apart R (k ∷ ks) h c =
      let cross : All (λ l. All (λ x. All (R x) (f l)) (f k)) ks = pairs-head (λ k l. All (λ x. All (R x) (f l)) (f k)) k ks c in
      pairs-append R (f k) (joined ks) (All-head (λ k. AllPairs R (f k)) k ks h)
      (joined-apart R ks (All-tail (λ k. AllPairs R (f k)) k ks h) (pairs-tail (λ k l. All (λ x. All (R x) (f l)) (f k)) k ks c))
      (λ i x l. joined-all (R (get_or (f k) i x)) ks (λ j m o. cross j m o i x l))

  pub joined-contains : (ks : List K) (k : K) (x : X) → Contains ks k → Contains (f k) x → Contains (joined ks) x
  joined-contains [] k x h c = absurd (omega (arith, h.1))
  joined-contains (l ∷ ks) k x (zero, b, e) c = Contains-append_left (f l) (joined ks) x (subst (λ m. Contains (f m) x) (sym e) c)
  joined-contains (l ∷ ks) k x (suc i, b, e) c = Contains-append_right (f l) (joined ks) x (joined-contains ks k x (i, omega (arith, b), e) c)
