-- Items of which something holds, and the positions of the others, as they are gathered.
use Rattle.std.proofs.Common.{◌≡◌, ◌∙◌, ◌⊎◌, inl, inr, ℕ, zero, suc, ◌+◌, ◌<◌, List, [], ◌∷◌, ◌++◌, length, get_or, refl, sym, subst, arith}
use Rattle.std.specs.List.{All, Contains}
use Rattle.std.proofs.lemmas.Bool.{cases_lt}
use Rattle.std.proofs.lemmas.List.{get_or_default}
use Rattle.std.proofs.lemmas.List.Elements.{All-push, Contains-append_left, Contains-push}
use Rattle.math_decoding.proofs.WrongPlaces.{AreGathered}
use Rattle.systematic_shards.specs.Correcting.{ArePositionsWithout}

-- P holds of the item at position i
abbrev pub HoldsAt : {X : Type 0} → (X → Type 0) → List X → ℕ → Type 0
HoldsAt {X} P xs i = (x : X) → get_or xs i x ≡ x → P x

-- of the first i items those of which P holds are kept
pub record AreKept {X : Type 0} (P : X → Type 0) (xs : List X) (i : ℕ) (kept : List X) : Type 0 where
  pub under : All P kept
  pub there : All (Contains xs) kept
  pub all : (k : ℕ) → (x : X) → k < i → get_or xs k x ≡ x → P x → Contains kept x

module _ {X : Type 0} (P : X → Type 0) (xs : List X) where
  -- it is enough that it holds of the item there by one name
  pub holds-at : (i : ℕ) (x : X) → i < length xs → x ≡ get_or xs i x → P x → HoldsAt P xs i
  holds-at i x l is p y at = subst P (is ∙ get_or_default xs i x y l ∙ at) p

  -- all positions at which it does not hold
  pub positions-gathered : (n : ℕ) (positions : List ℕ) → n ≡ length xs → AreGathered (HoldsAt P xs) n positions → ArePositionsWithout P xs positions
  positions-gathered n positions all h = record {
    rising = h.rising;
    below = λ k d l. omega (arith, all, h.below k d l);
    differ = λ k d l x is p. h.differ k d l (holds-at (get_or positions k d) x (omega (arith, all, h.below k d l)) (sym is) p);
    agree = λ i x l is n. h.agree i (omega (arith, all, l)) n x is;
  }

  pub kept-pushed : (i : ℕ) (kept : List X) (x : X) → i < length xs → x ≡ get_or xs i x → P x → AreKept P xs i kept → AreKept P xs (i + 1) (kept ++ x ∷ [])
  kept-pushed i kept x l is p h = record {
    under = All-push P kept x h.under p;
    there = All-push (Contains xs) kept x h.there (i, l, sym is);
    all = λ k y m at q. elim (cases_lt k i) [
      | inl b ↦ Contains-append_left kept (x ∷ []) y (h.all k y b at q)
      | inr g ↦
          let e : i ≡ k = omega (arith, m, g) in
          let same : x ≡ y = is ∙ get_or_default xs i x y l ∙ subst (λ j. get_or xs j y ≡ y) (sym e) at in
          subst (Contains (kept ++ x ∷ [])) same (Contains-push kept x)
    ];
  }

  pub kept-passed : (i : ℕ) (kept : List X) (x : X) → i < length xs → x ≡ get_or xs i x → ¬ (P x) → AreKept P xs i kept → AreKept P xs (i + 1) kept
  kept-passed i kept x l is n h = record {
    under = h.under;
    there = h.there;
    all = λ k y m at q. elim (cases_lt k i) [
      | inl b ↦ h.all k y b at q
      | inr g ↦
          let e : i ≡ k = omega (arith, m, g) in
          let same : y ≡ x = sym (is ∙ get_or_default xs i x y l ∙ subst (λ j. get_or xs j y ≡ y) (sym e) at) in
          absurd (n (subst P same q))
    ];
  }

-- the same, by any default
module _ {X : Type 0} (P : X → Type 0) (xs : List X) (i : ℕ) (d : X) (l : i < length xs) where
  same_item : get_or xs i d ≡ get_or xs i (get_or xs i d)
  same_item = get_or_default xs i d (get_or xs i d) l

  pub kept-pushed-item : (kept : List X) → P (get_or xs i d) → AreKept P xs i kept → AreKept P xs (i + 1) (kept ++ get_or xs i d ∷ [])
  kept-pushed-item kept p h = kept-pushed P xs i kept (get_or xs i d) l same_item p h

  pub kept-passed-item : (kept : List X) → ¬ (P (get_or xs i d)) → AreKept P xs i kept → AreKept P xs (i + 1) kept
  kept-passed-item kept n h = kept-passed P xs i kept (get_or xs i d) l same_item n h

  pub holds-item : P (get_or xs i d) → HoldsAt P xs i
  holds-item p = holds-at P xs i (get_or xs i d) l same_item p

  pub differs-item : ¬ (P (get_or xs i d)) → ¬ (HoldsAt P xs i)
  differs-item n h = n (h (get_or xs i d) (sym same_item))

pub behind : {X : Type 0} (y : X) (xs : List X) (x : X) → Contains xs x → Contains (y ∷ xs) x
behind y xs x c = let l = c.1 in (suc c.0, omega (arith, l), c.2)

first_or_behind : {X : Type 0} (P : X → Type 0) (y : X) (xs : List X) → P y → ((x : X) → Contains xs x → P x) → (x : X) (i : ℕ) → i < length (y ∷ xs) → get_or (y ∷ xs) i x ≡ x → P x
first_or_behind P y xs p all x zero l at = subst P at p
first_or_behind P y xs p all x (suc i) l at = all x (i, omega (arith, l), at)

-- what holds of each item or is shown by one
pub all_or_one : {X : Type 0} (P Q : X → Type 0) (xs : List X) → ((x : X) → Contains xs x → P x ⊎ Q x) → ((x : X) → Contains xs x → P x) ⊎ ((x : X) × Contains xs x × Q x)
all_or_one P Q [] h = inl (λ x c. absurd (omega (arith, c.1)))
all_or_one {X} P Q (y ∷ xs) h =
    elim (h y (0, omega arith, refl)) [
      | inr q ↦ inr (y, (0, omega arith, refl), q)
      | inl p ↦ elim (all_or_one P Q xs (λ x c. h x (behind y xs x c))) [
        | inr r ↦ inr (r.0, behind y xs r.0 r.1, r.2)
        | inl all ↦ inl (λ x c. first_or_behind P y xs p all x c.0 c.1 c.2)
      ]
    ]
