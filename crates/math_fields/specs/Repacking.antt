-- Iterators that repack the items of another one, their source, which they do not ask again after its first end.
use Rattle.std.specs.Prelude.{◌≡◌, ◌≤◌, ℕ, true, cond, List, [], ◌++◌, take, Option, Some, None, IfNone, option_to_list}
use Rattle.std.specs.Iterator.{Count, IsFinite, UpTo, size, Yields, Drains}
use Rattle.std.specs.Iterator.Adapters.{fuse_source, fuse_done}
use Rattle.std.specs.Iterator.Runs.{SomeRun, WholeRun, EachRunFrom}
use Rattle.std.specs.declared.iter.Fuse.{Fuse}

-- the iterator inside a fused one, or `None` once it has ended
abbrev pub running : {S : Type 0} → Fuse S → Option S
running s = cond (fuse_done s) None (Some (fuse_source s))

-- calls of a source led from s to t and gave xs; `None` is a source that has ended, which is not called
abbrev pub Advances : {S A : Type 0} → (S → Option A → S → Type 0) → Option S → List A → Option S → Type 0
Advances steps None xs t = (xs ≡ []) × (t ≡ None)
Advances steps (Some s) xs None = Drains steps s xs
Advances steps (Some s) xs (Some t) = Yields steps s xs t

-- calls of a source led from s to t, and the bits that wait after them are the bits that waited before and then the bits of the items that
-- came
pub record Refills {S A : Type 0} (steps : S → Option A → S → Type 0) (bits_of : List A → List ℕ)
    (before : List ℕ) (s : Option S) (after : List ℕ) (t : Option S) : Type 0 where
  pub taken : List A
  pub advances : Advances steps s taken t
  pub waiting : after ≡ before ++ bits_of taken

-- One call of `next`, during which the source went from s to t. `before xs` and `after xs` are all that is given from the
-- call on, and from after it on, where the source goes on to give xs.
pub record Repacks {S A B : Type 0} (steps : S → Option A → S → Type 0)
    (before : List A → List B) (s : Option S) (answer : Option B) (after : List A → List B) (t : Option S) : Type 0 where
  -- the items that the call took from the source
  pub taken : List A
  pub advances : Advances steps s taken t
  -- where the answer is `None`, the source has ended, and nothing is left to be given
  pub ended : IfNone answer ((t ≡ None) × (after [] ≡ []))
  -- what is given for the taken items and any further ones is the answer, and then what is given for the further ones
  pub gives : (further : List A) → (t ≡ None → further ≡ []) → before (taken ++ further) ≡ option_to_list answer ++ after further

-- what a repacking iterator gives in all, from its state u on, where its steps are `outer` and its source is s
module _ {S U A B : Type 0} (outer : U → Option B → U → Type 0) (u : U) (steps : S → Option A → S → Type 0) (s : S) where
  -- behind each run from u that went on to `None` stands such a run from s, and it gave `all` of the source's items
  abbrev pub GivesAll : (List A → List B) → Type 0
  GivesAll all = EachRunFrom outer u (λ p. p.whole ≡ true → WholeRun steps s (λ q. p.items ≡ all q.items))

  -- behind each run from u stands a run from s, and it gave the first of `all` of the source's items and any further ones
  abbrev pub GivesFront : (List A → List B) → Type 0
  GivesFront all = EachRunFrom outer u (λ p. SomeRun steps s (λ q.
      (further : List A) → (q.whole ≡ true → further ≡ []) → p.items ≡ take p.len (all (q.items ++ further))))

  -- behind each run from u stands a run from s, and it gave at most `count n` items for the n items of the source; where it went on to
  -- `None`, so did the run from s, and it gave just as many
  abbrev pub GivesCount : (ℕ → ℕ) → Type 0
  GivesCount count = EachRunFrom outer u (λ p. SomeRun steps s (λ q.
      (p.len ≤ count q.len) × (p.whole ≡ true → (q.whole ≡ true) × (p.len ≡ count q.len))))

-- where the count `most` has a bound, c has one too, and no greater one
abbrev pub NoMoreThan : Count → Count → Type 0
NoMoreThan c most = IsFinite most → UpTo c (size most)
