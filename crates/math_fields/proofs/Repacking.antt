-- The calls of a repacking iterator, and what its runs give.
use Rattle.std.proofs.Common.{◌≡◌, ℕ, ◌≤◌, min, arith, Bool, true, false, cond, List, [], ◌∷◌, ◌++◌, take, length, Option, Some, None, MatchBool, MatchOption, refl, sym, ap, subst, ◌∙◌, append_assoc, append-nil, true≢false}
use Rattle.std.proofs.lemmas.List.{take_at, length-take}
use Rattle.std.proofs.iter.runs.Lists.{Yields-both, none-some}
use Rattle.std.proofs.iter.runs.Made.{run, took, to_end}
use Rattle.std.specs.Option.{option_to_list}
use Rattle.std.specs.Iterator.{Yields, Drains}
use Rattle.std.specs.Iterator.Adapters.{fuse_source, fuse_done, fuse_steps}
use Rattle.std.specs.Iterator.Runs.{Run, SomeRun}
use Rattle.std.specs.declared.iter.Fuse.{Fuse}
use Rattle.math_fields.specs.Repacking.{running, Advances, Refills, Repacks, GivesAll, GivesFront, GivesCount}

-- a fused iterator that has not been called
pub running-fused : {S : Type 0} (s : Fuse S) (inner : S) → fuse_source s ≡ inner → fuse_done s ≡ false → running s ≡ Some inner
running-fused s inner e new = ap (λ b. cond b None (Some (fuse_source s))) new ∙ ap Some e

-- a fused iterator that has ended
pub running-ended : {S : Type 0} (s : Fuse S) → fuse_done s ≡ true → running s ≡ None
running-ended s done = ap (λ b. cond b None (Some (fuse_source s))) done

-- ---- calls of a source
module _ {S A : Type 0} (steps : S → Option A → S → Type 0) where
  pub Advances-nil : (s : Option S) → Advances steps s [] s
  Advances-nil None = (refl, refl)
  Advances-nil (Some s) = refl

  -- a source that has ended gives nothing more
  pub Advances-ended : (s t : Option S) (xs : List A) → Advances steps s xs t → s ≡ None → (xs ≡ []) × (t ≡ None)
  Advances-ended None t xs h e = h
  Advances-ended (Some s) t xs h e = absurd (none-some s (sym e))

  -- calls, and then further calls
  pub Advances-append : (s t u : Option S) (xs ys : List A) → Advances steps s xs t → Advances steps t ys u → Advances steps s (xs ++ ys) u
  Advances-append None t u xs ys h k =
      let e = Advances-ended t u ys k h.1 in
      (ap (λ l. l ++ ys) h.0 ∙ e.0, e.1)
  Advances-append (Some s) None u xs ys h k =
      let all : Drains steps s (xs ++ ys) = subst (Drains steps s) (sym (append-nil xs) ∙ ap (λ l. xs ++ l) (sym k.0)) h in
      subst (Advances steps (Some s) (xs ++ ys)) (sym k.1) all
  Advances-append (Some s) (Some t) None xs ys h k = (k.0, (k.1.0, Yields-both steps xs ys s t k.1.0 h k.1.1, k.1.2))
  Advances-append (Some s) (Some t) (Some u) xs ys h k = Yields-both steps xs ys s t u h k

  -- the cases are whether the fused iterator had ended before the call, whether it has ended after it, and the answer
  call_by : (b c : Bool) (s t : S) (r : Option A) → MatchBool b (r ≡ None) (steps s r t) → MatchOption r (c ≡ true) (λ _. c ≡ false)
      → Advances steps (cond b None (Some s)) (option_to_list r) (cond c None (Some t))
  call_by true true s t None h k = (refl, refl)
  call_by true false s t None h k = absurd (true≢false (sym k))
  call_by false true s t None h k = (t, (s, refl, h))
  call_by false false s t None h k = absurd (true≢false (sym k))
  call_by true c s t (Some x) h k = absurd (none-some x (sym h))
  call_by false true s t (Some x) h k = absurd (true≢false k)
  call_by false false s t (Some x) h k = (t, h, refl)

  -- one call
  pub Advances-call : (s t : Fuse S) (r : Option A) → fuse_steps steps s r t → Advances steps (running s) (option_to_list r) (running t)
  Advances-call s t r h = call_by (fuse_done s) (fuse_done t) (fuse_source s) (fuse_source t) r h.0 h.1

  -- the run that calls make, which is whole where the source has ended
  run_of : (s : S) (xs : List A) (t : Option S) → Advances steps (Some s) xs t → SomeRun steps s (λ q. (q.items ≡ xs) × (t ≡ None → q.whole ≡ true))
  run_of s xs None h = (run steps s xs true (to_end steps s xs h), refl, (refl, λ _. refl))
  run_of s xs (Some t) h = (run steps s xs false (t, h, λ e. absurd (true≢false (sym e))), refl, (refl, λ e. absurd (none-some t (sym e))))

-- ---- refills
module _ {S A : Type 0} {steps : S → Option A → S → Type 0} {bits_of : List A → List ℕ} where
  -- a refill with one item
  pub Refills-call : {before after : List ℕ} (s t : Fuse S) (x : A) → fuse_steps steps s (Some x) t → after ≡ before ++ bits_of (x ∷ []) → Refills steps bits_of before (running s) after (running t)
  Refills-call s t x h e = record { taken = x ∷ []; advances = Advances-call steps s t (Some x) h; waiting = e }

  -- no call
  pub Refills-none : {waiting : List ℕ} (s : Option S) → bits_of [] ≡ [] → Refills steps bits_of waiting s waiting s
  Refills-none {waiting} s nil = record { taken = []; advances = Advances-nil steps s; waiting = sym (ap (λ l. waiting ++ l) nil ∙ append-nil waiting) }

  -- a call that met the end
  pub Refills-end : {waiting : List ℕ} (s t : Fuse S) → fuse_steps steps s None t → bits_of [] ≡ [] → Refills steps bits_of waiting (running s) waiting (running t)
  Refills-end {waiting} s t h nil = record { taken = []; advances = Advances-call steps s t None h; waiting = sym (ap (λ l. waiting ++ l) nil ∙ append-nil waiting) }

  module _ (bits_of-append : (xs ys : List A) → bits_of (xs ++ ys) ≡ bits_of xs ++ bits_of ys) where
    -- a refill, and then another
    pub Refills-append : {first second third : List ℕ} {s t u : Option S} → Refills steps bits_of first s second t → Refills steps bits_of second t third u → Refills steps bits_of first s third u
    Refills-append {first} {second} {third} {s} {t} {u} p q = record {
      taken = p.taken ++ q.taken;
      advances = Advances-append steps s t u p.taken q.taken p.advances q.advances;
      waiting = q.waiting ∙ ap (λ l. l ++ bits_of q.taken) p.waiting ∙ append_assoc first (bits_of p.taken) (bits_of q.taken) ∙ ap (λ l. first ++ l) (sym (bits_of-append p.taken q.taken));
    }

    -- A call of `next` that refills what waits, where `given` is what bits give.
    module _ {B : Type 0} (given : List ℕ → List B) {before after : List ℕ} {s t : Option S} (r : Refills steps bits_of before s after t) (nil : bits_of [] ≡ []) where
      given_after : (further : List A) → given (before ++ bits_of (r.taken ++ further)) ≡ given (after ++ bits_of further)
      given_after further =
          ap given (ap (λ l. before ++ l) (bits_of-append r.taken further) ∙ sym (append_assoc before (bits_of r.taken) (bits_of further)) ∙ ap (λ l. l ++ bits_of further) (sym r.waiting))

      -- no bit waits, and the source has ended
      pub Repacks-none : given [] ≡ [] → after ≡ [] → t ≡ None → Repacks steps (λ xs. given (before ++ bits_of xs)) s None (λ xs. given (after ++ bits_of xs)) t
      Repacks-none nothing none end = record {
        taken = r.taken;
        advances = r.advances;
        ended = (end, ap (λ l. given (l ++ bits_of [])) none ∙ ap given nil ∙ nothing);
        gives = λ further _. given_after further;
      }

      -- x comes from the first of the bits that wait, and `left` are those that wait then
      pub Repacks-some : (x : B) (left : List ℕ) → ((more : List ℕ) → (t ≡ None → more ≡ []) → given (after ++ more) ≡ x ∷ given (left ++ more))
          → Repacks steps (λ xs. given (before ++ bits_of xs)) s (Some x) (λ xs. given (left ++ bits_of xs)) t
      Repacks-some x left first = record {
        taken = r.taken;
        advances = r.advances;
        ended = tt;
        gives = λ further last. given_after further ∙ first (bits_of further) (λ end. ap bits_of (last end) ∙ nil);
      }

-- ---- runs. `all u xs` is all that is given from the state u on, where the source goes on to give xs.
module _ {U S A B : Type 0} (steps : S → Option A → S → Type 0) (source : U → Option S) (all : U → List A → List B) where
  abbrev outer : U → Option B → U → Type 0
  outer u answer v = Repacks steps (all u) (source u) answer (all v) (source v)

  -- calls that led from u to v and gave xs, seen as one
  record Repacked (u : U) (xs : List B) (v : U) : Type 0 where
    pub taken : List A
    pub advances : Advances steps (source u) taken (source v)
    pub gives : (further : List A) → (source v ≡ None → further ≡ []) → all u (taken ++ further) ≡ xs ++ all v further

  repacked : (xs : List B) (u v : U) → Yields outer u xs v → Repacked u xs v
  repacked [] u v y = subst (Repacked u []) y (record { taken = []; advances = Advances-nil steps (source u); gives = λ further _. refl })
  repacked (x ∷ xs) u v y =
      let w : U = y.0 in
      let a = y.1 in
      let b = repacked xs w v y.2 in
      record {
        taken = a.taken ++ b.taken;
        advances = Advances-append steps (source u) (source w) (source v) a.taken b.taken a.advances b.advances;
        gives = λ further last.
            let none : source w ≡ None → b.taken ++ further ≡ [] = λ end. let e = Advances-ended steps (source w) (source v) b.taken b.advances end in ap (λ l. l ++ further) e.0 ∙ last e.1 in
            ap (all u) (append_assoc a.taken b.taken further) ∙ a.gives (b.taken ++ further) none ∙ ap (λ l. x ∷ l) (b.gives further last);
      }

  -- a new iterator, which goes on to give f of what the iterator s gives
  module _ (u : U) (s : S) (f : List A → List B) (fresh : source u ≡ Some s) (all-fresh : (xs : List A) → all u xs ≡ f xs) where
    from_start : (p : Run outer) → p.from ≡ u → Repacked u p.items (took p).0
    from_start p e = repacked p.items u (took p).0 (subst (λ w. Yields outer w p.items (took p).0) e (took p).1)

    run_behind : (xs : List A) (t : Option S) → Advances steps (source u) xs t → SomeRun steps s (λ q. (q.items ≡ xs) × (t ≡ None → q.whole ≡ true))
    run_behind xs t h = run_of steps s xs t (subst (λ o. Advances steps o xs t) fresh h)

    gives_front : GivesFront outer u steps s f
    gives_front p _ e =
        let v : U = (took p).0 in
        let b = from_start p e in
        let q = run_behind b.taken (source v) b.advances in (
          q.0,
          q.1,
          λ further last.
              let given : f (q.0.items ++ further) ≡ p.items ++ all v further =
              sym (all-fresh (q.0.items ++ further)) ∙ ap (λ l. all u (l ++ further)) q.2.0 ∙ b.gives further (λ end. last (q.2.1 end)) in
              sym (ap (take p.len) given ∙ take_at p.items (all v further) p.len (sym p.long)),
        )

    gives_all : GivesAll outer u steps s f
    gives_all p _ e whole =
        let v : U = (took p).0 in
        let w : U = ((took p).2 whole).0 in
        let b = from_start p e in
        let c = ((took p).2 whole).1 in
        let q = run_behind (b.taken ++ c.taken) (source w) (Advances-append steps (source u) (source v) (source w) b.taken c.taken b.advances c.advances) in
        let last : source v ≡ None → c.taken ≡ [] = λ end. (Advances-ended steps (source v) (source w) c.taken c.advances end).0 in
        let nothing : all v c.taken ≡ [] = ap (all v) (sym (append-nil c.taken)) ∙ c.gives [] (λ _. refl) ∙ c.ended.1 in
        let given : f q.0.items ≡ p.items = sym (all-fresh q.0.items) ∙ ap (all u) q.2.0 ∙ b.gives c.taken last ∙ ap (λ l. p.items ++ l) nothing ∙ append-nil p.items in
        (q.0, q.1, q.2.1 c.ended.0, sym given)

    module _ (count : ℕ → ℕ) (length-f : (xs : List A) → length (f xs) ≡ count (length xs)) where
      count_by : (b : Bool) (p : Run outer) → p.from ≡ u → p.whole ≡ b → SomeRun steps s (λ q. (p.len ≤ count q.len) × (p.whole ≡ true → (q.whole ≡ true) × (p.len ≡ count q.len)))
      count_by true p e whole =
          let q = gives_all p p.seen e whole in
          let many : p.len ≡ count q.0.len = p.long ∙ ap length q.3 ∙ length-f q.0.items ∙ ap count (sym q.0.long) in
          (q.0, q.1, (omega arith, λ _. (q.2, many)))
      count_by false p e part =
          let q = gives_front p p.seen e in
          let front : p.items ≡ take p.len (f q.0.items) = q.2 [] (λ _. refl) ∙ ap (λ l. take p.len (f l)) (append-nil q.0.items) in
          let many : p.len ≡ min p.len (count q.0.len) = p.long ∙ ap length front ∙ length-take p.len (f q.0.items) ∙ ap (min p.len) (length-f q.0.items ∙ ap count (sym q.0.long)) in
          (q.0, q.1, (omega arith, λ whole. absurd (true≢false (sym whole ∙ part))))

      -- what the contract of a function says that makes a new iterator
      pub gives : GivesAll outer u steps s f × GivesFront outer u steps s f × GivesCount outer u steps s count
      gives = (gives_all, gives_front, λ p _ e. count_by p.whole p e refl)
