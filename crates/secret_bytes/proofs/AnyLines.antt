-- Lines of shares of a deal: they are read, and what is read combines to the bytes that were dealt.
use Rattle.std.proofs.Common.{◌≡◌, ◌∙◌, inl, inr, ℕ, suc, ◌+◌, ◌<◌, ◌≤◌, ◌^◌, ◌&&◌, List, [], ◌∷◌, ◌++◌, length, get_or, refl, sym, ap, ap₂, arith}
use Rattle.std.specs.List.{All, AllZip, Contains}
use Rattle.std.proofs.lemmas.Bool.{cases_Bool, le-leb}
use Rattle.std.proofs.lemmas.List.{length-append, length-map}
use Rattle.std.proofs.lemmas.List.Elements.{All-contains, All-cons, All-head, All-nil, All-tail, recursion_from_All}
use Rattle.rand_core.specs.Stream.{Stream}
use Rattle.math_numbers.specs.Goldilocks.{P}
use Rattle.math_codec.specs.Lists.{AdmitsList}
use Rattle.math_fields.specs.Elements.{number}
use Rattle.secret_bytes.specs.declared.share.SecretShare.{SecretShare}
use Rattle.secret_bytes.specs.Refusals as line
use Rattle.secret_bytes.specs.SecretShares.{AdmitsShare, AreSameShares, at_most}
use Rattle.secret_bytes.specs.Packings.{number_count}
use Rattle.secret_bytes.proofs.UnpackedBytes.{length-sevens}
use Rattle.secret_bytes.specs.CombiningLaws.{AnyLinesCombine, CombineToAlone, IsSameAsOne}
use Rattle.secret_bytes.specs.Deals.{AreDealtBytes, IsOfDeal}
use Rattle.secret_bytes.specs.Settled.{firsts, firsts_after, has_index}
use Rattle.secret_bytes.specs.Texts.{AreReadAs, IsDueReading}
use Rattle.secret_bytes.specs.declared.text.LineFault.{LineFault}
use Rattle.secret_bytes.proofs.AnyShares.{any-shares, number_of-index}
use Rattle.secret_bytes.proofs.FittingLines.{no-fault, read-same}

-- so many elements have bytes, a key and a check
pub dealt-count : (bytes : List ℕ) (t n : ℕ) (before after : Stream) (dealt : List SecretShare) → length bytes ≤ 65536 → (D : AreDealtBytes bytes t n before after dealt) → length D.all ≤ 2 ^ 20
dealt-count bytes t n before after dealt few D =
    let k = D.keyed in
    let c = number_count (length bytes) in
    let all : length D.all ≡ length k.elements + 2 = ap length k.parts ∙ length-append k.elements (k.key ∷ k.check ∷ []) in
    let elements : length k.elements ≡ suc c = sym (length-map k.elements number) ∙ ap length k.packed.1 ∙ ap suc (length-sevens c bytes) in
    omega (arith, few, all, elements)

-- shares of a deal can be lines
pub dealt-admitted : (bytes : List ℕ) (t n : ℕ) (before after : Stream) (dealt : List SecretShare) → t ≤ n → n < 2 ^ 32 → length bytes ≤ 65536 → AreDealtBytes bytes t n before after dealt
    → (s : SecretShare) → Contains dealt s → AdmitsShare (2 ^ 20) s
dealt-admitted bytes t n before after dealt enough small few D s h =
    let d = All-contains (IsOfDeal t D.deal (length D.all)) dealt s D.alike h in
    let i = number_of-index bytes t n before after dealt D h.0 s h.1 h.2 in
    let count : length s.values.items ≤ 2 ^ 20 = omega (arith, d.count, dealt-count bytes t n before after dealt few D) in
    let values : AdmitsList (at_most (2 ^ 20)) (λ a. number a < P) s.values.items = record {
      fits = omega (arith, count);
      ranged = ap₂ (λ a b. a && b) (le-leb 0 (length s.values.items) (omega arith)) (le-leb (length s.values.items) (2 ^ 20) count);
      each = recursion_from_All (λ a. number a < P) s.values.items (λ k e l. (get_or s.values.items k e).below);
    } in
    record { threshold_fits = omega (arith, d.threshold, enough, small); index_fits = omega (arith, i.0, i.1, small); deal_fits = s.deal.below; values = values }

-- which indices some shares have depends on their indices alone
has-same : (kept others : List SecretShare) (i : ℕ) → AllZip (λ s u. s.index ≡ u.index) kept others → has_index kept i ≡ has_index others i
has-same [] [] i h = refl
has-same [] (u ∷ others) i h = absurd h
has-same (s ∷ kept) [] i h = absurd h
has-same (s ∷ kept) (u ∷ others) i h = rw (h.0, has-same kept others i h.1) refl

push-zip : (kept others : List SecretShare) (s u : SecretShare) → AllZip (λ s u. s.index ≡ u.index) kept others → s.index ≡ u.index → AllZip (λ s u. s.index ≡ u.index) (kept ++ (s ∷ [])) (others ++ (u ∷ []))
push-zip [] [] s u h e = (e, tt)
push-zip [] (v ∷ others) s u h e = absurd h
push-zip (v ∷ kept) [] s u h e = absurd h
push-zip (v ∷ kept) (w ∷ others) s u h e = (h.0, push-zip kept others s u h.1 e)

count-same : (kept others : List SecretShare) → AllZip (λ s u. s.index ≡ u.index) kept others → length kept ≡ length others
count-same [] [] h = refl
count-same [] (u ∷ others) h = absurd h
count-same (s ∷ kept) [] h = absurd h
count-same (s ∷ kept) (u ∷ others) h = ap suc (count-same kept others h.1)

after-count : (kept others shares chosen : List SecretShare) → AllZip (λ s u. s.index ≡ u.index) kept others → AllZip AreSameShares shares chosen
    → length (firsts_after kept shares) ≡ length (firsts_after others chosen)
after-count kept others [] [] h k = count-same kept others h
after-count kept others [] (u ∷ chosen) h k = absurd k
after-count kept others (s ∷ shares) [] h k = absurd k
after-count kept others (s ∷ shares) (u ∷ chosen) h k =
    let has : has_index kept s.index ≡ has_index others u.index = ap (has_index kept) k.0.index ∙ has-same kept others u.index h in
    elim (cases_Bool (has_index others u.index)) as (λ _. length (firsts_after kept (s ∷ shares)) ≡ length (firsts_after others (u ∷ chosen))) [
      | inl t ↦ rw (has, t) (after-count kept others shares chosen h k.1)
      | inr f ↦ rw (has, f) (after-count (kept ++ (s ∷ [])) (others ++ (u ∷ [])) shares chosen (push-zip kept others s u h k.0.index) k.1)
    ]

-- so as many distinct indices are there
firsts-count : (shares chosen : List SecretShare) → AllZip AreSameShares shares chosen → length (firsts shares) ≡ length (firsts chosen)
firsts-count shares chosen h = after-count [] [] shares chosen tt h

-- copies of dealt shares are the same as one of them
copies : (dealt shares chosen : List SecretShare) → AllZip AreSameShares shares chosen → All (Contains dealt) chosen → All (IsSameAsOne dealt) shares
copies dealt [] [] h k = All-nil (IsSameAsOne dealt)
copies dealt [] (u ∷ chosen) h k = absurd h
copies dealt (s ∷ shares) [] h k = absurd h
copies dealt (s ∷ shares) (u ∷ chosen) h k =
    All-cons (IsSameAsOne dealt) s shares (u, All-head (Contains dealt) u chosen k, h.0) (copies dealt shares chosen h.1 (All-tail (Contains dealt) u chosen k))

pub any-lines : AnyLinesCombine
any-lines bytes text t n before after dealt chosen numbers some enough small few D of_dealt within many = (faults, combine)
  where
    admitted : (s : SecretShare) → Contains dealt s → AdmitsShare (2 ^ 20) s
    admitted s h = dealt-admitted bytes t n before after dealt enough small few D s h

    all : All (AdmitsShare (2 ^ 20)) chosen
    all k d l = admitted (get_or chosen k d) (within k d l)

    faults : (fault : LineFault) → IsDueReading text fault → line.IsMemory fault.why
    faults fault (inl m) = m
    faults fault (inr f) = absurd (no-fault text chosen numbers fault.number fault.why of_dealt all f)

    combine : (shares : List SecretShare) (places : List ℕ) → AreReadAs text shares places → CombineToAlone bytes shares
    combine shares places r =
        let copied = (read-same text shares chosen places numbers r of_dealt all).0 in
        any-shares bytes t n before after dealt shares some small D (copies dealt shares chosen copied within) (omega (arith, many, firsts-count shares chosen copied))
