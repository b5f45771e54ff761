-- How many headers are of one split, and the split of which the most are.
use Rattle.std.proofs.Common.{◌≡◌, ℕ, ◌<◌, ◌≤◌, List, [], ◌∷◌, ◌++◌, Option, Some, None, refl, arith, length, take, subst, ◌∙◌, All}
use Rattle.std.specs.List.{Contains}
use Rattle.std.specs.Option.{IsSomeAnd}
use Rattle.std.proofs.lemmas.List.{take_all}
use Rattle.std.proofs.lemmas.List.Elements.{All-push}
use Rattle.shard_format.specs.declared.header.Header.{Header}
use Rattle.shard_format.specs.declared.splits.Counted.{Counted}
use Rattle.shard_format.specs.Splits.{AreOfOneSplit, IsPossible, IsRival, IsEnough, IsLargestOf, count_in, count_of_split}

-- of one split there are equally many, whichever of its headers is taken
pub count_same : (g h : Header) (headers : List Header) → AreOfOneSplit g h → count_of_split g headers ≡ count_of_split h headers
count_same g h headers e = rw (e.format, e.least, e.most, e.block, e.length, e.first_key, e.second_key) refl

-- where a header more is of no split of which more are there, what was counted stays
pub kept : (headers seen : List Header) (best : Option Counted) (h : Header) → IsLargestOf headers seen best → (IsEnough headers h → count_of_split h headers ≤ count_in best)
    → IsLargestOf headers (seen ++ h ∷ []) best
kept headers seen None h l few =
    let none : ¬ (IsEnough headers h) = λ e. let f = few e in omega (arith, f, e.possible.some, e.many) in
    All-push (λ g. ¬ (IsEnough headers g)) seen h l none
kept headers seen (Some c) h l few = record {
  counted = l.counted;
  most = All-push (λ g. IsEnough headers g → count_of_split g headers ≤ c.count) seen h l.most few;
}

-- where more are of its split, it is the largest
pub replaced : (headers seen : List Header) (best : Option Counted) (h : Header) (count : ℕ) → IsLargestOf headers seen best → count ≡ count_of_split h headers
    → count_in best < count → Contains headers h → IsEnough headers h → IsLargestOf headers (seen ++ h ∷ []) (Some (record { header = h; count = count }))
replaced headers seen None h count l e more there enough = record {
  counted = record { there = there; enough = enough; count = e };
  most = All-push (λ g. IsEnough headers g → count_of_split g headers ≤ count) seen h (λ k d lt f. absurd (l k d lt f)) (λ f. omega (arith, e));
}
replaced headers seen (Some c) h count l e more there enough = record {
  counted = record { there = there; enough = enough; count = e };
  most = All-push (λ g. IsEnough headers g → count_of_split g headers ≤ count) seen h (λ k d lt f. let most = l.most k d lt f in omega (arith, most, more)) (λ f. omega (arith, e));
}

-- where a header more is of the split that was counted, it stays
pub of_counted_split : (headers seen : List Header) (best : Option Counted) (h : Header) → IsSomeAnd best (λ c. AreOfOneSplit h c.header) → IsLargestOf headers seen best
    → IsLargestOf headers (seen ++ h ∷ []) best
of_counted_split headers seen None h s l = absurd s
of_counted_split headers seen (Some c) h s l =
    kept headers seen (Some c) h l (λ e. let same = count_same h c.header headers s in let count = l.counted.count in omega (arith, same, count))

-- what holds of as many as there are holds of all
pub all_taken : (P : Header → Type 0) (headers : List Header) (i : ℕ) → length headers ≤ i → All P (take i headers) → All P headers
all_taken P headers i beyond all = subst (All P) (take_all i headers beyond) all

-- a header of whose split not as many are there is no rival
pub no_rival : (headers : List Header) (best : Counted) (h : Header) (count : ℕ) → count ≡ count_of_split h headers → (count ≡ best.count → IsPossible h → h.min ≤ count → ⊥)
    → ¬ (IsRival headers best h)
no_rival headers best h count e refuses r =
    let many = r.enough.many in
    refuses (e ∙ r.equal) r.enough.possible (omega (arith, e, many))
