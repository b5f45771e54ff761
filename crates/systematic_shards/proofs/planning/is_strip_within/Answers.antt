use Rattle.std.proofs.Common.{◌≡◌, ◌∙◌, inl, inr, ◌+◌, ◌-◌, ◌*◌, ◌<◌, ◌≤◌, ◌^◌, ℕ, length, get_or, sym, subst, true≢false, arith}
use Rattle.std.proofs.lemmas.Bool.{cases_lt}
use Rattle.row_interpolation.proofs.WeightedSums.{turn}
use Rattle.systematic_shards.specs.Strips.{strip_word}
use Rattle.systematic_shards.specs.Words.{IsWithin}
use Rattle.systematic_shards.proofs.Made.{length-run, made-run}
use Rattle.systematic_shards.proofs.planning.is_strip_within.Goals as goal

pub is_run_within-requires : goal.is_run_within-requires
is_run_within-requires c =
    let s = c.args.strip.now in
    let j : ℕ = c.loop-j.j in
    let p : ℕ = get_or c.args.places.now j 0 in
    let width : ℕ = s.code.split.width in
    let l : j < length s.targets.now = omega (arith, c.loop-j-test.true, c.requires.count) in
    let long = length-run s.cols j ((j + 1) * s.cols - j * s.cols) (length s.targets.now) s.elements.now (turn j s.cols) l s.room in
    let inside : (p + 1) * width ≤ 2 ^ 61 = c.requires.inside j 0 c.loop-j-test.true in
    let next : (p + 1) * width ≡ p * width + width = grind arith in
    omega (arith, long, inside, next, s.within)

pub loop-j-preserved : goal.loop-j-preserved
loop-j-preserved c = λ i k b m.
    let s = c.args.strip.now in
    let split = s.code.split in
    let targets = s.targets.now in
    let j : ℕ = c.loop-j.j in
    let places = c.args.places.now in
    let p : ℕ = get_or places j 0 in
    let l : j < length targets = omega (arith, c.loop-j-test.true, c.requires.count) in
    let q : ℕ = (j + 1) * s.cols - j * s.cols in
    let long = length-run s.cols j q (length targets) s.elements.now (turn j s.cols) l s.room in
    elim (cases_lt i j) as (λ _. IsWithin c.args.size (get_or places i 0 * split.width + (s.from + k)) (strip_word s i k)) [
      | inl before ↦ c.loop-j.invariant i k before m
      | inr after ↦
          let is : j ≡ i = omega (arith, after, b) in
          subst (λ r. IsWithin c.args.size (get_or places r 0 * split.width + (s.from + k)) (strip_word s r k)) is
          (subst (λ n. IsWithin c.args.size n (strip_word s j k)) (let e : p * split.width + s.from + k ≡ p * split.width + (s.from + k) = omega arith in e)
          (subst (IsWithin c.args.size (p * split.width + s.from + k))
          (made-run split s.code.mask c.row_mask-mask.result targets s.cols j q s.elements.now (turn j s.cols) c.row_mask-mask.ensures k m)
          (c.is_run_within.ensures.0 c.if-not-is_run_within.false k (omega (arith, m, long)))))
    ]

pub returns-then-not-is_run_within : goal.returns-then-not-is_run_within
returns-then-not-is_run_within c =
    let s = c.args.strip.now in
    let split = s.code.split in
    let targets = s.targets.now in
    let j : ℕ = c.loop-j.j in
    let p : ℕ = get_or c.args.places.now j 0 in
    let l : j < length targets = omega (arith, c.loop-j-test.true, c.requires.count) in
    let q : ℕ = (j + 1) * s.cols - j * s.cols in
    let long = length-run s.cols j q (length targets) s.elements.now (turn j s.cols) l s.room in (
      λ f. absurd (true≢false (sym f)),
      λ all. sym c.if-not-is_run_within.true
          ∙ c.is_run_within.ensures.1 (λ k b.
          let m : k < s.cols = omega (arith, b, long) in
          subst (IsWithin c.args.size (p * split.width + s.from + k))
          (sym (made-run split s.code.mask c.row_mask-mask.result targets s.cols j q s.elements.now (turn j s.cols) c.row_mask-mask.ensures k m))
          (subst (λ n. IsWithin c.args.size n (strip_word s j k)) (let e : p * split.width + (s.from + k) ≡ p * split.width + s.from + k = omega arith in e) (all j k c.loop-j-test.true m))),
    )
