use Rattle.std.proofs.Common.{rules, ◌≡◌, ◌∙◌, ℕ, ◌+◌, ◌-◌, ◌*◌, ◌<◌, ◌≤◌, ◌^◌, length, take, drop, refl, sym, ap, arith}
use Rattle.std.proofs.lemmas.List.{length-take-le, length-drop}
use Rattle.std.proofs.lemmas.Nat.{pow_pos}
use Rattle.math_restoring.proofs.BlockColumns.{block-folded, blocks-all, blocks-within}
use Rattle.math_restoring.proofs.dividing.fold.Goals as goal
use Rattle.math_restoring.proofs.dividing.fold.Goals.{After-split_at_mut-front}

-- one block more than those before the last one
next : (n m : ℕ) → 1 < n → n * m ≡ (n - 1) * m + m
next n m l = let e : n ≡ (n - 1) + 1 = omega (arith, l) in ap (λ r. r * m) e ∙ omega arith

-- what is left of the front behind the blocks before its last one is that one
parted : (n m size : ℕ) → 1 < n → size ≡ (n - 1) * m → size - (n - 1 - 1) * m ≡ m
parted n m size l e = let q : n - 1 ≡ (n - 1 - 1) + 1 = omega (arith, l) in let h : (n - 1) * m ≡ (n - 1 - 1) * m + m = ap (λ r. r * m) q ∙ omega arith in omega (arith, e, h)

-- so is the last one
last : (c : After-split_at_mut-front) → c.size_of.result * c.args.cols ≤ length c.split_at_mut-front.result.1.now
last c =
    omega (
      arith,
      blocks-within c.args.lg c.args.part c.loop-left.left c.size_of.result c.args.cols (length c.loop-left.cells) c.requires.part c.size_of.ensures c.loop-left.invariant.within
          (c.loop-left.auto.cells ∙ c.requires.size),
      next c.loop-left.left (c.size_of.result * c.args.cols) (omega (arith, c.loop-left-test.true)),
      c.split_at_mut-front.ensures.back_len,
    )

-- the part of the front that is added to is a block
part : (c : After-split_at_mut-front)
    → length
    (take (length c.split_at_mut-front.result.0.now - (c.loop-left.left - 1 - 1) * (c.size_of.result * c.args.cols))
    (drop ((c.loop-left.left - 1 - 1) * (c.size_of.result * c.args.cols)) c.split_at_mut-front.result.0.now))
    ≡ c.size_of.result * c.args.cols
part c =
    let from = (c.loop-left.left - 1 - 1) * (c.size_of.result * c.args.cols) in
    let front = c.split_at_mut-front.result.0.now in
    length-take-le (length front - from) (drop from front) (omega (arith, length-drop from front))
    ∙ parted c.loop-left.left (c.size_of.result * c.args.cols) (length front) c.loop-left-test.true c.split_at_mut-front.ensures.front_len

pub overflow_mul-count : goal.overflow_mul-count
overflow_mul-count c =
    let some = pow_pos (c.args.lg - c.args.part) in
    let h = blocks-within c.args.lg c.args.part 1 c.size_of.result c.args.cols (length c.args.cells.now) c.requires.part c.size_of.ensures (omega (arith, some)) c.requires.size in
    let fits : c.size_of.result * c.args.cols ≤ length c.args.cells.now = omega (arith, h) in
    search rules

pub loop-left-init : goal.loop-left-init
loop-left-init c =
    let some = pow_pos (c.args.lg - c.args.part) in
    record {
      some = omega (arith, c.size_of-left.ensures, some);
      within = omega (arith, c.size_of-left.ensures);
      values = λ x k b power. rw (c.size_of-left.ensures, blocks-all c.args.lg c.args.part c.requires.part) refl;
    }

pub overflow_mul-left : goal.overflow_mul-left
overflow_mul-left c =
    let h =
    blocks-within c.args.lg c.args.part c.loop-left.left c.size_of.result c.args.cols (length c.loop-left.cells) c.requires.part c.size_of.ensures c.loop-left.invariant.within
    (c.loop-left.auto.cells ∙ c.requires.size) in
    let fits : (c.loop-left.left - 1) * (c.size_of.result * c.args.cols) ≤ length c.loop-left.cells =
    omega (arith, h, next c.loop-left.left (c.size_of.result * c.args.cols) (omega (arith, c.loop-left-test.true))) in
    search rules

pub split_at_mut-front-requires : goal.split_at_mut-front-requires
split_at_mut-front-requires c =
    omega (
      arith,
      blocks-within c.args.lg c.args.part c.loop-left.left c.size_of.result c.args.cols (length c.loop-left.cells) c.requires.part c.size_of.ensures c.loop-left.invariant.within
          (c.loop-left.auto.cells ∙ c.requires.size),
      next c.loop-left.left (c.size_of.result * c.args.cols) (omega (arith, c.loop-left-test.true)),
    )

pub slice_bounds-add_multiples-end-in-loop-left : goal.slice_bounds-add_multiples-end-in-loop-left
slice_bounds-add_multiples-end-in-loop-left c = last (goal.at.slice_bounds-add_multiples-end-in-loop-left c).After-split_at_mut-front

pub slice_bounds-add_multiples-end-in-loop-left-2 : goal.slice_bounds-add_multiples-end-in-loop-left-2
slice_bounds-add_multiples-end-in-loop-left-2 c = sym (length-take-le _ _ (last (goal.at.slice_bounds-add_multiples-end-in-loop-left-2 c).After-split_at_mut-front))

pub add_multiples-requires : goal.add_multiples-requires
add_multiples-requires c =
    length-take-le _ _ (last (goal.at.add_multiples-requires c).After-split_at_mut-front) ∙ sym (part (goal.at.add_multiples-requires c).After-split_at_mut-front)

pub loop-left-preserved : goal.loop-left-preserved
loop-left-preserved c =
    let split = c.split_at_mut-front.ensures in
    let long : length c.add_multiples.new.cells ≡ c.size_of.result * c.args.cols =
    c.add_multiples.auto.cells ∙ part (goal.at.loop-left-preserved c).After-split_at_mut-front in
    record {
      some = omega (arith, c.loop-left-test.true);
      within = omega (arith, c.loop-left.invariant.within);
      values = λ x k b power.
          block-folded c.loop-left.left c.size_of.result (2 ^ c.args.part) c.args.cols k x c.args.step c.loop-left.cells c.split_at_mut-front.result.0.now c.split_at_mut-front.result.1.now
          c.add_multiples.new.cells c.loop-left-test.true b c.size_of.ensures power split.front split.front_len split.back long (λ j inside. c.add_multiples.ensures j (omega (arith, inside, part (goal.at.loop-left-preserved c).After-split_at_mut-front)))
          ∙ c.loop-left.invariant.values x k b power;
    }
