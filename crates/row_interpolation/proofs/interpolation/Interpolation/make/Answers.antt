use Rattle.std.proofs.Common.{◌≡◌, ◌∙◌, ◌+◌, ◌*◌, ◌<◌, ◌≤◌, ◌^◌, ◌++◌, ℕ, List, length, drop, get_or, sym, ap, subst, arith}
use Rattle.std.proofs.Math.Logic.{∥∥₁_elim}
use denote.Struct.Props.{props}
use Rattle.std.proofs.lemmas.List.{get_or_append_left, length-take-le}
use Rattle.std.proofs.lemmas.Nat.{mul-le, row_fits}
use Rattle.math_theory.specs.BitReversal.{bit_reversed}
use Rattle.math_fields.specs.declared.goldilocks.F.{F}
use Rattle.math_fields.specs.Elements.{number, residue}
use Rattle.math_restoring.specs.Restored.{item}
use Rattle.row_interpolation.specs.Interpolations.{IsWayFor, height_of}
use Rattle.row_interpolation.proofs.Transformed.{made-by_transforms}
use Rattle.row_interpolation.proofs.interpolation.Interpolation.make.Goals as goal

-- the room behind what is made has place for the columns
behind : (height m most cols made rest room : ℕ) → (height + m) * most ≤ room → cols ≤ most → made ≡ m * cols → room ≤ made + rest → height * cols ≤ rest
behind height m most cols made rest room fits few is all =
    let up : (height + m) * cols ≤ (height + m) * most = mul-le (height + m) cols (height + m) most (omega arith) few in
    let parts : (height + m) * cols ≡ height * cols + m * cols = grind arith in
    omega (arith, up, parts, fits, is, all)

-- an item that is made
front : (m cols j k : ℕ) (out rest : List F) → length out ≡ m * cols → j < m → k < cols → item (out ++ rest) (j * cols + k) ≡ item out (j * cols + k)
front m cols j k out rest count l b = get_or_append_left out rest (residue 0) (j * cols + k) (omega (arith, row_fits j cols m cols l (omega arith), b, count))

pub make-requires-clause-rows : goal.make-requires-clause-rows
make-requires-clause-rows g c =
    let w = c.args.self.now in
    ∥∥₁_elim w.of_way (hlevel props) (λ h.
    let way = subst (IsWayFor w.total w.indices.items w.targets.items) c.in-ByWeights.is h in
    omega (arith, way.count, c.requires.rows))

pub make-requires-clause-rest : goal.make-requires-clause-rest
make-requires-clause-rest g c =
    let w = c.args.self.now in
    let m : ℕ = length w.targets.items in
    let cols : ℕ = c.args.cols in
    let high : w.height ≡ c.in-ByWeights.weights.count = w.high ∙ ap height_of c.in-ByWeights.is in
    let is : c.len.result * cols ≡ m * cols = ap (λ i. i * cols) (c.len.ensures ∙ w.targets.ok.0) in
    let rest : List F = c.split_at_mut-out.result.1.now in
    let fits : w.height * cols ≤ length rest = behind w.height m w.cols cols (c.len.result * cols) (length rest) (length c.args.room.now) c.requires.room c.requires.few is (omega (arith, c.split_at_mut-out.ensures.back_len)) in
    omega (arith, fits, ap (λ i. i * cols) high)

pub make-requires-clause-room : goal.make-requires-clause-room
make-requires-clause-room g c =
    let w = c.args.self.now in
    let cols : ℕ = c.args.cols in
    ∥∥₁_elim w.of_way (hlevel props) (λ h.
    let way = subst (IsWayFor w.total w.indices.items w.targets.items) c.in-ByWeights.is h in
    c.split_at_mut-out.ensures.front_len ∙ ap (λ i. i * cols) (c.len.ensures ∙ w.targets.ok.0 ∙ sym way.many))

pub returns-in-ByWeights : goal.returns-in-ByWeights
returns-in-ByWeights g c = λ lg next j k l b p through.
    let w = c.args.self.now in
    let m : ℕ = length w.targets.items in
    let cols : ℕ = c.args.cols in
    let count : length c.make.new.out ≡ m * cols = c.make.auto.out ∙ c.split_at_mut-out.ensures.front_len ∙ ap (λ i. i * cols) (c.len.ensures ∙ w.targets.ok.0) in
    ∥∥₁_elim w.of_way (hlevel props) (λ h.
    let way = subst (IsWayFor w.total w.indices.items w.targets.items) c.in-ByWeights.is h in
    ap number (front m cols j k c.make.new.out c.make.new.rest count l b)
    ∙ c.make.ensures w.total w.indices.items w.targets.items way lg next j k l b p through)

pub evaluate-requires-clause-strip : goal.evaluate-requires-clause-strip
evaluate-requires-clause-strip g c =
    let w = c.args.self.now in
    let m : ℕ = length w.targets.items in
    let cols : ℕ = c.args.cols in
    let is : c.len.result * cols ≡ m * cols = ap (λ i. i * cols) (c.len.ensures ∙ w.targets.ok.0) in
    let rest : List F = c.split_at_mut-out.result.1.now in
    let fits : w.height * cols ≤ length rest = behind w.height m w.cols cols (c.len.result * cols) (length rest) (length c.args.room.now) c.requires.room c.requires.few is (omega (arith, c.split_at_mut-out.ensures.back_len)) in
    length-take-le (w.height * cols) rest fits ∙ ap (λ n. n * cols) (w.high ∙ ap height_of c.in-ByTransforms.is)

pub take_rows-requires-clause-below : goal.take_rows-requires-clause-below
take_rows-requires-clause-below g c = λ k d l.
    let w = c.args.self.now in
    let value = c.deref.ensures.value in
    let b : k < length w.targets.items = omega (arith, l, ap length value) in
    let is : get_or c.deref.result.now k d ≡ get_or w.targets.items k d = ap (λ xs. get_or xs k d) value in
    let below : get_or w.targets.items k d < w.total = w.below k d b in
    ∥∥₁_elim w.of_way (hlevel props) (λ h.
    let way = subst (IsWayFor w.total w.indices.items w.targets.items) c.in-ByTransforms.is h in
    let inside : w.total ≤ 2 ^ c.in-ByTransforms.transforms.lg = way.domain.1 in
    omega (arith, is, below, inside))

pub take_rows-requires-clause-strip : goal.take_rows-requires-clause-strip
take_rows-requires-clause-strip g c =
    let w = c.args.self.now in
    let m : ℕ = length w.targets.items in
    let cols : ℕ = c.args.cols in
    let is : c.len.result * cols ≡ m * cols = ap (λ i. i * cols) (c.len.ensures ∙ w.targets.ok.0) in
    let rest : List F = c.split_at_mut-out.result.1.now in
    let fits : w.height * cols ≤ length rest = behind w.height m w.cols cols (c.len.result * cols) (length rest) (length c.args.room.now) c.requires.room c.requires.few is (omega (arith, c.split_at_mut-out.ensures.back_len)) in
    c.evaluate.auto.strip ∙ length-take-le (w.height * cols) rest fits ∙ ap (λ n. n * cols) (w.high ∙ ap height_of c.in-ByTransforms.is)

pub returns-in-ByTransforms : goal.returns-in-ByTransforms
returns-in-ByTransforms g c = λ lg next j k l b p through.
    let w = c.args.self.now in
    let t = c.in-ByTransforms.transforms in
    let element = g.R.ElementRows.element c.args.rows.now in
    let m : ℕ = length w.targets.items in
    let cols : ℕ = c.args.cols in
    let is : c.len.result * cols ≡ m * cols = ap (λ i. i * cols) (c.len.ensures ∙ w.targets.ok.0) in
    let strip : List F = c.evaluate.new.strip in
    let out : List F = c.take_rows.new.out in
    let tail : List F = strip ++ drop (w.height * cols) c.split_at_mut-out.result.1.now in
    let count : length out ≡ m * cols = c.take_rows.auto.out ∙ c.split_at_mut-out.ensures.front_len ∙ is in
    let below : get_or w.targets.items j 0 < w.total = w.below j 0 l in
    let taken : (i q : ℕ) → i < m → q < cols → item out (i * cols + q) ≡ item strip (bit_reversed t.lg (get_or w.targets.items i 0) * cols + q) =
    subst (λ (xs : List ℕ). (i q : ℕ) → i < length xs → q < cols → item out (i * cols + q) ≡ item strip (bit_reversed t.lg (get_or xs i 0) * cols + q)) c.deref.ensures.value c.take_rows.ensures in
    ∥∥₁_elim w.of_way (hlevel props) (λ h.
    let way = subst (IsWayFor w.total w.indices.items w.targets.items) c.in-ByTransforms.is h in
    ap number (front m cols j k out tail count l b)
    ∙ made-by_transforms element w.total c.args.from cols w.indices.items w.targets.items t strip out (omega (arith, below)) way w.below c.evaluate.ensures taken lg next j k l b p through)
