use Rattle.std.proofs.Common.{◌≡◌, ◌∙◌, ◌↔◌, ◌-◌, ◌<◌, ℕ, List, length, take, drop, sym, ap, subst, true, arith}
use Rattle.std.proofs.lemmas.List.{drop-map, length-map, take-map}
use Rattle.std.proofs.lemmas.List.Elements.{All-drop, All-take}
use Rattle.std.proofs.lemmas.Slice.{between_to_end}
use Rattle.math_fields.specs.declared.goldilocks.F.{F}
use Rattle.systematic_shards.specs.declared.rows.Row.{Row}
use Rattle.systematic_shards.specs.Made.{AreSourcesFor, IsCodewordThrough}
use Rattle.systematic_shards.specs.Shards.{BelongTo, IsElementIn, IsRowOf}
use Rattle.systematic_shards.proofs.OneCodeword.{belong-parts, first-sources, rising-apart, through-sources}
use Rattle.systematic_shards.proofs.holding.are_of_one_codeword.Goals as goal

pub new-requires : goal.new-requires
new-requires g c =
    let split = c.args.code.split in
    let min : ℕ = split.min in
    let indices = c.args.indices.now in
    let below : ℕ → Type 0 = λ i. i < split.total in
    first-sources split c.args.rows.now indices (take (length indices - min) (drop min indices)) c.requires.indexed
    (All-take below (length indices - min) (drop min indices) (All-drop below min indices c.requires.indexed.rising.1)) (rising-apart min (length indices - min) indices c.requires.indexed.rising.0)

pub are_targets-answer-requires-clause-further : goal.are_targets-answer-requires-clause-further
are_targets-answer-requires-clause-further g c =
    let min : ℕ = c.args.code.split.min in
    let rows : List (Row g.row.M.Denot) = c.args.rows.now in
    let are = c.requires.indexed.are in
    let many : length c.args.indices.now ≡ length rows = ap length are ∙ length-map rows (λ row. row.index) in
    c.in_ok-maker.ensures.2
    ∙ ap (λ n. take (n - min) (drop min c.args.indices.now)) many
    ∙ ap (λ xs. take (length rows - min) (drop min xs)) are
    ∙ ap (take (length rows - min)) (drop-map (λ row. row.index) min rows)
    ∙ take-map (λ row. row.index) (length rows - min) (drop min rows)

pub are_targets-answer-requires-clause-elements : goal.are_targets-answer-requires-clause-elements
are_targets-answer-requires-clause-elements g c =
    let word = g.M.WordMemory.word in
    let code = c.args.code in
    let min : ℕ = code.split.min in
    let rows : List (Row g.row.M.Denot) = c.args.rows.now in
    let P : Row g.row.M.Denot → Type 0 = λ row. (k : ℕ) → k < code.split.width → IsElementIn code.split.min code.mask row.index (word row.cells.now k) in
    rw c.in_ok-maker.ensures.0 (All-take P (length rows - min) (drop min rows) (All-drop P min rows c.requires.elements))

pub returns : goal.returns
returns g c =
    let word = g.M.WordMemory.word in
    let code = c.args.code in
    let split = code.split in
    let mask = code.mask in
    let min : ℕ = split.min in
    let rows : List (Row g.row.M.Denot) = c.args.rows.now in
    let indices : List ℕ = c.args.indices.now in
    let made = c.in_ok-maker.ensures in
    let P : Row g.row.M.Denot → Type 0 = λ row. (k : ℕ) → k < split.width → IsElementIn split.min mask row.index (word row.cells.now k) in
    let below : ℕ → Type 0 = λ i. i < split.total in
    let for : AreSourcesFor split (take min rows) (take min indices) (take (length indices - min) (drop min indices)) =
    first-sources split rows indices (take (length indices - min) (drop min indices)) c.requires.indexed
    (All-take below (length indices - min) (drop min indices) (All-drop below min indices c.requires.indexed.rising.1)) (rising-apart min (length indices - min) indices c.requires.indexed.rising.0) in
    let (a, of_code, belong) = through-sources word split mask code.short (take min rows) (take min indices) (take (length indices - min) (drop min indices)) for (All-take P min rows c.requires.elements) in
    let others : take (length rows - min) (drop min rows) ≡ drop min rows = between_to_end rows min (length rows) (omega arith) in
    let answer : (b : ℕ → ℕ → F) → IsCodewordThrough word split mask (take min rows) b → (c.are_targets-answer.result ≡ true ↔ BelongTo word split mask (take (length rows - min) (drop min rows)) b) =
    rw (made.0, made.1) at c.are_targets-answer.ensures in (
      λ yes. (a, of_code, belong-parts word split mask code.short min rows a belong (subst (λ xs. BelongTo word split mask xs a) others ((answer a (of_code, belong)).0 yes))),
      λ found.
          let (b, of_b, belong_b) = found in
          let Q : Row g.row.M.Denot → Type 0 = λ row. IsRowOf split mask b row.index (word row.cells.now) in
          (answer b (of_b, All-take Q min rows belong_b)).1 (subst (λ xs. BelongTo word split mask xs b) (sym others) (All-drop Q min rows belong_b)),
    )
