use Rattle.std.proofs.Common.{◌≡◌, ◌∙◌, ◌+◌, ◌-◌, ◌*◌, ◌<◌, ◌++◌, List, [], ℕ, drop, get_or, length, map, take, ap, subst, arith}
use Rattle.std.proofs.lemmas.List.{append-nil, drop_all, drop_at, get_or-drop, length-drop, length-take-le}
use Rattle.std.proofs.lemmas.List.Folds.{flat_map-map}
use Rattle.std.specs.Int.{to_be_bytes, w64}
use Rattle.std.specs.List.{flat_map}
use Rattle.math_fields.specs.Elements.{number}
use Rattle.math_splitting.specs.DataWords.{spelled_words}
use Rattle.math_splitting.proofs.SpelledWords.{bytes-spelled, length-spelled}
use Rattle.shard_format.proofs.records.write_cells.Goals as goal
use borrow.Rule.Slice.PartMut.{put_mid}

pub write-requires : goal.write-requires
write-requires c =
    let rest = take (length c.args.bytes.now - c.args.from) (drop c.args.from c.args.bytes.now) in
    let long : length rest ≡ 8 * length c.args.cells.now =
    length-take-le (length c.args.bytes.now - c.args.from) (drop c.args.from c.args.bytes.now) (omega (arith, length-drop c.args.from c.args.bytes.now)) ∙ omega (arith, c.requires) in
    omega (arith, length-spelled rest, long)

pub returns : goal.returns
returns c =
    let from = c.args.from in
    let old = c.args.bytes.now in
    let cells = c.args.cells.now in
    let k = length old - from in
    let rest = take k (drop from old) in
    let room = c.write.new.room in
    let all : length (drop from old) ≡ k = length-drop from old in
    let long : length rest ≡ 8 * length cells = length-take-le k (drop from old) (omega (arith, all)) ∙ omega (arith, c.requires) in
    let size : length room ≡ 8 * length cells = c.write.auto.room ∙ long in
    let none : drop (length cells) (spelled_words rest) ≡ [] = drop_all (length cells) (spelled_words rest) (omega (arith, length-spelled rest, long)) in
    let words : spelled_words room ≡ map number cells = c.write.ensures.written ∙ ap (λ (xs : List ℕ). map number cells ++ xs) none ∙ append-nil (map number cells) in
    let parts : put_mid from k old room ≡ take from old ++ room =
    ap (λ (xs : List ℕ). take from old ++ (room ++ xs)) (drop_all k (drop from old) (omega (arith, all))) ∙ ap (λ (xs : List ℕ). take from old ++ xs) (append-nil room) in
    let back : drop from (put_mid from k old room) ≡ room =
    ap (drop from) parts ∙ drop_at (take from old) room from (length-take-le from old (omega (arith, c.requires))) in
    let small : (i : ℕ) → get_or room i 0 < 256 =
    λ i. subst (λ (xs : List ℕ). get_or xs i 0 < 256) back (rw (get_or-drop from (put_mid from k old room) i 0) (omega (arith, c.type_inv.bytes (from + i)))) in
    parts ∙ ap (λ (xs : List ℕ). take from old ++ xs)
    (bytes-spelled (length cells) room size small ∙ ap (flat_map (to_be_bytes w64)) words ∙ flat_map-map (to_be_bytes w64) number cells)
