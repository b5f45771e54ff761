use Rattle.std.proofs.Common.{◌≡◌, ◌∙◌, ◌-◌, ◌<◌, ◌^◌, length, take, sym, ap, arith, rules}
use Rattle.std.specs.List.{All}
use Rattle.std.proofs.lemmas.List.{length-map, length-take}
use Rattle.std.proofs.lemmas.List.Elements.{All-from_get_or, All-take}
use Rattle.std.proofs.lemmas.List.FromFn.{length-range_with_len}
use Rattle.math_splitting.specs.Shards.{IsShardOf, JoinTo}
use Rattle.examples.proofs.JoinedWords.{joined_words}
use Rattle.examples.proofs.shards.split_and_joined.Goals as goal

pub returns : goal.returns
returns c =
    let words = c.args.words.now in
    let shards = c.in_ok-shards.shards.items in
    let left = take (c.args.total - c.args.lost) shards in
    let count : length shards ≡ c.args.total = sym (length-map shards (λ s. s.index)) ∙ ap length c.in_ok-shards.ensures.indices ∙ length-range_with_len 0 c.args.total in
    let some : 0 < length left = omega (arith, c.requires.lost, count, length-take (c.args.total - c.args.lost) shards) in
    let each_word : All (λ word. word < 2 ^ 64) words = All-from_get_or (λ word. word < 2 ^ 64) words 0 (λ i _. omega (arith, c.type_inv.words i)) in
    let few : length words < 2 ^ 64 = search rules in
    let joined : JoinTo c.in_ok-answer.answer.items left = rw (← c.truncate.ensures.items, ← c.deref.ensures.value) c.in_ok-answer.ensures.ok in
    joined_words c.joined_data.ensures.once words c.in_ok-answer.answer.items c.args.min c.args.total left some each_word few
    (All-take (IsShardOf words c.args.min c.args.total) (c.args.total - c.args.lost) shards c.in_ok-shards.ensures.each) joined
