-- What is joined from some shards of a split is what was split.
use Rattle.std.proofs.Common.{◌≡◌, ◌∙◌, ℕ, ◌<◌, ◌^◌, List, [], ◌∷◌, length, sym, subst, arith}
use Rattle.std.specs.List.{All}
use Rattle.std.proofs.lemmas.List.Elements.{All-head}
use Rattle.math_splitting.specs.declared.shards.Shard.{Shard}
use Rattle.math_splitting.specs.Shards.{HaveOneData, IsShardOf, JoinTo}

-- shards of the words, at least one, join to no other words
pub joined_words : HaveOneData → (words back : List ℕ) (min total : ℕ) (shards : List Shard) → 0 < length shards → All (λ word. word < 2 ^ 64) words → length words < 2 ^ 64
    → All (IsShardOf words min total) shards → JoinTo back shards → back ≡ words
joined_words one words back min total [] some each_word few each j = absurd (omega (arith, some))
joined_words one words back min total (s ∷ rest) some each_word few each j =
    let ours = All-head (IsShardOf words min total) s rest each in
    let theirs = All-head (IsShardOf back j.min j.total) s rest j.each in
    let least : j.min ≡ min = sym theirs.least ∙ ours.least in
    let most : j.total ≡ total = sym theirs.most ∙ ours.most in
    one back words (s ∷ rest) j
    (record {
      min = j.min;
      total = j.total;
      some = j.some;
      within = j.within;
      short = j.short;
      each_word = each_word;
      few = few;
      enough = j.enough;
      each = subst (λ m. All (IsShardOf words m j.total) (s ∷ rest)) (sym least) (subst (λ n. All (IsShardOf words min n) (s ∷ rest)) (sym most) each);
    })
