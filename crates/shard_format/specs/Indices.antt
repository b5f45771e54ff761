-- Indices of shards, each of which counts once.
use Rattle.std.specs.Prelude.{ℕ, ◌==◌, List, count_by}
use Rattle.std.specs.List.{list_any, range_with_len}

-- how many of the numbers below n are among the indices
abbrev pub distinct_among : ℕ → List ℕ → ℕ
distinct_among n indices = count_by (λ i. list_any (λ j. j == i) indices) (range_with_len 0 n)
