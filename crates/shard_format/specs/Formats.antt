-- The formats of shard files, and what a header says of its format.
use Rattle.std.specs.Prelude.{ℕ, ◌+◌, ◌*◌, List, [], ◌∷◌, Bool, true, false, ◌==◌, ◌&&◌, if◌then◌else◌}
use Rattle.shard_format.specs.declared.formats.Format.{Format}
use Rattle.shard_format.specs.declared.formats.Format.TheVariants as formats

-- the version of a format: 2 where records have cells, and 3 where they have rows
abbrev pub version_of : Format → ℕ
version_of formats.Cells = 2
version_of formats.Rows = 3
version_of formats.RowsWithPaths = 3

-- 1 where records have paths, and else 0
abbrev pub paths_word : Format → ℕ
paths_word formats.Cells = 0
paths_word formats.Rows = 0
paths_word formats.RowsWithPaths = 1

-- what a header says of paths: no word in version 2, and in version 3 one, which is 1 where records have paths, and else 0
abbrev pub paths_words : Format → List ℕ
paths_words formats.Cells = []
paths_words formats.Rows = 0 ∷ []
paths_words formats.RowsWithPaths = 1 ∷ []

-- whether records have paths
abbrev pub has_paths : Format → Bool
has_paths formats.Cells = false
has_paths formats.Rows = false
has_paths formats.RowsWithPaths = true

-- both formats are the same: they have one version, and both have paths or neither has
abbrev pub is_same_format : Format → Format → Bool
is_same_format f g = (version_of f == version_of g) && (paths_word f == paths_word g)

-- how many words a header of this version has before its fingerprints: nine in version 2, and ten in version 3
abbrev pub word_count : ℕ → ℕ
word_count version = if version == 2 then 9 else 10

-- how many bytes a header has: eight a word before its fingerprints, and sixteen
abbrev pub header_size : Format → ℕ
header_size f = 8 * word_count (version_of f) + 16

-- how many bytes the mask of a record has: none where records have cells, and else as many as a word
abbrev pub mask_size : Format → ℕ
mask_size formats.Cells = 0
mask_size formats.Rows = 8
mask_size formats.RowsWithPaths = 8
