-- The letters of a line, whatever stands between and before them, and letters as a plain line.
use Rattle.std.specs.Char.{is_ascii_digit, to_ascii_uppercase}
use Rattle.std.specs.List.{filter, prefix_len}
use Rattle.std.specs.Prelude.{ℕ, ◌+◌, ◌-◌, ◌==◌, ◌&&◌, ◌||◌, Bool, not, nat_lt, List, [], ◌∷◌, ◌++◌, if◌then◌else◌, length, map, take, drop, slice_index_or}
use Rattle.secret_bytes.specs.Letters.{dash}

-- the byte is white space of ASCII: a code from 9 to 13, or the space
abbrev pub is_space : ℕ → Bool
is_space a = (nat_lt 8 a && nat_lt a 14) || a == 32

-- the bytes are one of the two further characters of white space that have two bytes in UTF-8: U+0085 and U+00A0
abbrev pub is_space_of_two : ℕ → ℕ → Bool
is_space_of_two a b = a == 0xC2 && (b == 0x85 || b == 0xA0)

-- the bytes are one of those that have three, U+1680, U+2000 to U+200A, U+2028, U+2029, U+202F, U+205F and U+3000, or the mark of the byte order, U+FEFF
abbrev pub is_space_of_three : ℕ → ℕ → ℕ → Bool
is_space_of_three a b c =
    ((((a == 0xE1 && b == 0x9A) && c == 0x80)
    || ((a == 0xE2 && b == 0x80) && (((nat_lt 0x7F c && nat_lt c 0x8B) || (c == 0xA8 || c == 0xA9)) || c == 0xAF)))
    || ((a == 0xE2 && b == 0x81) && c == 0x9F))
    || (((a == 0xE3 && b == 0x80) && c == 0x80) || ((a == 0xEF && b == 0xBB) && c == 0xBF))

-- how many bytes the white space has, or the mark of the byte order, that the text begins with; or 0
abbrev pub space_size : List ℕ → ℕ
space_size text =
    let a = slice_index_or text 0 0 in
    let b = slice_index_or text 1 0 in
    let c = slice_index_or text 2 0 in
    if is_space a then 1 else if is_space_of_two a b then 2 else if is_space_of_three a b c then 3 else 0

-- the text without white space and marks of the byte order; the next n bytes of one are still to be passed over
abbrev pub unspaced : ℕ → List ℕ → List ℕ
unspaced n [] = []
unspaced n (b ∷ text) = let m = (if n == 0 then space_size (b ∷ text) else n) in if m == 0 then b ∷ unspaced 0 text else unspaced (m - 1) text

-- the text without the marks `>` at its beginning, as they stand before a line that is quoted
abbrev pub unquoted : List ℕ → List ℕ
unquoted [] = []
unquoted (c ∷ text) = if c == 62 then unquoted text else c ∷ text

-- the text without the number and the colon at its beginning, where both are there
abbrev pub unnumbered : List ℕ → List ℕ
unnumbered text = let n = prefix_len is_ascii_digit text in if nat_lt 0 n && slice_index_or text n 0 == 58 then drop (n + 1) text else text

-- the text without dashes, in capitals
abbrev pub capitals : List ℕ → List ℕ
capitals text = map to_ascii_uppercase (filter (λ c. not (c == dash)) text)

-- the letters of a line: without white space, marks of a quotation, a number and dashes, in capitals
abbrev pub letters_of : List ℕ → List ℕ
letters_of line = capitals (unnumbered (unquoted (unspaced 0 line)))

-- the letters begin with the mark of a share
abbrev pub has_mark : List ℕ → Bool
has_mark text = slice_index_or text 0 0 == 83 && slice_index_or text 1 0 == 49

-- the text with a dash before each group of four; the next n characters of a group are still to come
abbrev pub dashed : ℕ → List ℕ → List ℕ
dashed n [] = []
dashed n (c ∷ text) = if n == 0 then dash ∷ c ∷ dashed 3 text else c ∷ dashed (n - 1) text

-- the letters as a line is written: the mark, groups of what stands before the last sixteen letters, and groups of these
abbrev pub plain : List ℕ → List ℕ
plain text =
    let n = length text - 16 in
    take 2 (take n text) ++ (dashed 0 (drop 2 (take n text)) ++ dashed 0 (drop n text))
