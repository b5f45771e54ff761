-- A header that is spelled is read again, and no spelling begins another.
use Rattle.std.proofs.Common.{◌≡◌, ℕ, ◌^◌, ◌<◌, ltb, eqb, true, ◌||◌, List, [], ◌∷◌, ◌++◌, length, drop, get_or, Ok, refl, sym, ap, ap₂, ◌∙◌, arith, append_assoc, codes}
use Rattle.std.specs.Int.{w64, to_be_bytes}
use Rattle.std.proofs.lemmas.Bool.{lt-ltb, eq-eqb}
use Rattle.std.proofs.lemmas.List.{drop_at}
use Rattle.math_numbers.specs.Goldilocks.{P}
use Rattle.math_codec.specs.Encodings.{ReadsAgain, SpellsApart}
use Rattle.math_codec.specs.Words.{word_in_front}
use Rattle.math_codec.specs.WordLaws.{word_again, word_in_front-spelled, word_apart}
use Rattle.math_fields.specs.declared.goldilocks.F.{F}
use Rattle.math_fields.specs.Elements.{number}
use Rattle.shard_fingerprints.specs.declared.pairs.Keys.{Keys}
use Rattle.shard_fingerprints.specs.Fingerprints.{fingerprint}
use Rattle.shard_format.specs.declared.header.Header.{Header}
use Rattle.shard_fingerprints.specs.EqualElements.{element_equal, residue_number}
use Rattle.shard_format.specs.declared.formats.Format.{Format}
use Rattle.shard_format.specs.declared.formats.Format.TheVariants as formats
use Rattle.shard_format.specs.Formats.{paths_words, version_of, word_count}
use Rattle.shard_format.specs.Headers.{mark, header_words, words_spelling, fingerprints_spelling, header_spelling, paths_spelling, AdmitsHeader}
use Rattle.shard_format.specs.Headers.{scan_fixed, scan_version, scan_number, scan_length, scan_key, scan_flag, scan_paths, scan_beginning, scan_split, scan_keys, scan_words, scan_fingerprints, scan_fingerprints_of, scan_header, version_in, words_in_front}

fixed_again : (n : ℕ) (name rest : List ℕ) → n < 2 ^ 64 → scan_fixed n name (to_be_bytes w64 n ++ rest) ≡ Ok rest
unfolding scan_fixed
fixed_again n name rest lt =
    let same : eqb n n ≡ true = eq-eqb n n refl in
    rw (word_again n rest lt, word_in_front-spelled n rest lt, same) refl

known_again : (n : ℕ) (rest : List ℕ) → n < 2 ^ 64 → (eqb n 2 || eqb n 3) ≡ true → scan_version (to_be_bytes w64 n ++ rest) ≡ Ok rest
unfolding scan_version
known_again n rest fits known = rw (word_again n rest fits, word_in_front-spelled n rest fits, known) refl

version_again : (f : Format) (rest : List ℕ) → scan_version (to_be_bytes w64 (version_of f) ++ rest) ≡ Ok rest
version_again formats.Cells rest = known_again 2 rest (omega arith) refl
version_again formats.Rows rest = known_again 3 rest (omega arith) refl
version_again formats.RowsWithPaths rest = known_again 3 rest (omega arith) refl

flag_again : (n : ℕ) (rest : List ℕ) → n < 2 → scan_flag (to_be_bytes w64 n ++ rest) ≡ Ok rest
unfolding scan_flag
flag_again n rest lt =
    let fits : n < 2 ^ 64 = omega arith in
    let small : ltb n 2 ≡ true = lt-ltb n 2 lt in
    rw (word_again n rest fits, word_in_front-spelled n rest fits, small) refl

pub number_again : (n : ℕ) (rest : List ℕ) → n < 2 ^ 32 → scan_number (to_be_bytes w64 n ++ rest) ≡ Ok rest
unfolding scan_number
number_again n rest lt =
    let fits : n < 2 ^ 64 = omega arith in
    let small : ltb n (2 ^ 32) ≡ true = lt-ltb n (2 ^ 32) lt in
    rw (word_again n rest fits, word_in_front-spelled n rest fits, small) refl

length_again : (n : ℕ) (rest : List ℕ) → n < P → scan_length (to_be_bytes w64 n ++ rest) ≡ Ok rest
unfolding scan_length
length_again n rest lt =
    let fits : n < 2 ^ 64 = omega arith in
    let small : ltb n P ≡ true = lt-ltb n P lt in
    rw (word_again n rest fits, word_in_front-spelled n rest fits, small) refl

key_again : (n : ℕ) (rest : List ℕ) → 0 < n → n < P → scan_key (to_be_bytes w64 n ++ rest) ≡ Ok rest
unfolding scan_key
key_again n rest some lt =
    let fits : n < 2 ^ 64 = omega arith in
    let positive : ltb 0 n ≡ true = lt-ltb 0 n some in
    let small : ltb n P ≡ true = lt-ltb n P lt in
    rw (word_again n rest fits, word_in_front-spelled n rest fits, positive, small) refl

-- the words one after the other, and then the rest
abbrev spelled : List ℕ → List ℕ → List ℕ
spelled [] rest = rest
spelled (n ∷ words) rest = to_be_bytes w64 n ++ spelled words rest

-- the numbers of the words of a header before its fingerprints
abbrev pub header_numbers : Header → List ℕ
header_numbers h =
    mark ∷ version_of h.format ∷ h.index ∷ h.min ∷ h.total ∷ h.block ∷ h.length ∷ number h.keys.first ∷ number h.keys.second ∷ paths_words h.format

-- each is the number of a word
abbrev AreWords : List ℕ → Type 0
AreWords [] = Unit {0}
AreWords (n ∷ words) = (n < 2 ^ 64) × AreWords words

paths_fit : (f : Format) → AreWords (paths_words f)
paths_fit formats.Cells = tt
paths_fit formats.Rows = (omega arith, tt)
paths_fit formats.RowsWithPaths = (omega arith, tt)

version_fits : (f : Format) → version_of f < 2 ^ 64
version_fits formats.Cells = omega arith
version_fits formats.Rows = omega arith
version_fits formats.RowsWithPaths = omega arith

fit : (h : Header) → AdmitsHeader h → AreWords (header_numbers h)
fit h k =
    let first : number h.keys.first < P = h.keys.first.below in
    let second : number h.keys.second < P = h.keys.second.below in (
      omega arith,
      (
        version_fits h.format,
        (
          omega (arith, k.index_fits),
          (
            omega (arith, k.min_fits),
            (
              omega (arith, k.total_fits),
              (
                omega (arith, k.block_fits),
                (omega (arith, k.length_fits), (omega (arith, first), (omega (arith, second), paths_fit h.format))),
              ),
            ),
          ),
        ),
      ),
    )

in_front : (words rest : List ℕ) → AreWords words → words_in_front (length words) (spelled words rest) ≡ words
unfolding words_in_front
in_front [] rest h = refl
in_front (n ∷ words) rest h =
    let after : drop 8 (to_be_bytes w64 n ++ spelled words rest) ≡ spelled words rest = drop_at (to_be_bytes w64 n) (spelled words rest) 8 refl in
    rw (word_in_front-spelled n (spelled words rest) h.0, after, in_front words rest h.1) refl

-- words that are spelled are read, and what follows them
apart : (words others x y : List ℕ) → length words ≡ length others → AreWords words → AreWords others → spelled words x ≡ spelled others y → (words ≡ others) × (x ≡ y)
apart [] [] x y l h k e = (refl, e)
apart [] (m ∷ others) x y l h k e = absurd (omega (arith, l))
apart (n ∷ words) [] x y l h k e = absurd (omega (arith, l))
apart (n ∷ words) (m ∷ others) x y l h k e =
    let first = word_apart n m (spelled words x) (spelled others y) h.0 k.0 e in
    let more = apart words others x y (omega (arith, l)) h.1 k.1 first.1 in
    (rw (first.0, more.0) refl, more.1)

paths_spelled : (f : Format) (rest : List ℕ) → paths_spelling f ++ rest ≡ spelled (paths_words f) rest
paths_spelled formats.Cells rest = refl
paths_spelled formats.Rows rest = simp append_assoc
paths_spelled formats.RowsWithPaths rest = simp append_assoc

words_spelled : (h : Header) (rest : List ℕ) → words_spelling h ++ rest ≡ spelled (header_numbers h) rest
words_spelled h rest = rw (sym (paths_spelled h.format rest)) (simp append_assoc)

fingerprints_spelled : (keys : Keys) (words : List F) (rest : List ℕ)
    → fingerprints_spelling keys words ++ rest ≡ spelled (number (fingerprint words keys.first) ∷ number (fingerprint words keys.second) ∷ []) rest
fingerprints_spelled keys words rest = append_assoc (to_be_bytes w64 (number (fingerprint words keys.first))) (to_be_bytes w64 (number (fingerprint words keys.second))) rest

header_spelled : (h : Header) (rest : List ℕ) → header_spelling h ++ rest ≡ spelled (header_numbers h) (fingerprints_spelling h.keys (header_words h) ++ rest)
header_spelled h rest = append_assoc (words_spelling h) (fingerprints_spelling h.keys (header_words h)) rest ∙ words_spelled h (fingerprints_spelling h.keys (header_words h) ++ rest)

beginning_again : (f : Format) (index : ℕ) (rest : List ℕ) → index < 2 ^ 32 → scan_beginning (spelled (mark ∷ version_of f ∷ index ∷ []) rest) ≡ Ok rest
unfolding scan_beginning
beginning_again f index rest h =
    let a = fixed_again mark (codes "mark") (spelled (version_of f ∷ index ∷ []) rest) (omega arith) in
    let b = version_again f (spelled (index ∷ []) rest) in
    rw (a, b, number_again index rest h) refl

paths_again : (f : Format) (rest : List ℕ) → scan_paths (version_of f) (spelled (paths_words f) rest) ≡ Ok rest
paths_again formats.Cells rest = refl
paths_again formats.Rows rest = flag_again 0 rest (omega arith)
paths_again formats.RowsWithPaths rest = flag_again 1 rest (omega arith)

-- the second of some words is the version
version_of_words : (first version : ℕ) (rest : List ℕ) → version < 2 ^ 64 → version_in (to_be_bytes w64 first ++ (to_be_bytes w64 version ++ rest)) ≡ version
version_of_words first version rest fits =
    ap word_in_front (drop_at (to_be_bytes w64 first) (to_be_bytes w64 version ++ rest) 8 refl) ∙ word_in_front-spelled version rest fits

split_again : (least most block size : ℕ) (rest : List ℕ) → least < 2 ^ 32 → most < 2 ^ 32 → block < 2 ^ 32 → size < P
    → scan_split (spelled (least ∷ most ∷ block ∷ size ∷ []) rest) ≡ Ok rest
unfolding scan_split
split_again least most block size rest a b c d =
    let e = number_again least (spelled (most ∷ block ∷ size ∷ []) rest) a in
    let f = number_again most (spelled (block ∷ size ∷ []) rest) b in
    let g = number_again block (spelled (size ∷ []) rest) c in
    rw (e, f, g, length_again size rest d) refl

keys_again : (first second : ℕ) (rest : List ℕ) → 0 < first → first < P → 0 < second → second < P → scan_keys (spelled (first ∷ second ∷ []) rest) ≡ Ok rest
unfolding scan_keys
keys_again first second rest a b c d =
    let e = key_again first (spelled (second ∷ []) rest) a b in
    rw (e, key_again second rest c d) refl

words_again : (h : Header) (rest : List ℕ) → AdmitsHeader h → scan_words (spelled (header_numbers h) rest) ≡ Ok rest
unfolding scan_words
words_again h rest k =
    let first : 0 < number h.keys.first = omega (arith, k.first_key) in
    let second : 0 < number h.keys.second = omega (arith, k.second_key) in
    let paths = spelled (paths_words h.format) rest in
    let keys = spelled (number h.keys.first ∷ number h.keys.second ∷ []) paths in
    let a = beginning_again h.format h.index (spelled (h.min ∷ h.total ∷ h.block ∷ h.length ∷ []) keys) k.index_fits in
    let b = split_again h.min h.total h.block h.length keys k.min_fits k.total_fits k.block_fits k.length_fits in
    let c = keys_again (number h.keys.first) (number h.keys.second) paths first h.keys.first.below second h.keys.second.below in
    let v = version_of_words mark (version_of h.format) (spelled (h.index ∷ h.min ∷ h.total ∷ h.block ∷ h.length ∷ []) keys) (version_fits h.format) in
    rw (a, b, c, v) (paths_again h.format rest)

-- so many words stand before the fingerprints
words_counted : (h : Header) → word_count (version_of h.format) ≡ length (header_numbers h)
words_counted h = counted h.format where
  counted : (f : Format) → word_count (version_of f)
      ≡ length (mark ∷ version_of h.format ∷ h.index ∷ h.min ∷ h.total ∷ h.block ∷ h.length ∷ number h.keys.first ∷ number h.keys.second ∷ paths_words f)
  counted formats.Cells = refl
  counted formats.Rows = refl
  counted formats.RowsWithPaths = refl

-- where the words before stand in front, the version is that of the header
pub version_in_header : (h : Header) (bytes rest : List ℕ) → bytes ≡ words_spelling h ++ rest → version_in bytes ≡ version_of h.format
version_in_header h bytes rest e =
    let after = spelled (h.index ∷ h.min ∷ h.total ∷ h.block ∷ h.length ∷ number h.keys.first ∷ number h.keys.second ∷ paths_words h.format) rest in
    ap version_in (e ∙ words_spelled h rest) ∙ version_of_words mark (version_of h.format) after (version_fits h.format)

-- where the words before stand in front, the fingerprints that are read are theirs
pub header_fingerprints : (h : Header) (bytes rest after : List ℕ) → AdmitsHeader h → bytes ≡ words_spelling h ++ rest
    → scan_fingerprints_of (words_in_front (word_count (version_in bytes)) bytes) after ≡ scan_fingerprints (header_words h) h.keys.first h.keys.second after
header_fingerprints h bytes rest after k e =
    let count : word_count (version_in bytes) ≡ length (header_numbers h) = ap word_count (version_in_header h bytes rest e) ∙ words_counted h in
    let words : words_in_front (word_count (version_in bytes)) bytes ≡ header_numbers h =
    ap₂ words_in_front count (e ∙ words_spelled h rest) ∙ in_front (header_numbers h) rest (fit h k) in
    rw (words, residue_number h.keys.first, residue_number h.keys.second) refl

fingerprints_again : (keys : Keys) (words : List F) (rest : List ℕ) → scan_fingerprints words keys.first keys.second (fingerprints_spelling keys words ++ rest) ≡ Ok rest
unfolding scan_fingerprints
fingerprints_again keys words rest =
    let first : number (fingerprint words keys.first) < P = (fingerprint words keys.first).below in
    let second : number (fingerprint words keys.second) < P = (fingerprint words keys.second).below in
    let a = fixed_again (number (fingerprint words keys.first)) (codes "fingerprint") (to_be_bytes w64 (number (fingerprint words keys.second)) ++ rest) (omega (arith, first)) in
    let b = fixed_again (number (fingerprint words keys.second)) (codes "fingerprint") rest (omega (arith, second)) in
    rw (fingerprints_spelled keys words rest, a, b) refl

pub header_again : ReadsAgain header_spelling AdmitsHeader scan_header
unfolding scan_header
header_again h rest k =
    let tail = fingerprints_spelling h.keys (header_words h) ++ rest in
    let bytes = header_spelling h ++ rest in
    let a : scan_words bytes ≡ Ok tail = ap scan_words (header_spelled h rest) ∙ words_again h tail k in
    let b = header_fingerprints h bytes tail tail k (append_assoc (words_spelling h) (fingerprints_spelling h.keys (header_words h)) rest) in
    rw (a, b) (fingerprints_again h.keys (header_words h) rest)

-- where the words before stand in front, a header is read exactly where its fingerprints are
pub header_scanned : (h : Header) (bytes rest : List ℕ) → AdmitsHeader h → bytes ≡ words_spelling h ++ rest → scan_words bytes ≡ Ok rest
    → scan_header bytes ≡ scan_fingerprints (header_words h) h.keys.first h.keys.second rest
unfolding scan_header
header_scanned h bytes rest k e s = rw s (header_fingerprints h bytes rest rest k e)

-- what headers of one version say of paths tells their formats apart
formats_apart : (f g : Format) (x y : List ℕ) → version_of f ≡ version_of g → spelled (paths_words f) x ≡ spelled (paths_words g) y → (f ≡ g) × (x ≡ y)
formats_apart formats.Cells formats.Cells x y v e = (refl, e)
formats_apart formats.Cells formats.Rows x y v e = absurd (omega (arith, v))
formats_apart formats.Cells formats.RowsWithPaths x y v e = absurd (omega (arith, v))
formats_apart formats.Rows formats.Cells x y v e = absurd (omega (arith, v))
formats_apart formats.Rows formats.Rows x y v e = (refl, (word_apart 0 0 x y (omega arith) (omega arith) e).1)
formats_apart formats.Rows formats.RowsWithPaths x y v e =
    let zero_is_one = (word_apart 0 1 x y (omega arith) (omega arith) e).0 in
    absurd (omega (arith, zero_is_one))
formats_apart formats.RowsWithPaths formats.Cells x y v e = absurd (omega (arith, v))
formats_apart formats.RowsWithPaths formats.Rows x y v e =
    let one_is_zero = (word_apart 1 0 x y (omega arith) (omega arith) e).0 in
    absurd (omega (arith, one_is_zero))
formats_apart formats.RowsWithPaths formats.RowsWithPaths x y v e = (refl, (word_apart 1 1 x y (omega arith) (omega arith) e).1)

-- the numbers of the nine words that headers of every version have
abbrev nine_numbers : Header → List ℕ
nine_numbers h = mark ∷ version_of h.format ∷ h.index ∷ h.min ∷ h.total ∷ h.block ∷ h.length ∷ number h.keys.first ∷ number h.keys.second ∷ []

nine_fit : (h : Header) → AdmitsHeader h → AreWords (nine_numbers h)
nine_fit h k =
    let all = fit h k in
    (all.0, (all.1.0, (all.1.1.0, (all.1.1.1.0, (all.1.1.1.1.0, (all.1.1.1.1.1.0, (all.1.1.1.1.1.1.0, (all.1.1.1.1.1.1.1.0, (all.1.1.1.1.1.1.1.1.0, tt)))))))))

equal_headers : (g h : Header) → nine_numbers g ≡ nine_numbers h → g.format ≡ h.format → g ≡ h
equal_headers g h e format =
    let index : g.index ≡ h.index = cc in
    let least : g.min ≡ h.min = cc in
    let most : g.total ≡ h.total = cc in
    let block : g.block ≡ h.block = cc in
    let size : g.length ≡ h.length = cc in
    let first_number : number g.keys.first ≡ number h.keys.first = cc in
    let second_number : number g.keys.second ≡ number h.keys.second = cc in
    let first : g.keys.first ≡ h.keys.first = element_equal g.keys.first h.keys.first first_number in
    let second : g.keys.second ≡ h.keys.second = element_equal g.keys.second h.keys.second second_number in
    rw (format, index, least, most, block, size, first, second) refl

fingerprints_apart : (keys : Keys) (words : List F) (x y : List ℕ) → fingerprints_spelling keys words ++ x ≡ fingerprints_spelling keys words ++ y → x ≡ y
fingerprints_apart keys words x y e =
    let first : number (fingerprint words keys.first) < P = (fingerprint words keys.first).below in
    let second : number (fingerprint words keys.second) < P = (fingerprint words keys.second).below in
    let both = number (fingerprint words keys.first) ∷ number (fingerprint words keys.second) ∷ [] in
    let fits : AreWords both = (omega (arith, first), (omega (arith, second), tt)) in
    (apart both both x y refl fits fits (sym (fingerprints_spelled keys words x) ∙ e ∙ fingerprints_spelled keys words y)).1

pub header_apart : SpellsApart header_spelling AdmitsHeader (λ g h. g ≡ h)
header_apart g h x y p q e =
    let after = λ (k : Header) (z : List ℕ). spelled (paths_words k.format) (fingerprints_spelling k.keys (header_words k) ++ z) in
    let words = apart (nine_numbers g) (nine_numbers h) (after g x) (after h y) refl (nine_fit g p) (nine_fit h q) (sym (header_spelled g x) ∙ e ∙ header_spelled h y) in
    let version : version_of g.format ≡ version_of h.format = ap (λ (ns : List ℕ). get_or ns 1 0) words.0 in
    let format = formats_apart g.format h.format (fingerprints_spelling g.keys (header_words g) ++ x) (fingerprints_spelling h.keys (header_words h) ++ y) version words.1 in
    let same = equal_headers g h words.0 format.0 in
    let tail = ap (λ (k : Header). fingerprints_spelling k.keys (header_words k) ++ x) (sym same) ∙ format.1 in
    (same, fingerprints_apart h.keys (header_words h) x y tail)
