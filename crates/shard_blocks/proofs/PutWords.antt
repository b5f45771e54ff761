-- Words that are put into bytes, the lowest byte first.
use Rattle.std.proofs.Common.{◌≡◌, ℕ, ◌+◌, ◌-◌, ◌*◌, ◌<◌, ◌≤◌, List, [], ◌∷◌, ◌++◌, length, take, drop, get_or, refl, sym, ◌∙◌, ap, ap₂, arith, append-nil}
use Rattle.std.proofs.Math.Seq.{paste, take-add}
use Rattle.std.proofs.lemmas.List.{drop_all, drop-drop, length-take-le, take_all, take_at, take_more}
use Rattle.std.proofs.lemmas.List.Concat.{flat_map-append}
use Rattle.std.proofs.lemmas.List.Edits.{paste_all, paste-paste}
use Rattle.std.proofs.lemmas.Slice.{take-put_mid}
use borrow.Rule.Slice.PartMut.{put_mid}
use Rattle.std.specs.Int.{to_le_bytes, w64}
use Rattle.std.specs.List.{flat_map}
use Rattle.shard_blocks.proofs.UnpackedBytes.{length_unpacked}

abbrev bytes_for : List ℕ → List ℕ
bytes_for words = flat_map (to_le_bytes w64) words

-- the bytes once the first words were put in front
abbrev pub put_in_front : List ℕ → List ℕ → List ℕ
put_in_front d words = paste d 0 (bytes_for words) (8 * length words)

-- one more
pub next_put : (d b new words : List ℕ) (i word : ℕ) → i < length words → word ≡ get_or words i 0
    → b ≡ put_in_front d (take i words) → new ≡ take (8 * i) b ++ (to_le_bytes w64 word ++ drop (8 * i + 8) b) → new ≡ put_in_front d (take (i + 1) words)
next_put d b new words i word l w before after =
    let front = take i words in
    let s = bytes_for front in
    let t = to_le_bytes w64 word in
    let n : length front ≡ i = length-take-le i words (omega (arith, l)) in
    let m : length (take (i + 1) words) ≡ i + 1 = length-take-le (i + 1) words (omega (arith, l)) in
    let long : 8 * length front ≡ length s = sym (length_unpacked front) in
    let more : s ++ t ≡ bytes_for (take (i + 1) words) =
    ap (λ (x : ℕ). s ++ to_le_bytes w64 x) w ∙ ap (λ (x : List ℕ). s ++ x) (sym (append-nil (to_le_bytes w64 (get_or words i 0)))) ∙ sym (flat_map-append (to_le_bytes w64) front (get_or words i 0 ∷ []))
    ∙ ap bytes_for (sym (take_more words i 0 l)) in
    let place : 8 * i ≡ 0 + 8 * length front = omega (arith, n) in
    let one : new ≡ paste b (8 * i) t 8 = after ∙ sym (paste_all b (8 * i) t 8 refl) in
    let two : new ≡ paste d 0 (s ++ t) (8 * length front + 8) =
    one ∙ ap₂ (λ (x : List ℕ) (k : ℕ). paste x k t 8) before place ∙ paste-paste d 0 s t (8 * length front) 8 long refl (omega arith) in
    two ∙ ap₂ (λ (x : List ℕ) (k : ℕ). paste d 0 x k) more (let c : 8 * length front + 8 ≡ 8 * length (take (i + 1) words) = omega (arith, n, m) in c)

-- all of them
pub all_put : (d b words : List ℕ) (i : ℕ) → length d ≡ 8 * length words → length words ≤ i → b ≡ put_in_front d (take i words) → b ≡ bytes_for words
all_put d b words i size l e =
    let none : drop (0 + 8 * length words) d ≡ [] = drop_all (0 + 8 * length words) d (omega (arith, size)) in
    e ∙ ap (put_in_front d) (take_all i words l) ∙ paste_all d 0 (bytes_for words) (8 * length words) (sym (length_unpacked words)) ∙ ap (λ (x : List ℕ). bytes_for words ++ x) none
    ∙ append-nil (bytes_for words)

-- a run of words more, whose bytes are put behind those of the words so far
pub run_put : (done next k : ℕ) (b part rest out words : List ℕ) → k ≡ 8 * (done + next) - 8 * done → 8 * (done + next) ≤ length b → part ≡ bytes_for (take next (out ++ rest)) → length out ≡ next
    → out ≡ take next (drop (1 + done) words) → take (8 * done) b ≡ bytes_for (take done (drop 1 words)) → take (8 * (done + next)) (put_mid (8 * done) k b part) ≡ bytes_for (take (done + next) (drop 1 words))
run_put done next k b part rest out words wide within is long read before =
    let packed = drop 1 words in
    let here : part ≡ bytes_for out = is ∙ ap bytes_for (take_at out rest next long) in
    let size : 8 * (done + next) ≡ 8 * done + length part = omega (arith, ap length here, length_unpacked out, long) in
    let run : out ≡ take next (drop done packed) = read ∙ ap (take next) (sym (drop-drop done 1 words)) in
    take-put_mid (8 * done) k b part (8 * (done + next)) size (omega (arith, within)) ∙ ap₂ (λ xs ys. xs ++ ys) before (here ∙ ap bytes_for run)
    ∙ sym (flat_map-append (to_le_bytes w64) (take done packed) (take next (drop done packed))) ∙ ap bytes_for (sym (take-add done next packed))
