-- Lists of paths and of shards, as they grow.
use Rattle.std.proofs.Common.{◌≡◌, ◌≢◌, ◌⊎◌, ◌∙◌, inl, inr, ℕ, ◌+◌, ◌-◌, ◌*◌, ◌<◌, ◌≤◌, List, [], ◌∷◌, ◌++◌, length, replicate, take, drop, get_or, refl, ap, ap₂, sym, subst, arith, length-drop, length-take}
use Rattle.std.proofs.lemmas.Bool.{cases_lt}
use Rattle.std.proofs.lemmas.List.{get_or-map, length-append, length-map, length-replicate, take-append-le, take_all, drop-append-le}
use Rattle.std.proofs.Math.Seq.{drop-append_seam}
use Rattle.std.proofs.lemmas.Nat.{mul-le}
use Rattle.sha2.specs.Sha512.{sha512_256}
use Rattle.systematic_shards.specs.declared.Error.{Error as RowsError}
use Rattle.systematic_shards.specs.declared.Error.TheVariants as refusals
use Rattle.systematic_shards.specs.declared.rows.Row.{Row}
use Rattle.systematic_shards.specs.declared.split.Split.{Split}
use Rattle.systematic_shards.specs.Refusals.{HasLength, IsDecodeDue}
use Rattle.systematic_shards.specs.Words.{word_of_bytes}
use Rattle.systematic_shards.proofs.OneCodeword.{some_item}
use Rattle.shard_roots.specs.declared.Error.{Error}
use Rattle.shard_roots.specs.declared.Error.TheVariants.{Memory, TooMany, Masks, Rows, Root}
use Rattle.shard_roots.specs.declared.shards.Shard.{Shard}
use Rattle.shard_roots.specs.Joining.{AreThoseUnder, IsJoinDue, IsStrictDue, row_of_shard, rows_of}
use Rattle.c_calls.specs.Statuses.{done, inconsistent, mismatch, out_of_memory, status_of_roots, status_of_rows, too_many, wrong_root, wrong_size}
use Rattle.c_calls.specs.declared.roots.in_hand.ShardsWithPaths.{ShardsWithPaths}
use Rattle.c_calls.specs.RootedShards.{AreGiven, ArePlaces, AreShardsIn, AreShardsOf, HoldsOfShards, IsJoiningDue, IsMemory, IsMemoryOrStrictDue, IsStatusUnder, no_digest, place_of}

-- a place has its digests
pub length-place : (room : ℕ) (others : List (List ℕ)) → length others ≤ room → length (place_of room others) ≡ room
length-place room others l = grind (arith, length-append, length-replicate)

-- one place more
pub places-more : (room n : ℕ) (others : ℕ → List (List ℕ)) (digests : List (List ℕ)) → length (others n) ≤ room → ArePlaces room n others digests
    → ArePlaces room (n + 1) others (digests ++ place_of room (others n))
places-more room n others digests l h = grind (arith, length-place, length-append, cases_lt, mul-le, drop-append-le, take-append-le, drop-append_seam, take_all)

-- the same where a path was made as long as a place
pub resized-place : (room n : ℕ) (others : ℕ → List (List ℕ)) (digests place new : List (List ℕ)) (count : ℕ) → place ≡ others n → length (others n) ≤ room
    → count ≡ length place → new ≡ take room place ++ replicate (room - count) no_digest → ArePlaces room n others digests → ArePlaces room (n + 1) others (digests ++ new)
resized-place room n others digests place new count is few size made h =
    let whole : take room place ≡ others n = ap (λ xs. take room xs) is ∙ take_all room (others n) few in
    let long : count ≡ length (others n) = size ∙ ap length is in
    let all : new ≡ place_of room (others n) = made ∙ ap₂ (λ (xs : List (List ℕ)) (k : ℕ). xs ++ replicate (room - k) no_digest) whole long in
    rw all (places-more room n others digests few h)

-- a shard in hand has as many bytes as a row of the split
pub shard-length : (held : ShardsWithPaths) (shards : List Shard) → AreShardsOf held shards → (t : ℕ) (d : Shard) → t < length shards
    → length (get_or shards t d).cells.now ≡ 8 * held.split.width
shard-length held shards lie t d l =
    let row = 8 * held.split.width in
    let n = length held.indices.now in
    let bytes = held.bytes.now in
    let b : t < n = omega (arith, l, lie.count) in
    let up : (t + 1) * row ≤ n * row = mul-le (t + 1) row n row (omega (arith, b)) (omega arith) in
    let whole : length bytes ≡ n * row = held.whole in
    let one : length (take row (drop (t * row) bytes)) ≡ row = grind (arith, length-take row (drop (t * row) bytes), length-drop (t * row) bytes, up, whole) in
    ap length (lie.cells t d b) ∙ one

-- so no row of those under the root is refused by its length
no-length : (held : ShardsWithPaths) (top : List ℕ) (shards kept : List Shard) (place : ℕ) → AreShardsOf held shards → AreThoseUnder sha512_256 held.split top shards kept
    → place < length (rows_of kept) → ¬ ((d : Row ℕ) → ¬ (HasLength 1 held.split (get_or (rows_of kept) place d)))
no-length held top shards kept place lie those inside fault =
    let within : place < length kept = omega (arith, inside, length-map kept row_of_shard) in
    let s = some_item kept place within in
    let one = get_or kept place s in
    let there = those.there place s within in
    let long : length one.cells.now ≡ 8 * held.split.width =
    ap (λ (x : Shard). length x.cells.now) (sym there.2) ∙ shard-length held shards lie there.0 one there.1 in
    let at : get_or (rows_of kept) place (row_of_shard s) ≡ row_of_shard one = get_or-map row_of_shard kept place s (row_of_shard s) within in
    fault (row_of_shard s)
    (
    (let e : 1 * length (get_or (rows_of kept) place (row_of_shard s)).cells.now ≡ length (get_or (rows_of kept) place (row_of_shard s)).cells.now = omega arith in e)
    ∙ ap (λ (r : Row ℕ). length r.cells.now) at ∙ long)

-- rows of those under the root are not refused by numbers or sizes
rows-status : (held : ShardsWithPaths) (top : List ℕ) (shards kept : List Shard) (mask : ℕ) (e : RowsError) → AreShardsOf held shards
    → AreThoseUnder sha512_256 held.split top shards kept → IsDecodeDue 1 word_of_bytes held.split mask (rows_of kept) e
    → (status_of_rows e ≢ mismatch) × (status_of_rows e ≢ wrong_size)
rows-status held top shards kept mask (refusals.Memory x) lie those due = (λ e. omega (arith, e), λ e. omega (arith, e))
rows-status held top shards kept mask refusals.TooFew lie those due = (λ e. omega (arith, e), λ e. omega (arith, e))
rows-status held top shards kept mask refusals.Mismatch lie those (inl due) = absurd (no-length held top shards kept due.place lie those due.inside due.fault)
rows-status held top shards kept mask refusals.Mismatch lie those (inr due) = let n : mismatch ≡ inconsistent = ap status_of_rows due.0 in absurd (omega (arith, n))
rows-status held top shards kept mask refusals.Sizes lie those (inl due) = absurd due
rows-status held top shards kept mask refusals.Sizes lie those (inr due) = let n : wrong_size ≡ inconsistent = ap status_of_rows due.0 in absurd (omega (arith, n))
rows-status held top shards kept mask refusals.Index lie those due = (λ e. omega (arith, e), λ e. omega (arith, e))
rows-status held top shards kept mask refusals.Word lie those due = (λ e. omega (arith, e), λ e. omega (arith, e))
rows-status held top shards kept mask refusals.Conflict lie those due = (λ e. omega (arith, e), λ e. omega (arith, e))
rows-status held top shards kept mask refusals.Inconsistent lie those due = (λ e. omega (arith, e), λ e. omega (arith, e))

-- no status of shards in hand says that numbers or sizes are wrong
pub not-of-sizes : (held : ShardsWithPaths) (top : List ℕ) (shards : List Shard) (e : Error) → AreShardsOf held shards → IsStrictDue sha512_256 held.split top shards e
    → (status_of_roots e ≢ mismatch) × (status_of_roots e ≢ wrong_size)
not-of-sizes held top shards (Memory x) lie due = (λ e. omega (arith, e), λ e. omega (arith, e))
not-of-sizes held top shards TooMany lie due = (λ e. omega (arith, e), λ e. omega (arith, e))
not-of-sizes held top shards Masks lie due = (λ e. omega (arith, e), λ e. omega (arith, e))
not-of-sizes held top shards (Rows f) lie due = let it = due.1 in rows-status held top shards it.kept it.mask f lie it.those it.due
not-of-sizes held top shards Root lie due = (λ e. omega (arith, e), λ e. omega (arith, e))

-- which statuses rows have that are refused
rows-among : (e : RowsError) → (status_of_rows e ≢ done) × (status_of_rows e ≤ inconsistent)
rows-among (refusals.Memory x) = (λ e. omega (arith, e), omega arith)
rows-among refusals.TooFew = (λ e. omega (arith, e), omega arith)
rows-among refusals.Mismatch = (λ e. omega (arith, e), omega arith)
rows-among refusals.Sizes = (λ e. omega (arith, e), omega arith)
rows-among refusals.Index = (λ e. omega (arith, e), omega arith)
rows-among refusals.Word = (λ e. omega (arith, e), omega arith)
rows-among refusals.Conflict = (λ e. omega (arith, e), omega arith)
rows-among refusals.Inconsistent = (λ e. omega (arith, e), omega arith)

-- what is due to shards that are joined is due where they are joined strictly
pub strictly : (split : Split) (top : List ℕ) (shards : List Shard) (e : Error) → IsJoinDue sha512_256 split top shards e
    → IsStrictDue sha512_256 split top shards e × (e ≢ Root)
strictly split top shards (Memory x) due = (due, λ e. let n : out_of_memory ≡ wrong_root = ap status_of_roots e in omega (arith, n))
strictly split top shards TooMany due = (due, λ e. let n : too_many ≡ wrong_root = ap status_of_roots e in omega (arith, n))
strictly split top shards Masks due = (due, λ e. let n : inconsistent ≡ wrong_root = ap status_of_roots e in omega (arith, n))
strictly split top shards (Rows f) due = (due, λ e. let n : status_of_rows f ≡ wrong_root = ap status_of_roots e in let few = (rows-among f).1 in omega (arith, n, few))
strictly split top shards Root due = absurd due

-- which statuses a refusal has
pub roots-among : (e : Error) → (status_of_roots e ≢ done) × ((status_of_roots e ≤ inconsistent) ⊎ ((status_of_roots e ≡ too_many) ⊎ (status_of_roots e ≡ wrong_root)))
roots-among (Memory x) = (λ e. omega (arith, e), inl (omega arith))
roots-among TooMany = (λ e. omega (arith, e), inr (inl refl))
roots-among Masks = (λ e. omega (arith, e), inl (omega arith))
roots-among (Rows f) = ((rows-among f).0, inl (rows-among f).1)
roots-among Root = (λ e. omega (arith, e), inr (inr refl))

-- what a call was given are the shards in hand, so what holds of these holds of it
pub given-shards : (size least total : ℕ) (indices masks bytes : List ℕ) (paths : List (List ℕ)) (held : ShardsWithPaths) (shards : List Shard) (P : Split → List Shard → Type 0)
    → AreGiven size least total indices masks bytes paths held → AreShardsOf held shards → P held.split shards
    → HoldsOfShards size least total indices masks bytes paths P
given-shards size least total indices masks bytes paths held shards P is lie holds =
    let row = 8 * held.split.width in
    let all = held.split.total in (
      record {
        split = held.split;
        cut = is.split;
        shards = shards;
        lie =
            subst (λ xs. AreShardsIn row all xs masks bytes paths (length xs) shards) is.indices_are
            (subst (λ ms. AreShardsIn row all held.indices.now ms bytes paths (length held.indices.now) shards) is.masks_are
            (subst (λ bs. AreShardsIn row all held.indices.now held.masks.now bs paths (length held.indices.now) shards) is.bytes_are
            (subst (λ ps. AreShardsIn row all held.indices.now held.masks.now held.bytes.now ps (length held.indices.now) shards) is.paths_are lie)));
      },
      holds,
    )

memory-status : (e : Error) → IsMemory e → status_of_roots e ≡ out_of_memory
memory-status (Memory x) m = refl
memory-status TooMany m = absurd m
memory-status Masks m = absurd m
memory-status (Rows f) m = absurd m
memory-status Root m = absurd m

-- a status that tells of shards is that of a refusal that is due to them
pub joining-due : (size least total : ℕ) (indices masks bytes : List ℕ) (paths : List (List ℕ)) (top : List ℕ) (held : ShardsWithPaths) (e : Error) (status : ℕ)
    → AreGiven size least total indices masks bytes paths held → status ≡ status_of_roots e → IsMemoryOrStrictDue top held e
    → IsJoiningDue size least total indices masks bytes paths top status
joining-due size least total indices masks bytes paths top held e status is told (inl memory) tells = absurd (tells.not_of_memory (told ∙ memory-status e memory))
joining-due size least total indices masks bytes paths top held e status is told (inr due) tells =
    given-shards size least total indices masks bytes paths held due.0 (IsStatusUnder top status) is due.1 (e, told, due.2)
