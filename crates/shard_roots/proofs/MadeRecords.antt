-- Records as they are made, one after the other.
use Rattle.std.proofs.Common.{◌≡◌, ◌∙◌, inl, inr, ℕ, zero, suc, ◌+◌, ◌-◌, ◌*◌, ◌<◌, ◌≤◌, List, [], ◌∷◌, ◌++◌, append_assoc, length, map, take, drop, get_or, min, refl, sym, ap, ap₂, arith}
use Rattle.std.specs.Int.{to_be_bytes, w64}
use Rattle.std.specs.List.{range_with_len}
use Rattle.std.proofs.lemmas.Bool.{cases_lt}
use Rattle.std.proofs.lemmas.List.{ext_get_or, get_or-drop, get_or-take, get_or_past, length-append, length-drop, length-take-le, map-append, take-append-le, take_all}
use Rattle.hash_trees.specs.Binding.{leaves}
use Rattle.hash_trees.specs.Trees.{leaf_message}
use Rattle.systematic_shards.specs.declared.split.Split.{Split}
use Rattle.shard_roots.specs.Records.{record_of, row_at}
use Rattle.systematic_shards.proofs.Bytes.{length-zeros, zeros}
use Rattle.shard_roots.proofs.RecordBytes.{padded-at, row-byte}

-- the pieces that are hashed one after the other are the message
pub joined_record : (split : Split) (mask index : ℕ) (a b c d e row : List ℕ)
    → a ≡ to_be_bytes w64 split.size → b ≡ to_be_bytes w64 index → c ≡ to_be_bytes w64 split.min → d ≡ to_be_bytes w64 split.total → e ≡ to_be_bytes w64 mask
    → ((((((0 ∷ []) ++ a) ++ b) ++ c) ++ d) ++ e) ++ row ≡ leaf_message (record_of split mask index row)
joined_record split mask index a b c d e row p q r s t = rw (append_assoc, p, q, r, s, t) refl

range_more : (a n : ℕ) → range_with_len a (suc n) ≡ range_with_len a n ++ (a + n) ∷ []
range_more a zero = let e : a ≡ a + 0 = omega arith in ap (λ x. x ∷ []) e
range_more a (suc n) =
    let e : a + 1 + n ≡ a + suc n = omega arith in
    ap (λ xs. a ∷ xs) (range_more (a + 1) n ∙ ap (λ x. range_with_len (a + 1) n ++ x ∷ []) e)

-- one number more
pub mapped_more : {X : Type 0} (f : ℕ → X) (n : ℕ) → map f (range_with_len 0 (n + 1)) ≡ map f (range_with_len 0 n) ++ f n ∷ []
mapped_more f n =
    let e : suc n ≡ n + 1 = omega arith in
    let last : 0 + n ≡ n = omega arith in
    ap (λ k. map f (range_with_len 0 k)) (sym e) ∙ ap (map f) (range_more 0 n) ∙ map-append f (range_with_len 0 n) ((0 + n) ∷ []) ∙ ap (λ k. map f (range_with_len 0 n) ++ f k ∷ []) last

-- the leaves of mapped records
pub leaves_mapped : (h : List ℕ → List ℕ) (f : ℕ → List ℕ) (xs : List ℕ) → map (λ i. h (leaf_message (f i))) xs ≡ leaves h (map f xs)
leaves_mapped h f [] = refl
leaves_mapped h f (x ∷ xs) = ap (λ ds. h (leaf_message (f x)) ∷ ds) (leaves_mapped h f xs)

-- a part of bytes that reaches over a whole row is the row
pub whole_row : (n : ℕ) (bytes : List ℕ) (i end : ℕ) → end ≡ (i + 1) * n → end ≤ length bytes → take (end - i * n) (drop (i * n) bytes) ≡ row_at n bytes i
whole_row n bytes i end is within =
    let next : (i + 1) * n ≡ i * n + n = grind arith in
    let count : end - i * n ≡ n = omega (arith, is, next) in
    let long = length-drop (i * n) bytes in
    ap (λ k. take k (drop (i * n) bytes)) count ∙ sym (take-append-le n (drop (i * n) bytes) (zeros n) (omega (arith, long, within, is, next)))

-- a part of bytes, and zeros behind it, is a row
module _ (n : ℕ) (bytes part : List ℕ) (i a b : ℕ) (first : a ≡ min (i * n) (length bytes)) (last : b ≡ min ((i + 1) * n) (length bytes)) (is : part ≡ take (b - a) (drop a bytes)) where
  next : (i + 1) * n ≡ i * n + n
  next = grind arith

  part_length : length part ≡ b - a
  part_length = ap length is ∙ length-take-le (b - a) (drop a bytes) (let long = length-drop a bytes in omega (arith, long, first, last, next))

  byte : (r : ℕ) → r < n → get_or part r 0 ≡ get_or bytes (i * n + r) 0
  byte r l = elim (cases_lt r (b - a)) [
    | inl m ↦
        let at : a + r ≡ i * n + r = omega (arith, m, first, last, next) in
        ap (λ xs. get_or xs r 0) is ∙ get_or-take (b - a) (drop a bytes) r 0 m ∙ get_or-drop a bytes r 0 ∙ ap (λ p. get_or bytes p 0) at
    | inr m ↦ get_or_past part r 0 (omega (arith, m, part_length)) ∙ sym (get_or_past bytes (i * n + r) 0 (omega (arith, m, l, first, last, next)))
  ]

  few : length part ≤ n
  few = omega (arith, part_length, first, last, next)

  padded_row : part ++ zeros (n - length part) ≡ row_at n bytes i
  padded_row =
      let left : length (part ++ zeros (n - length part)) ≡ n =
      let all = length-append part (zeros (n - length part)) in let rest = length-zeros (n - length part) in omega (arith, all, rest, few) in
      let right : length (row_at n bytes i) ≡ n =
      length-take-le n (drop (i * n) bytes ++ zeros n) (let all = length-append (drop (i * n) bytes) (zeros n) in let rest = length-zeros n in omega (arith, all, rest)) in
      ext_get_or 0 (part ++ zeros (n - length part)) (row_at n bytes i) (left ∙ sym right)
      (λ r l. padded-at part (n - length part) r ∙ byte r (omega (arith, l, left)) ∙ sym (row-byte n bytes i r (omega (arith, l, left))))

  pub resized_row : (row : List ℕ) (count : ℕ) → count ≡ length part → row ≡ take n part ++ zeros (n - count) → row ≡ row_at n bytes i
  resized_row row count size made =
      let whole : take n part ≡ part = take_all n part few in
      made ∙ ap₂ (λ xs k. xs ++ zeros (n - k)) whole size ∙ padded_row
