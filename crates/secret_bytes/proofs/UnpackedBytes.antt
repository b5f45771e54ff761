-- The bytes that are unpacked from numbers.
use Rattle.std.proofs.Common.{◌≡◌, ◌∙◌, ℕ, zero, suc, ◌+◌, ◌*◌, ◌/◌, ◌%◌, ◌-◌, ◌<◌, ◌≤◌, List, [], ◌∷◌, ◌++◌, length, take, drop, map, min, get_or, refl, sym, ap, ap₂, subst, arith, Result, Ok, Err, Option, Some, None, IfOk}
use Rattle.std.specs.List.{All}
use Rattle.std.specs.Option.{IfSome, IfNone, IsSomeAnd}
use Rattle.std.proofs.lemmas.List.{length-append, length-drop, length-map, length-take, take-append-drop}
use Rattle.std.proofs.lemmas.List.Elements.{All-append, All-cons, All-drop, All-head, All-nil, All-tail, All-take}
use Rattle.math_fields.specs.declared.goldilocks.F.{F}
use Rattle.math_fields.specs.Elements.{number}
use Rattle.secret_bytes.specs.Packings.{AllFit, ArePackedBytes, lowest_bytes, number_count, number_of_bytes, packed, sevens, unpacked, without_lowest}
use Rattle.secret_bytes.proofs.PackedBytes.{first_seven, after_seven}

pub lowest-step : (k n : ℕ) → 0 < k → lowest_bytes k n ≡ n % 256 ∷ lowest_bytes (k - 1) (n / 256)
lowest-step zero n l = absurd (omega (arith, l))
lowest-step (suc k) n l = let e : suc k - 1 ≡ k = omega arith in ap (λ j. n % 256 ∷ lowest_bytes j (n / 256)) (sym e)

pub without-step : (k n : ℕ) → 0 < k → without_lowest k n ≡ without_lowest (k - 1) (n / 256)
without-step zero n l = absurd (omega (arith, l))
without-step (suc k) n l = let e : suc k - 1 ≡ k = omega arith in ap (λ j. without_lowest j (n / 256)) (sym e)

length-lowest : (k n : ℕ) → length (lowest_bytes k n) ≡ k
length-lowest zero n = refl
length-lowest (suc k) n = ap suc (length-lowest k (n / 256))

lowest-below : (k n : ℕ) → All (λ byte. byte < 256) (lowest_bytes k n)
lowest-below zero n = All-nil (λ byte. byte < 256)
lowest-below (suc k) n = All-cons (λ byte. byte < 256) (n % 256) (lowest_bytes k (n / 256)) (omega arith) (lowest-below k (n / 256))

-- the lowest bytes of a number with no more are those of it
number_of-lowest : (k n : ℕ) → without_lowest k n ≡ 0 → number_of_bytes (lowest_bytes k n) ≡ n
number_of-lowest zero n e = sym e
number_of-lowest (suc k) n e = let i : number_of_bytes (lowest_bytes k (n / 256)) ≡ n / 256 = number_of-lowest k (n / 256) e in omega (arith, i)

-- bytes are the lowest ones of the number that they write, and it has no more
lowest-number_of : (bytes : List ℕ) → All (λ byte. byte < 256) bytes → lowest_bytes (length bytes) (number_of_bytes bytes) ≡ bytes
lowest-number_of [] h = refl
lowest-number_of (b ∷ bytes) h =
    let j : b < 256 = All-head (λ byte. byte < 256) b bytes h in
    let low : (b + 256 * number_of_bytes bytes) % 256 ≡ b = omega (arith, j) in
    let high : (b + 256 * number_of_bytes bytes) / 256 ≡ number_of_bytes bytes = omega (arith, j) in
    ap₂ (λ x y. x ∷ lowest_bytes (length bytes) y) low high ∙ ap (λ x. b ∷ x) (lowest-number_of bytes (All-tail (λ byte. byte < 256) b bytes h))

without-number_of : (bytes : List ℕ) → All (λ byte. byte < 256) bytes → without_lowest (length bytes) (number_of_bytes bytes) ≡ 0
without-number_of [] h = refl
without-number_of (b ∷ bytes) h =
    let j : b < 256 = All-head (λ byte. byte < 256) b bytes h in
    let high : (b + 256 * number_of_bytes bytes) / 256 ≡ number_of_bytes bytes = omega (arith, j) in
    ap (λ x. without_lowest (length bytes) x) high ∙ without-number_of bytes (All-tail (λ byte. byte < 256) b bytes h)

-- what is unpacked is so many bytes
unpacked-length : (count : ℕ) (numbers : List ℕ) → length numbers ≡ number_count count → length (unpacked count numbers) ≡ count
unpacked-length count [] l = omega (arith, l)
unpacked-length count (n ∷ numbers) l =
    let i : length (unpacked (count - 7) numbers) ≡ count - 7 = unpacked-length (count - 7) numbers (omega (arith, l)) in
    let j : length (lowest_bytes (min 7 count) n) ≡ min 7 count = length-lowest (min 7 count) n in
    length-append (lowest_bytes (min 7 count) n) (unpacked (count - 7) numbers) ∙ omega (arith, i, j)

unpacked-below : (count : ℕ) (numbers : List ℕ) → All (λ byte. byte < 256) (unpacked count numbers)
unpacked-below count [] = All-nil (λ byte. byte < 256)
unpacked-below count (n ∷ numbers) =
    All-append (λ byte. byte < 256) (lowest_bytes (min 7 count) n) (unpacked (count - 7) numbers) (lowest-below (min 7 count) n) (unpacked-below (count - 7) numbers)

-- numbers that fit are those of what is unpacked from them
sevens-unpacked : (count : ℕ) (numbers : List ℕ) → length numbers ≡ number_count count → AllFit count numbers → sevens (length numbers) (unpacked count numbers) ≡ numbers
sevens-unpacked count [] l h = refl
sevens-unpacked count (n ∷ numbers) l h =
    let front = lowest_bytes (min 7 count) n in
    let after = unpacked (count - 7) numbers in
    let shorter : length numbers ≡ number_count (count - 7) = omega (arith, l) in
    let long : length after ≡ count - 7 = unpacked-length (count - 7) numbers shorter in
    let few : length front ≡ min 7 count = length-lowest (min 7 count) n in
    let short : length front ≤ 7 = omega (arith, few) in
    let full : 0 < length after → length front ≡ 7 = λ more. omega (arith, few, long, more) in
    ap₂ (λ x y. number_of_bytes x ∷ sevens (length numbers) y) (first_seven front after short full) (after_seven front after short full)
    ∙ ap₂ (λ x y. x ∷ y) (number_of-lowest (min 7 count) n h.0) (sevens-unpacked (count - 7) numbers shorter h.1)

-- the numbers of bytes fit, and the bytes are unpacked from them
unpacked-sevens : (k count : ℕ) (bytes : List ℕ) → All (λ byte. byte < 256) bytes → length bytes ≡ count → number_count count ≡ k
    → AllFit count (sevens k bytes) × (unpacked count (sevens k bytes) ≡ bytes)
unpacked-sevens zero count [] h l m = (tt, refl)
unpacked-sevens zero count (b ∷ bytes) h l m = absurd (omega (arith, l, m))
unpacked-sevens (suc k) count bytes h l m =
    let front = take 7 bytes in
    let after = drop 7 bytes in
    let few : length front ≡ min 7 count = length-take 7 bytes ∙ ap (min 7) l in
    let long : length after ≡ count - 7 = length-drop 7 bytes ∙ ap (λ n. n - 7) l in
    let small : All (λ byte. byte < 256) front = All-take (λ byte. byte < 256) 7 bytes h in
    let rest = unpacked-sevens k (count - 7) after (All-drop (λ byte. byte < 256) 7 bytes h) long (omega (arith, m)) in (
      (ap (λ x. without_lowest x (number_of_bytes front)) (sym few) ∙ without-number_of front small, rest.0),
      ap₂ (λ x y. x ++ y) (ap (λ x. lowest_bytes x (number_of_bytes front)) (sym few) ∙ lowest-number_of front small) rest.1 ∙ take-append-drop 7 bytes,
    )

-- elements whose numbers fit are those of what is unpacked from them
pub packed-unpacked : (elements rest : List F) (a : F) (count : ℕ) (bytes : List ℕ) → elements ≡ a ∷ rest → number a ≡ count → count < 4294967296 → length rest ≡ number_count count
    → bytes ≡ unpacked count (map number rest) → AllFit count (map number rest) → ArePackedBytes elements bytes
packed-unpacked elements rest a count bytes e n few l u h =
    let numbers = map number rest in
    let long : length numbers ≡ number_count count = length-map rest number ∙ l in
    let size : length bytes ≡ count = ap length u ∙ unpacked-length count numbers long in (
      record { each_byte = subst (All (λ byte. byte < 256)) (sym u) (unpacked-below count numbers); few = omega (arith, size, few) },
      ap (map number) e
          ∙ ap₂ (λ x y. x ∷ y) (n ∙ sym size) (sym (sevens-unpacked count numbers long h) ∙ ap₂ (λ x y. sevens x y) (long ∙ ap number_count (sym size)) (sym u)),
    )

-- so many numbers are so many
pub length-sevens : (k : ℕ) (bytes : List ℕ) → length (sevens k bytes) ≡ k
length-sevens zero bytes = refl
length-sevens (suc k) bytes = ap suc (length-sevens k (drop 7 bytes))

module _ (elements rest : List F) (a : F) (bytes : List ℕ) (e : elements ≡ a ∷ rest) (h : ArePackedBytes elements bytes) where
  -- the parts of elements that are those of bytes
  packed-parts : (number a ≡ length bytes) × (map number rest ≡ sevens (number_count (length bytes)) bytes)
  packed-parts =
      let both : number a ∷ map number rest ≡ packed bytes = ap (map number) (sym e) ∙ h.1 in
      (ap (λ xs. get_or xs 0 0) both, ap (drop 1) both)

  -- as many as hold them
  pub packed-count : length rest ≡ number_count (number a)
  packed-count = sym (length-map rest number) ∙ ap length packed-parts.1 ∙ length-sevens (number_count (length bytes)) bytes ∙ ap number_count (sym packed-parts.0)

  -- their numbers fit, and the bytes are unpacked from them
  pub packed-fit : AllFit (number a) (map number rest) × (unpacked (number a) (map number rest) ≡ bytes)
  packed-fit =
      subst (λ (m : List ℕ). AllFit (number a) m × (unpacked (number a) m ≡ bytes)) (sym packed-parts.1)
      (unpacked-sevens (number_count (length bytes)) (number a) bytes h.0.each_byte (sym packed-parts.0) (ap number_count packed-parts.0))

-- what there is has another property
pub some-mapped : {X E : Type 0} (r : Result (Option X) E) (P Q : X → Type 0) → ((x : X) → P x → Q x) → IfOk r (λ a. IfSome a P) → IfOk r (λ a. IfSome a Q)
some-mapped (Ok (Some x)) P Q f h = f x h
some-mapped (Ok None) P Q f h = tt
some-mapped (Err e) P Q f h = tt

-- where there is something, it has the property
pub some-found : {X E : Type 0} (r : Result (Option X) E) (P Q : X → Type 0) (N : Type 0) → ((x : X) → P x → Q x) → ¬ N
    → IfOk r (λ a. IfSome a P) → IfOk r (λ a. IfNone a N) → IfOk r (λ a. IsSomeAnd a Q)
some-found (Ok (Some x)) P Q N f n h k = f x h
some-found (Ok None) P Q N f n h k = n k
some-found (Err e) P Q N f n h k = tt

-- elements of bytes are one more than hold the bytes
pub packed-length : (elements : List F) (bytes : List ℕ) → ArePackedBytes elements bytes → length elements ≡ number_count (length bytes) + 1
packed-length elements bytes h =
    let e : length (map number elements) ≡ suc (number_count (length bytes)) = ap length h.1 ∙ ap suc (length-sevens (number_count (length bytes)) bytes) in
    omega (arith, e, length-map elements number)

-- elements of the same numbers are those of the same bytes
pub packed-once : (elements others : List F) (bytes more : List ℕ) → ArePackedBytes elements bytes → ArePackedBytes others more → map number elements ≡ map number others → bytes ≡ more
packed-once elements others bytes more h k e =
    let both : packed bytes ≡ packed more = sym h.1 ∙ e ∙ k.1 in
    let count : length bytes ≡ length more = ap (λ xs. get_or xs 0 0) both in
    let numbers : sevens (number_count (length bytes)) bytes ≡ sevens (number_count (length more)) more = ap (drop 1) both in
    sym (unpacked-sevens (number_count (length bytes)) (length bytes) bytes h.0.each_byte refl refl).1
    ∙ ap₂ (λ n xs. unpacked n xs) count numbers
    ∙ (unpacked-sevens (number_count (length more)) (length more) more k.0.each_byte refl refl).1
