-- The line of a share is what its letters are, written plainly.
use Rattle.std.proofs.Common.{sym, ◌≡◌, ◌∙◌, ℕ, zero, suc, ◌-◌, ◌*◌, ◌/◌, ◌%◌, ◌<◌, ◌^◌, Bool, true, false, eqb, List, [], ◌∷◌, ◌++◌, length, take, drop, slice_index_or, refl, ap, ap₂, arith, inl, inr, if◌then◌else◌, ◌&&◌, subst, true≢false}
use Rattle.std.specs.Char.{to_ascii_uppercase}
use Rattle.std.specs.List.{All}
use Rattle.std.proofs.lemmas.Bool.{cases_Bool, eqb-true, lt-ltb, ne_eqb}
use Rattle.std.proofs.lemmas.Bool.Decides.{nat_tests}
use Rattle.std.proofs.lemmas.List.{length-append}
use Rattle.std.proofs.lemmas.List.Elements.{All-append, All-cons, All-head, All-nil, All-tail}
use Rattle.std.proofs.Math.Seq.{drop-append_seam, take-append_seam}
use Rattle.math_fields.specs.Elements.{number}
use Rattle.secret_bytes.specs.declared.share.SecretShare.{SecretShare}
use Rattle.secret_bytes.specs.Letters.{dash, grouped, letter}
use Rattle.secret_bytes.specs.LineChecks.{check_bytes, check_value}
use Rattle.secret_bytes.specs.Lines.{body_spelling, line_spelling}
use Rattle.secret_bytes.specs.Readings.{capitals, dashed, has_mark, is_space, is_space_of_three, is_space_of_two, letters_of, plain, unnumbered, unquoted, unspaced}
use Rattle.secret_bytes.specs.SecretShares.{AdmitsShare, share_spelling}
use Rattle.secret_bytes.proofs.SharesAreBytes.{share-bytes, word-bytes}

-- a letter or digit that is no small letter
abbrev IsLetter : ℕ → Type 0
IsLetter c = (48 < c) × (c < 97)

-- a character of a line: a dash, or a letter or digit that is no small letter
abbrev pub IsShown : ℕ → Type 0
IsShown c = (32 < c) × (c < 97)

letter-is : (d : ℕ) → d < 16 → IsLetter (letter d)
letter-is zero l = (omega arith, omega arith)
letter-is (suc zero) l = (omega arith, omega arith)
letter-is (suc (suc zero)) l = (omega arith, omega arith)
letter-is (suc (suc (suc zero))) l = (omega arith, omega arith)
letter-is (suc (suc (suc (suc zero)))) l = (omega arith, omega arith)
letter-is (suc (suc (suc (suc (suc zero))))) l = (omega arith, omega arith)
letter-is (suc (suc (suc (suc (suc (suc zero)))))) l = (omega arith, omega arith)
letter-is (suc (suc (suc (suc (suc (suc (suc zero))))))) l = (omega arith, omega arith)
letter-is (suc (suc (suc (suc (suc (suc (suc (suc zero)))))))) l = (omega arith, omega arith)
letter-is (suc (suc (suc (suc (suc (suc (suc (suc (suc zero))))))))) l = (omega arith, omega arith)
letter-is (suc (suc (suc (suc (suc (suc (suc (suc (suc (suc zero)))))))))) l = (omega arith, omega arith)
letter-is (suc (suc (suc (suc (suc (suc (suc (suc (suc (suc (suc zero))))))))))) l = (omega arith, omega arith)
letter-is (suc (suc (suc (suc (suc (suc (suc (suc (suc (suc (suc (suc zero)))))))))))) l = (omega arith, omega arith)
letter-is (suc (suc (suc (suc (suc (suc (suc (suc (suc (suc (suc (suc (suc zero))))))))))))) l = (omega arith, omega arith)
letter-is (suc (suc (suc (suc (suc (suc (suc (suc (suc (suc (suc (suc (suc (suc zero)))))))))))))) l = (omega arith, omega arith)
letter-is (suc (suc (suc (suc (suc (suc (suc (suc (suc (suc (suc (suc (suc (suc (suc zero))))))))))))))) l = (omega arith, omega arith)
letter-is (suc (suc (suc (suc (suc (suc (suc (suc (suc (suc (suc (suc (suc (suc (suc (suc d)))))))))))))))) l = absurd (omega arith)

-- the letters of bytes, two for each
abbrev pub paired : List ℕ → List ℕ
paired [] = []
paired (b ∷ bytes) = letter (b / 16) ∷ letter (b % 16) ∷ paired bytes

pub length-paired : (bytes : List ℕ) → length (paired bytes) ≡ 2 * length bytes
length-paired [] = refl
length-paired (b ∷ bytes) = omega (arith, length-paired bytes)

-- dashes are all that stands between the letters of bytes in groups
dashed-paired : (bytes : List ℕ) → (dashed 0 (paired bytes) ≡ grouped true bytes) × (dashed 2 (paired bytes) ≡ grouped false bytes)
dashed-paired [] = (refl, refl)
dashed-paired (b ∷ bytes) =
    let rest = dashed-paired bytes in
    (ap (λ t. dash ∷ letter (b / 16) ∷ letter (b % 16) ∷ t) rest.1, ap (λ t. letter (b / 16) ∷ letter (b % 16) ∷ t) rest.0)

capitals-letter : (c : ℕ) (text : List ℕ) → IsLetter c → capitals (c ∷ text) ≡ c ∷ capitals text
capitals-letter c text l =
    let other : eqb c 45 ≡ false = ne_eqb c 45 (λ e. omega (arith, e, l.0)) in
    let same : to_ascii_uppercase c ≡ c = rw (lt-ltb c 97 l.1) refl in
    rw other (ap (λ d. d ∷ capitals text) same)

pub capitals-append : (xs ys : List ℕ) → capitals (xs ++ ys) ≡ capitals xs ++ capitals ys
capitals-append [] ys = refl
capitals-append (c ∷ xs) ys =
    elim (cases_Bool (eqb c 45)) as (λ _. capitals ((c ∷ xs) ++ ys) ≡ capitals (c ∷ xs) ++ capitals ys) [
      | inl t ↦ rw t (capitals-append xs ys)
      | inr f ↦ rw f (ap (λ t. to_ascii_uppercase c ∷ t) (capitals-append xs ys))
    ]

capitals-pair : (b : ℕ) (text : List ℕ) → b < 256 → capitals (letter (b / 16) ∷ letter (b % 16) ∷ text) ≡ letter (b / 16) ∷ letter (b % 16) ∷ capitals text
capitals-pair b text l =
    capitals-letter (letter (b / 16)) (letter (b % 16) ∷ text) (letter-is (b / 16) (omega (arith, l)))
    ∙ ap (λ t. letter (b / 16) ∷ t) (capitals-letter (letter (b % 16)) text (letter-is (b % 16) (omega arith)))

capitals-grouped : (first : Bool) (bytes : List ℕ) → All (λ b. b < 256) bytes → capitals (grouped first bytes) ≡ paired bytes
capitals-grouped first [] h = refl
capitals-grouped true (b ∷ bytes) h =
    capitals-pair b (grouped false bytes) (All-head (λ b. b < 256) b bytes h) ∙ ap (λ t. letter (b / 16) ∷ letter (b % 16) ∷ t) (capitals-grouped false bytes (All-tail (λ b. b < 256) b bytes h))
capitals-grouped false (b ∷ bytes) h =
    capitals-pair b (grouped true bytes) (All-head (λ b. b < 256) b bytes h) ∙ ap (λ t. letter (b / 16) ∷ letter (b % 16) ∷ t) (capitals-grouped true bytes (All-tail (λ b. b < 256) b bytes h))

letter-shown : (d : ℕ) → d < 16 → IsShown (letter d)
letter-shown d l = let h = letter-is d l in (omega (arith, h.0), h.1)

pair : (b : ℕ) (bytes : List ℕ) (first : Bool) → b < 256 → All IsShown (grouped first bytes) → All IsShown (letter (b / 16) ∷ letter (b % 16) ∷ grouped first bytes)
pair b bytes first l h =
    All-cons IsShown (letter (b / 16)) (letter (b % 16) ∷ grouped first bytes) (letter-shown (b / 16) (omega (arith, l)))
    (All-cons IsShown (letter (b % 16)) (grouped first bytes) (letter-shown (b % 16) (omega arith)) h)

grouped-shown : (first : Bool) (bytes : List ℕ) → All (λ b. b < 256) bytes → All IsShown (grouped first bytes)
grouped-shown first [] h = All-nil IsShown
grouped-shown true (b ∷ bytes) h =
    All-cons IsShown 45 (letter (b / 16) ∷ letter (b % 16) ∷ grouped false bytes) (omega arith, omega arith)
    (pair b bytes false (All-head (λ b. b < 256) b bytes h) (grouped-shown false bytes (All-tail (λ b. b < 256) b bytes h)))
grouped-shown false (b ∷ bytes) h = pair b bytes true (All-head (λ b. b < 256) b bytes h) (grouped-shown true bytes (All-tail (λ b. b < 256) b bytes h))

pub line-shown : (s : SecretShare) → AdmitsShare (2 ^ 20) s → All IsShown (line_spelling s)
line-shown s a =
    All-append IsShown (body_spelling s) (grouped true (check_bytes (body_spelling s)))
    (All-cons IsShown 83 (49 ∷ grouped true (share_spelling s)) (omega arith, omega arith)
    (All-cons IsShown 49 (grouped true (share_spelling s)) (omega arith, omega arith) (grouped-shown true (share_spelling s) (share-bytes 1048576 s a))))
    (grouped-shown true (check_bytes (body_spelling s)) (word-bytes (number (check_value (body_spelling s)))))

-- no white space begins with a character of a line
abbrev size : ℕ → ℕ → ℕ → ℕ
size a b c = if is_space a then 1 else if is_space_of_two a b then 2 else if is_space_of_three a b c then 3 else 0

no-space : (a b c : ℕ) → IsShown a → size a b c ≡ 0
no-space a b c l =
    let one : is_space a ≡ false = blank a l in
    let two : is_space_of_two a b ≡ false = rw (ne_eqb a 0xC2 (λ e. omega (arith, e, l.1))) refl in
    let three : is_space_of_three a b c ≡ false =
    rw (ne_eqb a 0xE1 (λ e. omega (arith, e, l.1)), ne_eqb a 0xE2 (λ e. omega (arith, e, l.1)), ne_eqb a 0xE3 (λ e. omega (arith, e, l.1)), ne_eqb a 0xEF (λ e. omega (arith, e, l.1))) refl in
    rw (one, two, three) refl
  where
    blank : (a : ℕ) → IsShown a → is_space a ≡ false
    blank a l = let behind : 32 < a = l.0 in grind (arith, nat_tests)

unspaced-shown : (text : List ℕ) → All IsShown text → unspaced 0 text ≡ text
unspaced-shown [] h = refl
unspaced-shown (b ∷ text) h =
    rw (no-space b (slice_index_or (b ∷ text) 1 0) (slice_index_or (b ∷ text) 2 0) (All-head IsShown b text h)) (ap (λ t. b ∷ t) (unspaced-shown text (All-tail IsShown b text h)))

-- the letters of the line of a share
pub letters-line : (s : SecretShare) → AdmitsShare (2 ^ 20) s → letters_of (line_spelling s) ≡ 83 ∷ 49 ∷ (paired (share_spelling s) ++ paired (check_bytes (body_spelling s)))
letters-line s a =
    let share : capitals (grouped true (share_spelling s)) ≡ paired (share_spelling s) = capitals-grouped true (share_spelling s) (share-bytes 1048576 s a) in
    let check : capitals (grouped true (check_bytes (body_spelling s))) ≡ paired (check_bytes (body_spelling s)) =
    capitals-grouped true (check_bytes (body_spelling s)) (word-bytes (number (check_value (body_spelling s)))) in
    ap (λ t. capitals (unnumbered (unquoted t))) (unspaced-shown (line_spelling s) (line-shown s a))
    ∙ capitals-append (body_spelling s) (grouped true (check_bytes (body_spelling s))) ∙ ap₂ (λ x y. (83 ∷ 49 ∷ x) ++ y) share check

-- written plainly, they are that line again
plain-paired : (share check : List ℕ) → length check ≡ 8 → plain (83 ∷ 49 ∷ (paired share ++ paired check)) ≡ (83 ∷ 49 ∷ grouped true share) ++ grouped true check
plain-paired share check e =
    let text = 83 ∷ 49 ∷ (paired share ++ paired check) in
    let front = 83 ∷ 49 ∷ paired share in
    let count : length text - 16 ≡ length front = omega (arith, e, length-append (paired share) (paired check), length-paired check) in
    let before : take (length text - 16) text ≡ front = ap (λ n. take n text) count ∙ take-append_seam front (paired check) in
    let after : drop (length text - 16) text ≡ paired check = ap (λ n. drop n text) count ∙ drop-append_seam front (paired check) in
    ap₂ (λ x y. take 2 x ++ (dashed 0 (drop 2 x) ++ dashed 0 y)) before after ∙ ap₂ (λ x y. 83 ∷ 49 ∷ (x ++ y)) (dashed-paired share).0 (dashed-paired check).0

pub plain-line : (s : SecretShare) → AdmitsShare (2 ^ 20) s → plain (letters_of (line_spelling s)) ≡ line_spelling s
plain-line s a = ap plain (letters-line s a) ∙ plain-paired (share_spelling s) (check_bytes (body_spelling s)) refl

pub marked-line : (s : SecretShare) → AdmitsShare (2 ^ 20) s → has_mark (letters_of (line_spelling s)) ≡ true
marked-line s a = ap has_mark (letters-line s a)

-- the letters of a line that begins with the mark begin with it
pub marked-plainly : (line : List ℕ) → has_mark line ≡ true → has_mark (letters_of line) ≡ true
marked-plainly [] e = cc
marked-plainly (a ∷ []) e = absurd (single (eqb a 83) e)
  where
    single : (x : Bool) → (x && false) ≡ true → ⊥
    single true e = true≢false (sym e)
    single false e = true≢false (sym e)
marked-plainly (a ∷ b ∷ line) e = begin a b (both (eqb a 83) (eqb b 49) e)
  where
    both : (x y : Bool) → (x && y) ≡ true → (x ≡ true) × (y ≡ true)
    both true true e = (refl, refl)
    both true false e = cc
    both false y e = cc

    begin : (a b : ℕ) → (eqb a 83 ≡ true) × (eqb b 49 ≡ true) → has_mark (letters_of (a ∷ b ∷ line)) ≡ true
    begin a b h = subst (λ x. has_mark (letters_of (x ∷ b ∷ line)) ≡ true) (sym (eqb-true a 83 h.0)) (subst (λ y. has_mark (letters_of (83 ∷ y ∷ line)) ≡ true) (sym (eqb-true b 49 h.1)) refl)
