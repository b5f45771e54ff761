-- Letters stand for one number, and letters in groups for one list of bytes.
use Rattle.std.proofs.Common.{◌≡◌, ◌≢◌, ◌∙◌, ℕ, zero, suc, ◌+◌, ◌/◌, ◌%◌, ◌<◌, List, [], ◌∷◌, ◌++◌, length, drop, get_or, Bool, true, false, not, refl, sym, ap, arith, append_assoc}
use Rattle.std.specs.List.{All}
use Rattle.std.proofs.lemmas.List.{append_cancel_left, append-nil, length-append}
use Rattle.std.proofs.lemmas.List.Elements.{All-nil, All-cons, All-head, All-tail, All-append}
use Rattle.secret_bytes.specs.Letters.{letter, gap, grouped}

-- the number that a code stands for, where it is the code of a letter
abbrev numbers : List ℕ
numbers = 16 ∷ 16 ∷ 16 ∷ 16 ∷ 16 ∷ 16 ∷ 16 ∷ 16 ∷ 16 ∷ 16 ∷ 16 ∷ 16 ∷ 16 ∷ 16 ∷ 16 ∷ 16 ∷ 16 ∷ 16 ∷ 16 ∷ 16 ∷ 16 ∷ 16 ∷ 16 ∷ 16 ∷ 16 ∷ 16 ∷ 16 ∷ 16 ∷ 16 ∷ 16 ∷ 16 ∷ 16 ∷ 16 ∷ 16 ∷ 16 ∷ 16 ∷ 16 ∷ 16 ∷ 16 ∷ 16 ∷ 16 ∷ 16 ∷ 16 ∷ 16 ∷ 16 ∷ 16 ∷ 16 ∷ 16 ∷ 16 ∷ 16 ∷ 16 ∷ 0 ∷ 1 ∷ 16 ∷ 2 ∷ 3 ∷ 16 ∷ 4 ∷ 16 ∷ 16 ∷ 16 ∷ 16 ∷ 16 ∷ 16 ∷ 16 ∷ 5 ∷ 16 ∷ 6 ∷ 16 ∷ 7 ∷ 8 ∷ 16 ∷ 9 ∷ 16 ∷ 10 ∷ 11 ∷ 16 ∷ 12 ∷ 16 ∷ 16 ∷ 16 ∷ 16 ∷ 13 ∷ 16 ∷ 14 ∷ 16 ∷ 16 ∷ 16 ∷ 15 ∷ []

number-of_letter : (d : ℕ) → d < 16 → get_or numbers (letter d) 0 ≡ d
number-of_letter zero l = refl
number-of_letter (suc zero) l = refl
number-of_letter (suc (suc zero)) l = refl
number-of_letter (suc (suc (suc zero))) l = refl
number-of_letter (suc (suc (suc (suc zero)))) l = refl
number-of_letter (suc (suc (suc (suc (suc zero))))) l = refl
number-of_letter (suc (suc (suc (suc (suc (suc zero)))))) l = refl
number-of_letter (suc (suc (suc (suc (suc (suc (suc zero))))))) l = refl
number-of_letter (suc (suc (suc (suc (suc (suc (suc (suc zero)))))))) l = refl
number-of_letter (suc (suc (suc (suc (suc (suc (suc (suc (suc zero))))))))) l = refl
number-of_letter (suc (suc (suc (suc (suc (suc (suc (suc (suc (suc zero)))))))))) l = refl
number-of_letter (suc (suc (suc (suc (suc (suc (suc (suc (suc (suc (suc zero))))))))))) l = refl
number-of_letter (suc (suc (suc (suc (suc (suc (suc (suc (suc (suc (suc (suc zero)))))))))))) l = refl
number-of_letter (suc (suc (suc (suc (suc (suc (suc (suc (suc (suc (suc (suc (suc zero))))))))))))) l = refl
number-of_letter (suc (suc (suc (suc (suc (suc (suc (suc (suc (suc (suc (suc (suc (suc zero)))))))))))))) l = refl
number-of_letter (suc (suc (suc (suc (suc (suc (suc (suc (suc (suc (suc (suc (suc (suc (suc zero))))))))))))))) l = refl
number-of_letter (suc (suc (suc (suc (suc (suc (suc (suc (suc (suc (suc (suc (suc (suc (suc (suc d)))))))))))))))) l = absurd (omega arith)

pub letters_differ : (d e : ℕ) → d < 16 → e < 16 → letter d ≡ letter e → d ≡ e
letters_differ d e l m h = sym (number-of_letter d l) ∙ ap (λ a. get_or numbers a 0) h ∙ number-of_letter e m

letter-small : (d : ℕ) → letter d < 128
letter-small zero = omega arith
letter-small (suc zero) = omega arith
letter-small (suc (suc zero)) = omega arith
letter-small (suc (suc (suc zero))) = omega arith
letter-small (suc (suc (suc (suc zero)))) = omega arith
letter-small (suc (suc (suc (suc (suc zero))))) = omega arith
letter-small (suc (suc (suc (suc (suc (suc zero)))))) = omega arith
letter-small (suc (suc (suc (suc (suc (suc (suc zero))))))) = omega arith
letter-small (suc (suc (suc (suc (suc (suc (suc (suc zero)))))))) = omega arith
letter-small (suc (suc (suc (suc (suc (suc (suc (suc (suc zero))))))))) = omega arith
letter-small (suc (suc (suc (suc (suc (suc (suc (suc (suc (suc zero)))))))))) = omega arith
letter-small (suc (suc (suc (suc (suc (suc (suc (suc (suc (suc (suc zero))))))))))) = omega arith
letter-small (suc (suc (suc (suc (suc (suc (suc (suc (suc (suc (suc (suc zero)))))))))))) = omega arith
letter-small (suc (suc (suc (suc (suc (suc (suc (suc (suc (suc (suc (suc (suc zero))))))))))))) = omega arith
letter-small (suc (suc (suc (suc (suc (suc (suc (suc (suc (suc (suc (suc (suc (suc zero)))))))))))))) = omega arith
letter-small (suc (suc (suc (suc (suc (suc (suc (suc (suc (suc (suc (suc (suc (suc (suc zero))))))))))))))) = omega arith
letter-small (suc (suc (suc (suc (suc (suc (suc (suc (suc (suc (suc (suc (suc (suc (suc (suc d)))))))))))))))) = omega arith

heads : {A : Type 0} (a b : A) (xs ys : List A) → a ∷ xs ≡ b ∷ ys → a ≡ b
heads a b xs ys e = ap (λ l. get_or l 0 a) e

tails : {A : Type 0} (a b : A) (xs ys : List A) → a ∷ xs ≡ b ∷ ys → xs ≡ ys
tails a b xs ys e = ap (drop 1) e

bytes_same : (b c : ℕ) → b < 256 → c < 256 → letter (b / 16) ≡ letter (c / 16) → letter (b % 16) ≡ letter (c % 16) → b ≡ c
bytes_same b c l m h k =
    let high : b / 16 ≡ c / 16 = letters_differ (b / 16) (c / 16) (omega (arith, l)) (omega (arith, m)) h in
    let low : b % 16 ≡ c % 16 = letters_differ (b % 16) (c % 16) (omega arith) (omega arith) k in
    omega (arith, high, low)

pub empty : (xs : List ℕ) → length xs ≡ 0 → xs ≡ []
empty [] e = refl
empty (x ∷ xs) e = absurd (omega (arith, e))

-- the text is the letters of what was read and then of any bytes that the rest is the letters of, and of no others
pub record IsReadSoFar (text bytes rest : List ℕ) (first : Bool) : Type 0 where
  pub forth : (more : List ℕ) → rest ≡ grouped first more → text ≡ grouped true (bytes ++ more)
  pub back : (all : List ℕ) → All (λ b. b < 256) all → text ≡ grouped true all → (more : List ℕ) × (all ≡ bytes ++ more) × (rest ≡ grouped first more) × All (λ b. b < 256) more

nothing : {X : Type 0} (first : Bool) (a b : ℕ) (xs : List ℕ) → [] ≡ gap first ++ (a ∷ b ∷ xs) → X
nothing first a b xs e = absurd (omega (arith, ap length e, length-append (gap first) (a ∷ b ∷ xs)))

-- the byte in front of what is left
front : (first : Bool) (b : ℕ) (letters after more : List ℕ) → letters ≡ letter (b / 16) ∷ letter (b % 16) ∷ after → b < 256 → All (λ c. c < 256) more → gap first ++ letters ≡ grouped first more
    → (others : List ℕ) × (more ≡ b ∷ others) × (after ≡ grouped (not first) others) × All (λ c. c < 256) others
front first b letters after [] e l h k = nothing first (letter (b / 16)) (letter (b % 16)) after (sym k ∙ ap (λ x. gap first ++ x) e)
front first b letters after (c ∷ others) e l h k =
    let inner : letter (b / 16) ∷ letter (b % 16) ∷ after ≡ letter (c / 16) ∷ letter (c % 16) ∷ grouped (not first) others =
    sym e ∙ append_cancel_left (gap first) letters (letter (c / 16) ∷ letter (c % 16) ∷ grouped (not first) others) k in
    let rest = tails (letter (b / 16)) (letter (c / 16)) (letter (b % 16) ∷ after) (letter (c % 16) ∷ grouped (not first) others) inner in
    let same : b ≡ c =
    bytes_same b c l (All-head (λ x. x < 256) c others h) (heads (letter (b / 16)) (letter (c / 16)) (letter (b % 16) ∷ after) (letter (c % 16) ∷ grouped (not first) others) inner)
    (heads (letter (b % 16)) (letter (c % 16)) after (grouped (not first) others) rest) in
    (others, ap (λ x. x ∷ others) (sym same), tails (letter (b % 16)) (letter (c % 16)) after (grouped (not first) others) rest, All-tail (λ x. x < 256) c others h)

pub read-next : (text bytes rest letters after : List ℕ) (first : Bool) (b : ℕ) → IsReadSoFar text bytes rest first → rest ≡ gap first ++ letters
    → letters ≡ letter (b / 16) ∷ letter (b % 16) ∷ after → b < 256 → IsReadSoFar text (bytes ++ (b ∷ [])) after (not first)
read-next text bytes rest letters after first b r e k l = record {
  forth = λ more m.
      r.forth (b ∷ more) (e ∙ ap (λ x. gap first ++ x) (k ∙ ap (λ x. letter (b / 16) ∷ letter (b % 16) ∷ x) m)) ∙ ap (grouped true) (sym (append_assoc bytes (b ∷ []) more));
  back = λ all h m.
      let before = r.back all h m in
      let next = front first b letters after before.0 k l before.3 (sym e ∙ before.2) in
      (next.0, before.1 ∙ ap (λ x. bytes ++ x) next.1 ∙ sym (append_assoc bytes (b ∷ []) next.0), next.2, next.3);
}

pub read-no_gap : (text bytes rest : List ℕ) (first : Bool) → IsReadSoFar text bytes rest first → 0 < length rest → ((letters : List ℕ) → rest ≢ gap first ++ letters)
    → (all : List ℕ) → All (λ b. b < 256) all → text ≢ grouped true all
read-no_gap text bytes rest first r some none all h e = stop (r.back all h e).0 (r.back all h e).2
  where
    stop : (more : List ℕ) → rest ≡ grouped first more → ⊥
    stop [] m = absurd (omega (arith, some, ap length m))
    stop (b ∷ more) m = none (letter (b / 16) ∷ letter (b % 16) ∷ grouped (not first) more) m

pub read-no_byte : (text bytes rest letters : List ℕ) (first : Bool) → IsReadSoFar text bytes rest first → 0 < length rest → rest ≡ gap first ++ letters
    → ((b : ℕ) → (after : List ℕ) → b < 256 → letters ≢ letter (b / 16) ∷ letter (b % 16) ∷ after)
    → (all : List ℕ) → All (λ b. b < 256) all → text ≢ grouped true all
read-no_byte text bytes rest letters first r some e none all h k = stop (r.back all h k).0 (r.back all h k).2 (r.back all h k).3
  where
    stop : (more : List ℕ) → rest ≡ grouped first more → All (λ b. b < 256) more → ⊥
    stop [] m l = absurd (omega (arith, some, ap length m))
    stop (b ∷ more) m l =
        none b (grouped (not first) more) (All-head (λ x. x < 256) b more l)
        (append_cancel_left (gap first) letters (letter (b / 16) ∷ letter (b % 16) ∷ grouped (not first) more) (sym e ∙ m))

pub read-ended : (text bytes rest : List ℕ) (first : Bool) → IsReadSoFar text bytes rest first → rest ≡ [] → text ≡ grouped true bytes
read-ended text bytes rest first r e = r.forth [] e ∙ ap (grouped true) (append-nil bytes)

pub read-only : (text bytes rest : List ℕ) (first : Bool) → IsReadSoFar text bytes rest first → rest ≡ [] → (all : List ℕ) → All (λ b. b < 256) all → text ≡ grouped true all → bytes ≡ all
read-only text bytes rest first r e all h k = end (r.back all h k).0 (r.back all h k).1 (r.back all h k).2
  where
    end : (more : List ℕ) → all ≡ bytes ++ more → rest ≡ grouped first more → bytes ≡ all
    end [] m n = sym (m ∙ append-nil bytes)
    end (b ∷ more) m n = nothing first (letter (b / 16)) (letter (b % 16)) (grouped (not first) more) (sym e ∙ n)

-- letters in groups are those of one list of bytes
pub grouped_once : (xs ys : List ℕ) → All (λ b. b < 256) xs → All (λ b. b < 256) ys → grouped true xs ≡ grouped true ys → xs ≡ ys
grouped_once xs ys h k e = once true xs ys h k e
  where
    once : (first : Bool) (xs ys : List ℕ) → All (λ b. b < 256) xs → All (λ b. b < 256) ys → grouped first xs ≡ grouped first ys → xs ≡ ys
    once first [] [] h k e = refl
    once first [] (c ∷ ys) h k e = nothing first (letter (c / 16)) (letter (c % 16)) (grouped (not first) ys) e
    once first (b ∷ xs) ys h k e =
        let next = front first b (letter (b / 16) ∷ letter (b % 16) ∷ grouped (not first) xs) (grouped (not first) xs) ys refl (All-head (λ x. x < 256) b xs h) k e in
        ap (λ x. b ∷ x) (once (not first) xs next.0 (All-tail (λ x. x < 256) b xs h) next.3 next.2) ∙ sym next.1

gap-small : (first : Bool) → All (λ a. a < 128) (gap first)
gap-small true = All-cons (λ a. a < 128) 45 [] (omega arith) (All-nil (λ a. a < 128))
gap-small false = All-nil (λ a. a < 128)

pub grouped-small : (first : Bool) (xs : List ℕ) → All (λ a. a < 128) (grouped first xs)
grouped-small first [] = All-nil (λ a. a < 128)
grouped-small first (b ∷ xs) =
    All-append (λ a. a < 128) (gap first) (letter (b / 16) ∷ letter (b % 16) ∷ grouped (not first) xs) (gap-small first)
    (All-cons (λ a. a < 128) (letter (b / 16)) (letter (b % 16) ∷ grouped (not first) xs) (letter-small (b / 16))
    (All-cons (λ a. a < 128) (letter (b % 16)) (grouped (not first) xs) (letter-small (b % 16)) (grouped-small (not first) xs)))
