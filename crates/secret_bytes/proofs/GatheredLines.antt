-- The lines of a text, gathered to shares one after the other.
use Rattle.std.proofs.Common.{true, ◌≡◌, ◌∙◌, ℕ, suc, ◌+◌, ◌<◌, ◌≤◌, false, eqb, List, [], ◌∷◌, ◌++◌, ◌⊎◌, inl, inr, length, map, refl, sym, ap, ap₂, arith, append_assoc}
use Rattle.std.specs.List.{All, AllZip, onto_first}
use Rattle.std.proofs.lemmas.Bool.{cases_Bool}
use Rattle.std.proofs.lemmas.List.{append-nil, length-append, nil_from_length}
use Rattle.std.proofs.lemmas.List.Elements.{All-cons, All-head, All-nil, All-tail}
use Rattle.math_base.proofs.PlaceByPlace.{AllZip-append}
use Rattle.secret_bytes.specs.declared.share.SecretShare.{SecretShare}
use Rattle.secret_bytes.specs.Gathered.{AreOwn, IsAtShare, IsNextGoingOn, IsPassed, own_lines}
use Rattle.secret_bytes.specs.Readings.{has_mark, letters_of}
use Rattle.secret_bytes.specs.Refusals.{IsMemory}
use Rattle.secret_bytes.specs.Texts.{IsDueAt, IsDueReading, IsFirstStray, IsOfNone, IsReadAs, all_letters, going_on, parts, text_lines}
use Rattle.secret_bytes.specs.declared.text.LineFault.{LineFault}

-- the line begins no share
abbrev pub IsUnmarked : List ℕ → Type 0
IsUnmarked line = has_mark (letters_of line) ≡ false

pub all_letters-append : (xs ys : List (List ℕ)) → all_letters (xs ++ ys) ≡ all_letters xs ++ all_letters ys
all_letters-append [] ys = refl
all_letters-append (x ∷ xs) ys = ap (λ t. letters_of x ++ t) (all_letters-append xs ys) ∙ sym (append_assoc (letters_of x) (all_letters xs) (all_letters ys))

pub all_letters-push : (xs : List (List ℕ)) (y : List ℕ) → all_letters (xs ++ (y ∷ [])) ≡ all_letters xs ++ letters_of y
all_letters-push xs y = all_letters-append xs (y ∷ []) ∙ ap (λ t. all_letters xs ++ t) (append-nil (letters_of y))

-- a line without letters begins no share
unmarked-none : (lines : List (List ℕ)) → all_letters lines ≡ [] → All IsUnmarked lines
unmarked-none [] e = All-nil IsUnmarked
unmarked-none (line ∷ lines) e =
    let sizes = length-append (letters_of line) (all_letters lines) in
    let none : letters_of line ≡ [] = nil_from_length (letters_of line) (omega (arith, ap length e, sizes)) in
    let others : all_letters lines ≡ [] = nil_from_length (all_letters lines) (omega (arith, ap length e, sizes)) in
    All-cons IsUnmarked line lines (ap has_mark none) (unmarked-none lines others)

unmarked-going_on : (lines : List (List ℕ)) → All IsUnmarked (going_on lines)
unmarked-going_on [] = All-nil IsUnmarked
unmarked-going_on (line ∷ lines) =
    elim (cases_Bool (has_mark (letters_of line))) as (λ _. All IsUnmarked (going_on (line ∷ lines))) [
      | inl t ↦ rw t (All-nil IsUnmarked)
      | inr f ↦ rw f (All-cons IsUnmarked line (going_on lines) f (unmarked-going_on lines))
    ]

pub going_on-unmarked : (own rest : List (List ℕ)) → All IsUnmarked own → going_on (own ++ rest) ≡ own ++ going_on rest
going_on-unmarked [] rest h = refl
going_on-unmarked (line ∷ own) rest h =
    rw (All-head IsUnmarked line own h) (ap (λ ls. line ∷ ls) (going_on-unmarked own rest (All-tail IsUnmarked line own h)))

pub parts-unmarked : (n : ℕ) (own rest : List (List ℕ)) → All IsUnmarked own → parts n (own ++ rest) ≡ parts (n + length own) rest
parts-unmarked n [] rest h = let e : n + 0 ≡ n = omega arith in ap (λ m. parts m rest) (sym e)
parts-unmarked n (line ∷ own) rest h =
    let e : (n + 1) + length own ≡ n + suc (length own) = omega arith in
    rw (All-head IsUnmarked line own h) (parts-unmarked (n + 1) own rest (All-tail IsUnmarked line own h) ∙ ap (λ m. parts m rest) e)

-- a text whose first line begins a share has no lines before it
pub marked-first : (line : List ℕ) (lines : List (List ℕ)) → has_mark (letters_of line) ≡ true → going_on (line ∷ lines) ≡ []
marked-first line lines e = rw e refl

-- one line more, which has no letters
pub passed-next : (text rest letters after : List ℕ) (number next : ℕ) → IsPassed text number rest → IsNextGoingOn rest letters after → length letters ≡ 0 → next ≡ number + 1 → IsPassed text next after
passed-next text rest letters after number next p g none e = record {
  before = p.before ++ (g.line ∷ []);
  lines = p.lines ∙ ap (λ ls. p.before ++ ls) g.lines ∙ sym (append_assoc p.before (g.line ∷ []) (text_lines after));
  none =
      let empty : letters_of g.line ≡ [] = sym g.has ∙ nil_from_length letters none in
      all_letters-push p.before g.line ∙ ap₂ (λ a b. a ++ b) p.none empty;
  place = omega (arith, e, p.place, length-append p.before (g.line ∷ []));
  few = omega (arith, e, p.few, g.shorter);
}

-- a line before the first share that has letters
pub passed-stray : (text rest letters after : List ℕ) (number : ℕ) → IsPassed text number rest → IsNextGoingOn rest letters after → 0 < length letters → IsFirstStray text number
passed-stray text rest letters after number p g some = record {
  before = p.before;
  line = g.line;
  after = going_on (text_lines after);
  split =
      let next : going_on (g.line ∷ text_lines after) ≡ g.line ∷ going_on (text_lines after) = rw g.unmarked refl in
      ap going_on (p.lines ∙ ap (λ ls. p.before ++ ls) g.lines) ∙ going_on-unmarked p.before (g.line ∷ text_lines after) (unmarked-none p.before p.none) ∙ ap (λ ls. p.before ++ ls) next;
  none = p.none;
  some = omega (arith, some, ap length g.has);
  place = p.place;
}

-- where the first share begins, nothing but lines without letters was passed, and no share
pub passed-before : (text rest : List ℕ) (number : ℕ) → IsPassed text number rest → IsAtShare rest → all_letters (going_on (text_lines text)) ≡ []
passed-before text rest number p a =
    ap all_letters (ap going_on p.lines ∙ going_on-unmarked p.before (text_lines rest) (unmarked-none p.before p.none) ∙ ap (λ ls. p.before ++ ls) a ∙ append-nil p.before) ∙ p.none

pub passed-parts : (text rest : List ℕ) (number : ℕ) → IsPassed text number rest → parts 1 (text_lines text) ≡ parts number (text_lines rest)
passed-parts text rest number p =
    let e : 1 + length p.before ≡ number = omega (arith, p.place) in
    ap (parts 1) p.lines ∙ parts-unmarked 1 p.before (text_lines rest) (unmarked-none p.before p.none) ∙ ap (λ m. parts m (text_lines rest)) e

-- so many lines are gathered to one share
pub record IsGathered (text letters : List ℕ) (count : ℕ) (after : List ℕ) : Type 0 where
  pub own : List (List ℕ)
  pub lines : text_lines text ≡ own ++ text_lines after
  pub first : own_lines (text_lines text) ≡ own ++ going_on (text_lines after)
  pub has : letters ≡ all_letters own
  pub number : count ≡ length own
  pub some : 0 < count
  pub few : count + length after ≤ length text

pub gathered-first : (text line letters after : List ℕ) → text_lines text ≡ line ∷ text_lines after → length after < length text → letters ≡ letters_of line → IsGathered text letters 1 after
gathered-first text line letters after e l h = record {
  own = line ∷ [];
  lines = e;
  first = ap own_lines e;
  has = h ∙ sym (append-nil (letters_of line));
  number = refl;
  some = omega arith;
  few = omega (arith, l);
}

pub gathered-next : (text letters all rest more after : List ℕ) (count next : ℕ) → IsGathered text letters count rest → IsNextGoingOn rest more after → all ≡ letters ++ more → next ≡ count + 1
    → IsGathered text all next after
gathered-next text letters all rest more after count next g o e n = record {
  own = g.own ++ (o.line ∷ []);
  lines = g.lines ∙ ap (λ ls. g.own ++ ls) o.lines ∙ sym (append_assoc g.own (o.line ∷ []) (text_lines after));
  first =
      let goes_on : going_on (o.line ∷ text_lines after) ≡ o.line ∷ going_on (text_lines after) = rw o.unmarked refl in
      g.first ∙ ap (λ ls. g.own ++ ls) (ap going_on o.lines ∙ goes_on) ∙ sym (append_assoc g.own (o.line ∷ []) (going_on (text_lines after)));
  has = e ∙ ap₂ (λ a b. a ++ b) g.has o.has ∙ sym (all_letters-push g.own o.line);
  number = omega (arith, n, g.number, length-append g.own (o.line ∷ []));
  some = omega (arith, n);
  few = omega (arith, n, g.few, o.shorter);
}

-- the letter at a place stands in this line or in one after it
pub record IsWalked (text : List ℕ) (number place : ℕ) (letters : List ℕ) (left at : ℕ) (rest : List ℕ) : Type 0 where
  pub before : List (List ℕ)
  pub line : List ℕ
  pub first : own_lines (text_lines text) ≡ before ++ (line ∷ going_on (text_lines rest))
  pub has : letters ≡ letters_of line
  pub there : at ≡ number + length before
  pub passed : place ≡ length (all_letters before) + left
  pub few : at + length rest < number + length text

pub walked-first : (text line letters after : List ℕ) (number place : ℕ) → text_lines text ≡ line ∷ text_lines after → length after < length text → letters ≡ letters_of line
    → IsWalked text number place letters place number after
walked-first text line letters after number place e l h = record {
  before = [];
  line = line;
  first = ap own_lines e;
  has = h;
  there = omega arith;
  passed = omega arith;
  few = omega (arith, l);
}

pub walked-next : (text letters more rest after : List ℕ) (number place left next at further : ℕ) → IsWalked text number place letters left at rest → IsNextGoingOn rest more after
    → left ≡ next + length letters → further ≡ at + 1 → IsWalked text number place more next further after
walked-next text letters more rest after number place left next at further w o e f = record {
  before = w.before ++ (w.line ∷ []);
  line = o.line;
  first =
      let goes_on : going_on (o.line ∷ text_lines after) ≡ o.line ∷ going_on (text_lines after) = rw o.unmarked refl in
      w.first ∙ ap (λ ls. w.before ++ (w.line ∷ ls)) (ap going_on o.lines ∙ goes_on) ∙ sym (append_assoc w.before (w.line ∷ []) (o.line ∷ going_on (text_lines after)));
  has = o.has;
  there = omega (arith, f, w.there, length-append w.before (w.line ∷ []));
  passed = omega (arith, e, w.passed, ap length w.has, ap length (all_letters-push w.before w.line), length-append (all_letters w.before) (letters_of w.line));
  few = omega (arith, f, w.few, o.shorter);
}

-- the letters do not end before the place
pub walked-within : (text letters rest : List ℕ) (number place left at : ℕ) → IsWalked text number place letters left at rest → length letters ≤ left → IsAtShare rest
    → place < length (all_letters (own_lines (text_lines text))) → ⊥
walked-within text letters rest number place left at w l a within =
    let whole : all_letters (own_lines (text_lines text)) ≡ all_letters w.before ++ letters_of w.line = ap all_letters (w.first ∙ ap (λ ls. w.before ++ (w.line ∷ ls)) a) ∙ all_letters-push w.before w.line in
    omega (arith, w.passed, l, ap length w.has, within, ap length whole, length-append (all_letters w.before) (letters_of w.line))

some-line : (text : List ℕ) → 0 < length text → 0 < length (text_lines text)
some-line [] l = absurd (omega (arith, l))
some-line (b ∷ text) l =
    elim (cases_Bool (eqb b 10)) as (λ _. 0 < length (text_lines (b ∷ text))) [
      | inl t ↦ rw t (omega arith)
      | inr f ↦ rw f (onto (text_lines text))
    ]
  where
    onto : (lines : List (List ℕ)) → 0 < length (onto_first b lines)
    onto [] = omega arith
    onto (line ∷ lines) = omega arith

-- a text that begins with a share has its lines as the first part
pub parts-first : (n : ℕ) (text : List ℕ) → 0 < length text → IsAtShare text → (after : List (ℕ × List (List ℕ))) × (parts n (text_lines text) ≡ (n, own_lines (text_lines text)) ∷ after)
parts-first n text l a = from (text_lines text) (some-line text l) a
  where
    from : (lines : List (List ℕ)) → 0 < length lines → going_on lines ≡ [] → (after : List (ℕ × List (List ℕ))) × (parts n lines ≡ (n, own_lines lines) ∷ after)
    from [] some a = absurd (omega (arith, some))
    from (line ∷ lines) some a =
        elim (cases_Bool (has_mark (letters_of line))) as (λ _. (after : List (ℕ × List (List ℕ))) × (parts n (line ∷ lines) ≡ (n, line ∷ going_on lines) ∷ after)) [
          | inl t ↦ rw t (parts (n + 1) lines, refl)
          | inr f ↦ let some_lines : going_on (line ∷ lines) ≡ line ∷ going_on lines = rw f refl in absurd (omega (arith, ap length (sym some_lines ∙ a)))
        ]

-- the first share of a text, and those after it
pub parts-next : (n : ℕ) (text : List ℕ) (count : ℕ) (after : List ℕ) → IsAtShare text → AreOwn text count after
    → parts n (text_lines text) ≡ (n, own_lines (text_lines text)) ∷ parts (n + count) (text_lines after)
parts-next n text count after a o = from (text_lines text) a o.lines o.number o.some
  where
    from : (lines : List (List ℕ)) → going_on lines ≡ [] → lines ≡ own_lines lines ++ text_lines after → count ≡ length (own_lines lines) → 0 < count
        → parts n lines ≡ (n, own_lines lines) ∷ parts (n + count) (text_lines after)
    from [] a e k some = absurd (omega (arith, k, some))
    from (line ∷ lines) a e k some =
        elim (cases_Bool (has_mark (letters_of line))) as (λ _. parts n (line ∷ lines) ≡ (n, line ∷ going_on lines) ∷ parts (n + count) (text_lines after)) [
          | inl t ↦
              let rest : lines ≡ going_on lines ++ text_lines after = tails e in
              let m : (n + 1) + length (going_on lines) ≡ n + count = omega (arith, k) in
              rw t (ap (λ ps. (n, line ∷ going_on lines) ∷ ps) (ap (parts (n + 1)) rest ∙ parts-unmarked (n + 1) (going_on lines) (text_lines after) (unmarked-going_on lines) ∙ ap (λ i. parts i (text_lines after)) m))
          | inr f ↦ let some_lines : going_on (line ∷ lines) ≡ line ∷ going_on lines = rw f refl in absurd (omega (arith, ap length (sym some_lines ∙ a)))
        ]
      where
        tails : line ∷ lines ≡ line ∷ (going_on lines ++ text_lines after) → lines ≡ going_on lines ++ text_lines after
        tails e = cc

-- the shares so far are read, and the next one begins at the rest, with the line of this number
pub record IsReadTo (text rest : List ℕ) (number : ℕ) (shares : List SecretShare) (numbers : List ℕ) : Type 0 where
  pub before : all_letters (going_on (text_lines text)) ≡ []
  pub read : List (ℕ × List (List ℕ))
  pub split : parts 1 (text_lines text) ≡ read ++ parts number (text_lines rest)
  pub fit : AllZip (λ part s. IsReadAs (all_letters part.1) s) read shares
  pub places : numbers ≡ map (λ part. part.0) read
  pub at_share : IsAtShare rest
  pub few : number + length rest ≤ length text + 1

pub read-first : (text rest : List ℕ) (number : ℕ) (shares : List SecretShare) (numbers : List ℕ) → shares ≡ [] → numbers ≡ [] → IsPassed text number rest → IsAtShare rest
    → IsReadTo text rest number shares numbers
read-first text rest number shares numbers e f p a = rw (e, f) record {
  before = passed-before text rest number p a;
  read = [];
  split = passed-parts text rest number p;
  fit = tt;
  places = refl;
  at_share = a;
  few = p.few;
}

map-push : (read : List (ℕ × List (List ℕ))) (n : ℕ) (lines : List (List ℕ)) → map (λ (part : ℕ × List (List ℕ)). part.0) (read ++ ((n, lines) ∷ [])) ≡ map (λ (part : ℕ × List (List ℕ)). part.0) read ++ (n ∷ [])
map-push [] n lines = refl
map-push (part ∷ read) n lines = ap (λ ns. part.0 ∷ ns) (map-push read n lines)

pub read-next : (text rest after : List ℕ) (number count next : ℕ) (shares all : List SecretShare) (numbers places : List ℕ) (s : SecretShare) → IsReadTo text rest number shares numbers
    → IsReadAs (all_letters (own_lines (text_lines rest))) s → AreOwn rest count after → next ≡ number + count → all ≡ shares ++ (s ∷ []) → places ≡ numbers ++ (number ∷ [])
    → IsReadTo text after next all places
read-next text rest after number count next shares all numbers places s r h o e f g =
    let part : ℕ × List (List ℕ) = (number, own_lines (text_lines rest)) in
    rw (f, g) record {
      before = r.before;
      read = r.read ++ (part ∷ []);
      split =
          r.split ∙ ap (λ ps. r.read ++ ps) (parts-next number rest count after r.at_share o ∙ ap (λ m. part ∷ parts m (text_lines after)) (sym e))
          ∙ sym (append_assoc r.read (part ∷ []) (parts next (text_lines after)));
      fit = AllZip-append (λ (part : ℕ × List (List ℕ)) (s : SecretShare). IsReadAs (all_letters part.1) s) r.read shares part s r.fit h;
      places = ap (λ ns. ns ++ (number ∷ [])) r.places ∙ sym (map-push r.read number (own_lines (text_lines rest)));
      at_share = o.at_share;
      few = omega (arith, e, r.few, o.few);
    }

-- why the next share is none
pub due-share : (text rest : List ℕ) (number : ℕ) (shares : List SecretShare) (numbers : List ℕ) (fault : LineFault) → IsReadTo text rest number shares numbers → 0 < length rest
    → IsMemory fault.why ⊎ (IsOfNone (all_letters (own_lines (text_lines rest))) × IsDueAt number (own_lines (text_lines rest)) fault.number fault.why) → IsDueReading text fault
due-share text rest number shares numbers fault r some (inl m) = inl m
due-share text rest number shares numbers fault r some (inr h) =
    let first = parts-first number rest some r.at_share in
    inr (inr record {
      before = r.before;
      read = r.read;
      n = number;
      lines = own_lines (text_lines rest);
      after = first.0;
      split = r.split ∙ ap (λ ps. r.read ++ ps) first.1;
      shares = shares;
      fit = r.fit;
      none = h.0;
      due = h.1;
    })
