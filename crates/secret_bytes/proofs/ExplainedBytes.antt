-- Every secret of bytes explains the values of fewer than t shares with every key, and equally often.
use Rattle.std.proofs.Common.{◌≡◌, ◌≢◌, ◌∙◌, ℕ, zero, suc, ◌+◌, ◌-◌, ◌*◌, ◌^◌, ◌<◌, List, [], ◌∷◌, length, drop, get_or, map, refl, sym, ap, subst, arith}
use Rattle.std.specs.List.{All, AllPairs, AllZip, Contains}
use Rattle.std.proofs.lemmas.List.{ext_get_or, length-map}
use Rattle.std.proofs.lemmas.List.Elements.{All-cons, All-map, All-nil, same_from_all_zip}
use Rattle.math_numbers.specs.Goldilocks.{P}
use Rattle.math_fields.specs.declared.goldilocks.F.{F}
use Rattle.math_fields.specs.ElementLaws.{commutes, equality, group, ring}
use Rattle.math_fields.specs.ElementRootLaws.{field}
use Rattle.math_fields.specs.Elements.{number, residue, same, goldilocks}
use Rattle.math_fields.proofs.ElementNumbers.{same_number}
use Rattle.secret_bytes.specs.declared.share.SecretShare.{SecretShare}
use Rattle.shared_secret.specs.Explanations.{AreAllElements, AreAllExplanations, Explains}
use Rattle.shared_secret.specs.Shares.{AreAtDistinctPoints}
use Rattle.shared_secret.proofs.ExplainedShares.{equally}
use Rattle.shared_secret.proofs.ListsOfElements.{contains-map, none, once_more, pairs-map}
use Rattle.secret_bytes.specs.Columns.{column, share_of}
use Rattle.secret_bytes.specs.Explanations.{AreAllDealings, AreExplained, EachSecretOfBytesExplains, EachSecretOfBytesExplainsEquallyOften, HaveWidth, IsDealing}
use Rattle.secret_bytes.specs.Keyed.{AreKeyedBy, element_count}
use Rattle.secret_bytes.specs.Packings.{AreBytes}
use Rattle.secret_bytes.proofs.AllElements.{all-elements}
use Rattle.secret_bytes.proofs.ExplainedSecrets.{each-explains}
use Rattle.secret_bytes.proofs.JoinedLists.{joined, joined-all, joined-apart, joined-contains, joined-length}
use Rattle.secret_bytes.proofs.KeyedBytes.{keyed-parts}
use Rattle.secret_bytes.proofs.PackedAlone.{keyed-alone, keyed-length, keyed-of, keyed_elements}
use Rattle.secret_bytes.proofs.RecoveredShares.{distinct-points-of}

one_list : (p q : List F) → AllZip same p q → q ≡ p
one_list p q h = same_from_all_zip same p q h (λ x y s. same_number y x (sym s))

-- lists of lists of elements that are same are one
pub same_lists : (xs ys : List (List F)) → length xs ≡ length ys → ((j : ℕ) → j < length xs → AllZip same (get_or xs j []) (get_or ys j [])) → xs ≡ ys
same_lists xs ys e h = ext_get_or [] xs ys e (λ j l. sym (one_list (get_or xs j []) (get_or ys j []) (h j l)))

pub each-of-bytes-explains : EachSecretOfBytesExplains
each-of-bytes-explains shares bytes key distinct h width =
    let all = keyed_elements bytes key in
    let keyed = keyed-of bytes key h in
    let count = keyed-length key bytes all keyed in
    let once = each-explains shares all distinct (subst (λ n. HaveWidth n shares) (sym count) width) in
    record {
      all = all;
      polynomials = once.0;
      keyed = keyed;
      only_elements = λ others o. keyed-alone key bytes all others keyed o;
      count = count;
      explained = once.1;
      only_polynomials = λ others o. same_lists others once.0 (o.count ∙ sym once.1.count) (λ j l. once.2 others o j (subst (λ n. j < n) o.count l));
    }

-- one list of elements has one key
one-key : (a b : F) (bytes : List ℕ) (all : List F) → AreKeyedBy a bytes all → AreKeyedBy b bytes all → a ≡ b
one-key a b bytes all h k = sym h.1 ∙ (keyed-parts all k.0.elements k.0.key k.0.check bytes k.0.parts h.0).1 ∙ k.1

module _ (elements : List F) (es : AreAllElements goldilocks elements) (t : ℕ) (shares : List SecretShare) (at-points : (j : ℕ) → AreAtDistinctPoints goldilocks (column j shares)) (few : length shares < t) where
  pub ways : ℕ
  ways = length elements ^ (t - 1 - length shares)

  -- the polynomials that explain the values of element j
  at : (j : ℕ) (a : F) → (ps : List (List F)) × AreAllExplanations goldilocks t a (column j shares) ps × (length ps ≡ ways)
  unfolding ways
  at j a =
      let n : length (column j shares) ≡ length shares = length-map shares (share_of j) in
      subst (λ (m : ℕ). (ps : List (List F)) × AreAllExplanations goldilocks t a (column j shares) ps × (length ps ≡ length elements ^ (t - 1 - m))) n
      (equally goldilocks equality group commutes ring field elements t (column j shares) a es (at-points j) (omega (arith, few, n)))

  -- all lists of polynomials that explain the values of the elements from element k on
  choices : (k : ℕ) (all : List F) → List (List (List F))
  choices k [] = [] ∷ []
  choices k (a ∷ all) = joined (λ p. map (λ ps. p ∷ ps) (choices (suc k) all)) (at k a).0

  -- the polynomials explain the elements from element k on
  abbrev ExplainFrom : ℕ → List F → List (List F) → Type 0
  ExplainFrom k [] [] = Unit {0}
  ExplainFrom k [] (p ∷ ps) = ⊥
  ExplainFrom k (a ∷ all) [] = ⊥
  ExplainFrom k (a ∷ all) (p ∷ ps) = Explains goldilocks t a (column k shares) p × ExplainFrom (suc k) all ps

  choices-length : (k : ℕ) (all : List F) → length (choices k all) ≡ ways ^ length all
  unfolding choices
  choices-length k [] = none ways
  choices-length k (a ∷ all) =
      joined-length (λ p. map (λ ps. p ∷ ps) (choices (suc k) all)) (ways ^ length all) (at k a).0
      (λ i p l. length-map (choices (suc k) all) (λ ps. get_or (at k a).0 i p ∷ ps) ∙ choices-length (suc k) all)
      ∙ ap (λ n. n * ways ^ length all) (at k a).2 ∙ once_more ways (length all)

  choices-each : (k : ℕ) (all : List F) → All (ExplainFrom k all) (choices k all)
  unfolding choices
  choices-each k [] = All-cons (ExplainFrom k []) [] [] tt (All-nil (ExplainFrom k []))
  choices-each k (a ∷ all) =
      joined-all (λ p. map (λ ps. p ∷ ps) (choices (suc k) all)) (ExplainFrom k (a ∷ all)) (at k a).0
      (λ i p l. All-map (ExplainFrom k (a ∷ all)) (λ ps. get_or (at k a).0 i p ∷ ps) (choices (suc k) all)
      (λ j ps m. ((at k a).1.each i p l, choices-each (suc k) all j ps m)))

  choices-apart : (k : ℕ) (all : List F) → AllPairs (λ x y. x ≢ y) (choices k all)
  unfolding choices
  choices-apart k [] = λ i j d l m. absurd (omega arith)
  choices-apart k (a ∷ all) =
      joined-apart (λ p. map (λ ps. p ∷ ps) (choices (suc k) all)) (λ x y. x ≢ y) (at k a).0
      (λ i p l. pairs-map (λ x y. x ≢ y) (λ ps. get_or (at k a).0 i p ∷ ps) (choices (suc k) all) (λ u v d m o e. choices-apart (suc k) all u v d m o (ap (drop 1) e)))
      (λ i j p l m.
      All-map (λ x. All (λ y. x ≢ y) (map (λ ps. get_or (at k a).0 j p ∷ ps) (choices (suc k) all))) (λ ps. get_or (at k a).0 i p ∷ ps) (choices (suc k) all)
      (λ u d o. All-map (λ y. get_or (at k a).0 i p ∷ get_or (choices (suc k) all) u d ≢ y) (λ ps. get_or (at k a).0 j p ∷ ps) (choices (suc k) all)
      (λ v e r same_list.
      let heads : get_or (at k a).0 i p ≡ get_or (at k a).0 j p = ap (λ xs. get_or xs 0 []) same_list in
      (at k a).1.apart i j p l m (all_same (get_or (at k a).0 i p) (get_or (at k a).0 j p) heads))))
    where
      all_same : (x y : List F) → x ≡ y → AllZip same x y
      all_same [] [] e = tt
      all_same [] (b ∷ y) e = absurd (omega (arith, ap length e))
      all_same (b ∷ x) [] e = absurd (omega (arith, ap length e))
      all_same (b ∷ x) (c ∷ y) e = (ap (λ zs. number (get_or zs 0 b)) e, all_same x y (ap (drop 1) e))

  choices-every : (k : ℕ) (all : List F) (ps : List (List F)) → ExplainFrom k all ps → Contains (choices k all) ps
  unfolding choices
  choices-every k [] [] h = (0, omega arith, refl)
  choices-every k [] (p ∷ ps) h = absurd h
  choices-every k (a ∷ all) [] h = absurd h
  choices-every k (a ∷ all) (p ∷ ps) h =
      let found = (at k a).1.every p h.0 in
      let is : found.0 ≡ p = one_list p found.0 found.2 in
      joined-contains (λ q. map (λ ps. q ∷ ps) (choices (suc k) all)) (at k a).0 p (p ∷ ps) (subst (Contains (at k a).0) is found.1)
      (contains-map (λ qs. p ∷ qs) (choices (suc k) all) ps (choices-every (suc k) all ps h.1))

  -- element by element and all at once
  explained-at : (k : ℕ) (all : List F) (ps : List (List F)) → ExplainFrom k all ps → (length ps ≡ length all)
      × ((j : ℕ) → j < length all → Explains goldilocks t (get_or all j (residue 0)) (column (k + j) shares) (get_or ps j []))
  explained-at k [] [] h = (refl, λ j l. absurd (omega (arith, l)))
  explained-at k [] (p ∷ ps) h = absurd h
  explained-at k (a ∷ all) [] h = absurd h
  explained-at k (a ∷ all) (p ∷ ps) h = let rest = explained-at (suc k) all ps h.1 in (ap suc rest.0, at-place rest.1)
    where
      at-place : ((j : ℕ) → j < length all → Explains goldilocks t (get_or all j (residue 0)) (column (suc k + j) shares) (get_or ps j []))
          → (j : ℕ) → j < suc (length all) → Explains goldilocks t (get_or (a ∷ all) j (residue 0)) (column (k + j) shares) (get_or (p ∷ ps) j [])
      at-place rest zero l = let e : k ≡ k + 0 = omega arith in subst (λ (m : ℕ). Explains goldilocks t a (column m shares) p) e h.0
      at-place rest (suc j) l =
          let e : suc k + j ≡ k + suc j = omega arith in
          subst (λ (m : ℕ). Explains goldilocks t (get_or all j (residue 0)) (column m shares) (get_or ps j [])) e (rest j (omega (arith, l)))

  explain-from : (k : ℕ) (all : List F) (ps : List (List F)) → length ps ≡ length all
      → ((j : ℕ) → j < length all → Explains goldilocks t (get_or all j (residue 0)) (column (k + j) shares) (get_or ps j [])) → ExplainFrom k all ps
  explain-from k [] [] e h = tt
  explain-from k [] (p ∷ ps) e h = absurd (omega (arith, e))
  explain-from k (a ∷ all) [] e h = absurd (omega (arith, e))
  explain-from k (a ∷ all) (p ∷ ps) e h =
      let here : k + 0 ≡ k = omega arith in (
        subst (λ (m : ℕ). Explains goldilocks t a (column m shares) p) here (h 0 (omega arith)),
        explain-from (suc k) all ps (omega (arith, e))
            (λ j l.
            let next : k + suc j ≡ suc k + j = omega arith in
            subst (λ (m : ℕ). Explains goldilocks t (get_or all j (residue 0)) (column m shares) (get_or ps j [])) next (h (suc j) (omega (arith, l)))),
      )

  module _ (bytes : List ℕ) (h : AreBytes bytes) (width : HaveWidth (element_count (length bytes)) shares) where
    -- the dealings with one key
    with_key : F → List (List F × List (List F))
    with_key key = map (λ ps. (keyed_elements bytes key, ps)) (choices 0 (keyed_elements bytes key))

    count : (key : F) → length (keyed_elements bytes key) ≡ element_count (length bytes)
    count key = keyed-length key bytes (keyed_elements bytes key) (keyed-of bytes key h)

    is_dealing : (key : F) (ps : List (List F)) → ExplainFrom 0 (keyed_elements bytes key) ps → IsDealing t shares bytes (keyed_elements bytes key, ps)
    is_dealing key ps e =
        let found = explained-at 0 (keyed_elements bytes key) ps e in (
          (keyed-of bytes key h).0,
          record {
            width = subst (λ n. HaveWidth n shares) (sym (count key)) width;
            count = found.0;
            each = λ j l. let here : 0 + j ≡ j = omega arith in subst (λ (m : ℕ). Explains goldilocks t (get_or (keyed_elements bytes key) j (residue 0)) (column m shares) (get_or ps j [])) here (found.1 j l);
          },
        )

    pub all-dealings : (dealings : List (List F × List (List F))) × AreAllDealings t shares bytes dealings × (length dealings ≡ length elements * ways ^ element_count (length bytes))
    unfolding with_key
    all-dealings = (
      joined with_key elements,
      record {
        each = joined-all with_key (IsDealing t shares bytes) elements
            (λ i key l. All-map (IsDealing t shares bytes) (λ ps. (keyed_elements bytes (get_or elements i key), ps)) (choices 0 (keyed_elements bytes (get_or elements i key)))
            (λ j ps m. is_dealing (get_or elements i key) (get_or (choices 0 (keyed_elements bytes (get_or elements i key))) j ps) (choices-each 0 (keyed_elements bytes (get_or elements i key)) j ps m)));
        apart = joined-apart with_key (λ d e. d ≢ e) elements
            (λ i key l. pairs-map (λ d e. d ≢ e) (λ ps. (keyed_elements bytes (get_or elements i key), ps)) (choices 0 (keyed_elements bytes (get_or elements i key)))
            (λ u v d m o e. choices-apart 0 (keyed_elements bytes (get_or elements i key)) u v d m o (ap (λ q. q.1) e)))
            (λ i j key l m. apart-keys (get_or elements i key) (get_or elements j key) (es.apart i j key l m));
        every = λ d k.
            let found = es.every k.0.key in
            let key : k.0.key ≡ found.0 = same_number k.0.key found.0 found.2 in
            let all : d.0 ≡ keyed_elements bytes found.0 = keyed-alone found.0 bytes (keyed_elements bytes found.0) d.0 (keyed-of bytes found.0 h) (k.0, key) in
            joined-contains with_key elements found.0 d found.1 (of-key d found.0 all k.1);
      },
      joined-length with_key (ways ^ element_count (length bytes)) elements
          (λ i key l.
          length-map (choices 0 (keyed_elements bytes (get_or elements i key))) (λ ps. (keyed_elements bytes (get_or elements i key), ps))
          ∙ choices-length 0 (keyed_elements bytes (get_or elements i key)) ∙ ap (λ n. ways ^ n) (count (get_or elements i key))),
    )
      where
        apart-keys : (a b : F) → ¬ (same a b) → All (λ x. All (λ y. x ≢ y) (with_key b)) (with_key a)
        apart-keys a b n =
            All-map (λ x. All (λ y. x ≢ y) (with_key b)) (λ ps. (keyed_elements bytes a, ps)) (choices 0 (keyed_elements bytes a))
            (λ u ps l. All-map (λ y. (keyed_elements bytes a, get_or (choices 0 (keyed_elements bytes a)) u ps) ≢ y) (λ qs. (keyed_elements bytes b, qs)) (choices 0 (keyed_elements bytes b))
            (λ v qs m e.
            n (ap number (one-key a b bytes (keyed_elements bytes b) (subst (AreKeyedBy a bytes) (ap (λ d. d.0) e) (keyed-of bytes a h)) (keyed-of bytes b h)))))

        of-key : (d : List F × List (List F)) (key : F) → d.0 ≡ keyed_elements bytes key → AreExplained t d.0 shares d.1 → Contains (with_key key) d
        of-key d key all e =
            let explained : AreExplained t (keyed_elements bytes key) shares d.1 = subst (λ (es : List F). AreExplained t es shares d.1) all e in
            let from : ExplainFrom 0 (keyed_elements bytes key) d.1 =
            explain-from 0 (keyed_elements bytes key) d.1 explained.count
            (λ j l. let here : j ≡ 0 + j = omega arith in subst (λ (m : ℕ). Explains goldilocks t (get_or (keyed_elements bytes key) j (residue 0)) (column m shares) (get_or d.1 j [])) here (explained.each j l)) in
            subst (Contains (with_key key)) (ap (λ es. (es, d.1)) (sym all))
            (contains-map (λ ps. (keyed_elements bytes key, ps)) (choices 0 (keyed_elements bytes key)) d.1 (choices-every 0 (keyed_elements bytes key) d.1 from))

pub each-of-bytes-explains-equally-often : EachSecretOfBytesExplainsEquallyOften
unfolding ways
each-of-bytes-explains-equally-often t shares bytes distinct h width few =
    let all = all-elements P refl in
    let found = all-dealings all.0 all.1 t shares (λ j. distinct-points-of j shares distinct.apart distinct.some distinct.small) few bytes h width in
    (found.0, found.1, found.2 ∙ ap (λ n. n * (n ^ (t - 1 - length shares)) ^ element_count (length bytes)) all.2)
