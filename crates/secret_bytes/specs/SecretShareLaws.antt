-- A share that is spelled is read again, and no spelling begins another.
use Rattle.std.proofs.Common.{◌≡◌, ℕ, ◌<◌, List, ◌++◌, refl, sym, ap, ◌∙◌, append_assoc}
use Rattle.math_numbers.specs.Goldilocks.{P}
use Rattle.math_codec.specs.Encodings.{ReadsAgain, SpellsApart}
use Rattle.math_codec.specs.Lengths.{length_spelling}
use Rattle.math_codec.specs.LengthLaws.{length_again, lengths_apart}
use Rattle.math_codec.specs.Lists.{list_spelling}
use Rattle.math_codec.specs.ListLaws.{list_again, list_apart}
use Rattle.math_fields.specs.Elements.{number, same}
use Rattle.math_fields.specs.ElementEncoding.{scan_element}
use Rattle.math_fields.specs.ElementEncodingLaws.{element_again, element_apart}
use Rattle.secret_bytes.specs.declared.share.SecretShare.{SecretShare}
use Rattle.secret_bytes.specs.SecretShares.{at_most, element_spelling, share_spelling, AreSameShares, AdmitsShare, scan_share}

abbrev after_deal : SecretShare → List ℕ → List ℕ
after_deal s rest = list_spelling element_spelling s.values.items ++ rest

abbrev after_index : SecretShare → List ℕ → List ℕ
after_index s rest = element_spelling s.deal ++ after_deal s rest

abbrev after_threshold : SecretShare → List ℕ → List ℕ
after_threshold s rest = length_spelling s.index ++ after_index s rest

-- the four parts stand one after the other, and then what follows the share
parts : (s : SecretShare) (rest : List ℕ) → share_spelling s ++ rest ≡ length_spelling s.threshold ++ after_threshold s rest
parts s rest =
    let values = list_spelling element_spelling s.values.items in
    let deal = element_spelling s.deal in
    let index = length_spelling s.index in
    append_assoc (length_spelling s.threshold) (index ++ (deal ++ values)) rest
    ∙ ap (λ (x : List ℕ). length_spelling s.threshold ++ x) (append_assoc index (deal ++ values) rest ∙ ap (λ (x : List ℕ). index ++ x) (append_assoc deal values rest))

pub share_again : (most_values : ℕ) → ReadsAgain share_spelling (AdmitsShare most_values) (scan_share most_values)
unfolding scan_share
share_again most_values s rest h =
    let threshold = length_again s.threshold (after_threshold s rest) h.threshold_fits in
    let index = length_again s.index (after_index s rest) h.index_fits in
    let deal = element_again (number s.deal) (after_deal s rest) h.deal_fits in
    let values = list_again element_spelling (λ a. number a < P) scan_element (λ a. element_again (number a)) (at_most most_values) s.values.items rest h.values in
    ap (scan_share most_values) (parts s rest) ∙ rw (threshold, index, deal, values) refl

pub share_apart : (most_values : ℕ) → SpellsApart share_spelling (AdmitsShare most_values) AreSameShares
share_apart most_values s u x y h k e =
    let threshold = lengths_apart s.threshold u.threshold (after_threshold s x) (after_threshold u y) h.threshold_fits k.threshold_fits (sym (parts s x) ∙ e ∙ parts u y) in
    let index = lengths_apart s.index u.index (after_index s x) (after_index u y) h.index_fits k.index_fits threshold.1 in
    let deal = element_apart (number s.deal) (number u.deal) (after_deal s x) (after_deal u y) h.deal_fits k.deal_fits index.1 in
    let values = list_apart element_spelling (λ a. number a < P) same (λ a b. element_apart (number a) (number b)) (at_most most_values) s.values.items u.values.items x y h.values k.values deal.1 in
    (record { threshold = threshold.0; index = index.0; deal = deal.0; values = values.0 }, values.1)
