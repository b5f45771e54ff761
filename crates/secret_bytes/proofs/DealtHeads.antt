-- Shares of secrets of as many bytes, dealt from the same samples, are the same but for their values.
use Rattle.std.proofs.Common.{◌≡◌, ◌∙◌, ℕ, ◌+◌, List, [], ◌∷◌, length, map, refl, sym, ap, ap₂}
use Rattle.std.specs.List.{All}
use Rattle.std.specs.Option.{unwrap_or}
use Rattle.std.proofs.lemmas.List.Elements.{All-head, All-tail}
use Rattle.math_fields.specs.declared.goldilocks.F.{F}
use Rattle.secret_bytes.specs.Packings.{number_count}
use Rattle.secret_bytes.specs.declared.share.SecretShare.{SecretShare}
use Rattle.secret_bytes.specs.DealingLaws.{SharesDifferInValuesAlone, head_of}
use Rattle.secret_bytes.specs.Deals.{IsOfDeal}
use Rattle.secret_bytes.proofs.PackedAlone.{keyed-length}

made : ℕ → F → ℕ → ℕ → ℕ × ℕ × F × ℕ
made t identity width index = (t, index, identity, width)

head : (t : ℕ) (identity : F) (width : ℕ) (s : SecretShare) → IsOfDeal t identity width s → head_of s ≡ made t identity width s.index
unfolding made
head t identity width s h =
    let parts : ℕ → F → ℕ → ℕ × ℕ × F × ℕ = λ x y z. (x, s.index, y, z) in
    ap (λ x. parts x s.deal (length s.values.items)) h.threshold ∙ ap₂ (λ y z. parts t y z) h.deal h.count

heads : (t : ℕ) (identity : F) (width : ℕ) (shares : List SecretShare) → All (IsOfDeal t identity width) shares → map head_of shares ≡ map (made t identity width) (map (λ s. s.index) shares)
heads t identity width [] h = refl
heads t identity width (s ∷ shares) h =
    ap₂ (λ a rest. a ∷ rest) (head t identity width s (All-head (IsOfDeal t identity width) s shares h))
    (heads t identity width shares (All-tail (IsOfDeal t identity width) s shares h))

pub heads-same : SharesDifferInValuesAlone
heads-same bytes others t n before after later dealt further e k m =
    let deal : m.deal ≡ k.deal = ap (λ p. unwrap_or p.0 m.deal) (sym m.deal_sampled ∙ k.deal_sampled) in
    let first : length m.all ≡ number_count (length others) + 3 = keyed-length m.keyed.key others m.all (m.keyed, refl) in
    let second : length k.all ≡ number_count (length bytes) + 3 = keyed-length k.keyed.key bytes k.all (k.keyed, refl) in
    let width : length m.all ≡ length k.all = first ∙ ap (λ n. number_count n + 3) e ∙ sym second in
    heads t m.deal (length m.all) further m.alike
    ∙ ap₂ (λ x w. map (made t x w) (map (λ s. s.index) further)) deal width
    ∙ ap (map (made t k.deal (length k.all))) (m.indices ∙ sym k.indices)
    ∙ sym (heads t k.deal (length k.all) dealt k.alike)
