-- Elements of bytes with a key and a check: their parts, and that they are those of one list of bytes.
use Rattle.std.proofs.Common.{◌≡◌, ◌∙◌, ℕ, List, [], ◌∷◌, ◌++◌, map, Result, Ok, Err, Option, Some, None, IfOk, sym, ap, append_assoc}
use Rattle.std.specs.Option.{IfNone, IsSomeAnd}
use Rattle.std.proofs.lemmas.List.{same_from_push}
use Rattle.math_fields.specs.declared.goldilocks.F.{F}
use Rattle.math_fields.specs.Elements.{number}
use Rattle.secret_bytes.proofs.UnpackedBytes.{packed-once}
use Rattle.secret_bytes.specs.Keyed.{AreKeyed}

-- the parts are the only ones
pub keyed-parts : (all elements : List F) (key check : F) (bytes : List ℕ) → all ≡ elements ++ (key ∷ check ∷ []) → (k : AreKeyed bytes all)
    → (k.elements ≡ elements) × (k.key ≡ key) × (k.check ≡ check)
keyed-parts all elements key check bytes e k =
    let joined : (k.elements ++ (k.key ∷ [])) ++ (k.check ∷ []) ≡ (elements ++ (key ∷ [])) ++ (check ∷ []) =
    append_assoc k.elements (k.key ∷ []) (k.check ∷ []) ∙ sym k.parts ∙ e ∙ sym (append_assoc elements (key ∷ []) (check ∷ [])) in
    let last = same_from_push (k.elements ++ (k.key ∷ [])) (elements ++ (key ∷ [])) k.check check joined in
    let before = same_from_push k.elements elements k.key key last.0 in
    (before.0, before.1, last.1)

-- the bytes are the only ones
pub keyed-once : (all : List F) (bytes others : List ℕ) → AreKeyed bytes all → AreKeyed others all → bytes ≡ others
keyed-once all bytes others k m =
    let e = keyed-parts all m.elements m.key m.check bytes m.parts k in
    packed-once k.elements m.elements bytes others k.packed m.packed (ap (map number) e.0)

-- where whatever has P is found, nothing has it where nothing is found
pub none-found : {X E : Type 0} (r : Result (Option X) E) (P : List ℕ → Type 0) (Q : List ℕ → X → Type 0) → ((bytes : List ℕ) → P bytes → IfOk r (λ a. IsSomeAnd a (Q bytes)))
    → IfOk r (λ a. IfNone a ((bytes : List ℕ) → ¬ (P bytes)))
none-found (Ok (Some x)) P Q h = tt
none-found (Ok None) P Q h = λ bytes p. h bytes p
none-found (Err e) P Q h = tt
