-- What is done coefficient by coefficient.
use Rattle.std.proofs.Common.{◌≡◌, zero, suc, List, [], ◌∷◌, map, ap, refl}
use Rattle.std.specs.List.{AllZip}
use Rattle.math_theory.specs.Laws.{IsEquality}
use Rattle.math_theory.specs.Coefficients.{HaveSameCoefficients, polynomial_sum}

-- where f's answers stand in each place, there are the coefficients of the list under f
pub same_as_map : {A : Type 0} {same : A → A → Type 0} (zero_of : A) (E : IsEquality same) (f : A → A) {R : A → A → Type 0} → ((c d : A) → R c d → same d (f c))
    → (a b : List A) → AllZip R a b → HaveSameCoefficients same zero_of b (map f a)
same_as_map zero_of E f k [] [] h i = E.reflexive _
same_as_map zero_of E f k [] (d ∷ b) h i = absurd h
same_as_map zero_of E f k (c ∷ a) [] h i = absurd h
same_as_map zero_of E f k (c ∷ a) (d ∷ b) h zero = k c d h.0
same_as_map zero_of E f k (c ∷ a) (d ∷ b) h (suc i) = same_as_map zero_of E f k a b h.1 i

-- a list plus itself
pub sum_with_itself : {A : Type 0} (sum : A → A → A) (a : List A) → polynomial_sum sum a a ≡ map (λ c. sum c c) a
sum_with_itself sum [] = refl
sum_with_itself sum (c ∷ a) = ap (λ b. sum c c ∷ b) (sum_with_itself sum a)
