use Rattle.c_calls.proofs.weights.weights_in_domain.Goals as goal
use Rattle.std.proofs.Common.{◌≡◌, ◌∙◌, ◌++◌, ◌-◌, ℕ, List, ap, subst, arith}
use Rattle.std.specs.Int.Count.{count_leading_zeros}
use Rattle.std.specs.Map.{keys_of}
use Rattle.math_codec.proofs.ItemsSoFar.{vec_items}
use Rattle.math_fields.specs.Elements.{residue}
use Rattle.math_fields.proofs.ElementNumbers.{same_number}
use Rattle.math_transforms.specs.RootWeights.{AreIndicesBelow}
use Rattle.math_transforms.proofs.PresentIndices.{indices-given, lg-of_total, lg-only}
use Rattle.c_calls.specs.WordElements.{numbers}
use Rattle.c_calls.proofs.WordWeights.{root_weight_words}

pub lagrange_coefficients_at-requires-clause-domain : goal.lagrange_coefficients_at-requires-clause-domain
lagrange_coefficients_at-requires-clause-domain c = λ lg h.
    let n = c.args.total.value in
    let found : lg ≡ 32 - count_leading_zeros 32 (n - 1) = lg-only n lg (32 - count_leading_zeros 32 (n - 1)) (omega arith) h (lg-of_total n (omega arith) (omega arith)) in
    omega (arith, found)

pub returns : goal.returns
returns c =
    let pairs = c.in_ok-found.found.items in
    let q = c.in_ok-found.ensures.indices in
    let copies : q.1 ≡ c.args.indices.now = vec_items q.0 q.1 c.extend_from_slice.new.self.items q.3 q.2.0 (q.2.1 ∙ c.extend_from_slice.new.self.ok.0)
    ∙ c.in_ok-extend_from_slice.ensures.items ∙ ap (λ (xs : List ℕ). xs ++ c.args.indices.now) c.new-copy.ensures.items in
    let h : AreIndicesBelow c.args.total.value c.args.indices.now (keys_of pairs) = subst (λ xs. AreIndicesBelow c.args.total.value xs (keys_of pairs)) copies q.4 in
    let keys : keys_of pairs ≡ c.args.indices.now = indices-given c.args.total.value c.args.indices.now (keys_of pairs) c.requires.rising h in
    let point : c.from.result ≡ residue c.args.x = same_number c.from.result (residue c.args.x) c.from.ensures in
    root_weight_words c.args.x c.args.total.value c.args.indices.now (numbers c.in_ok-weights.weights.items) c.from.result pairs
    c.requires.x_below c.requires.rising point keys (ap numbers c.in_ok-weights.ensures) c.in_ok-found.ensures.weights
