-- Codewords are determined by any `min` of their rows, and go through any such rows.
use Rattle.std.proofs.Common.{◌∙◌, ℕ, ◌<◌, ◌≤◌, ◌^◌, List, length, get_or, sym, ap, arith}
use Rattle.std.specs.Int.{IsNextPowerOfTwo}
use Rattle.std.specs.List.{All}
use Rattle.math_fields.specs.declared.goldilocks.F.{F}
use Rattle.math_fields.specs.Elements.{number, same}
use Rattle.math_transforms.proofs.PresentIndices.{lg-only}
use Rattle.row_interpolation.specs.RowValues.{IsValueThrough, value_at_index}
use Rattle.row_interpolation.proofs.IndexPoints.{domain_of, through, through-count, through-values, values-once}
use Rattle.systematic_shards.specs.Codewords.{HaveCodeword, HaveOneCodeword, IsCodeword}

-- the value at an index of a column of a codeword is its cell
pub value-cell : (lg min total width index k : ℕ) (indices : List ℕ) (values : ℕ → F) (x : F) (a : ℕ → ℕ → F) → IsNextPowerOfTwo total (2 ^ lg) → index < total
    → All (λ i. i < total) indices → min ≤ length indices → k < width → IsCodeword min total width a
    → ((t : ℕ) → t < length indices → same (values t) (a (get_or indices t 0) k)) → IsValueThrough lg indices values index x → same x (a index k)
value-cell lg min total width index k indices values x a next inside below enough l codeword held through =
    let (p, of_p) = codeword lg k next l in
    through p (record {
      few = omega (arith, of_p.few, enough);
      values = λ t b. held t b ∙ of_p.values (get_or indices t 0) (below t 0 b);
    })
    ∙ sym (of_p.values index inside)

pub one_codeword : HaveOneCodeword
one_codeword min total width indices a b short are enough A B agree i k l m =
    let (lg, next, small) = domain_of total (omega (arith, l)) short in
    let (p, of_p) = A lg k next m in
    let (q, of_q) = B lg k next m in
    of_p.values i l
    ∙ values-once lg total indices small next.1 are min p q enough of_p.few of_q.few
    (λ t n. let j = are.1 t 0 n in sym (of_p.values (get_or indices t 0) j) ∙ agree t k n m ∙ of_q.values (get_or indices t 0) j) i
    ∙ sym (of_q.values i l)

pub codeword : HaveCodeword
codeword min total width indices cells some short are few =
    let (lg, next, small) = domain_of total some short in
    let column : ℕ → List F = λ k. through lg total indices small next.1 are (λ t. cells t k) in (
      λ i k. value_at_index lg (column k) i,
      λ other k next' m. (
        column k,
        record {
          few = omega (arith, few, through-count lg total indices small next.1 are (λ t. cells t k));
          values = λ i l. ap (λ n. number (value_at_index n (column k) i)) (lg-only total lg other some next next');
        },
      ),
      λ t k l m. through-values lg total indices small next.1 are (λ t. cells t k) t l,
    )
