-- Values of polynomials, the columns of rows of coefficients, on a coset, and rows that have these values.
use Rattle.std.specs.Prelude.{◌≡◌, ℕ, ◌+◌, ◌*◌, ◌/◌, ◌%◌, ◌<◌, ◌^◌, List, length, take, drop, slice_index_or}
use Rattle.std.specs.List.{AllZip}
use Rattle.math_theory.specs.Powers.{power}
use Rattle.math_theory.specs.Values.{value}
use Rattle.math_fields.specs.declared.goldilocks.F.{F}
use Rattle.math_fields.specs.Elements.{residue, root_of, same, sum, product}
use Rattle.math_transforms.specs.DomainValues.{matrix_of}
use Rattle.math_transforms.specs.Matrices.{MatrixOf, cell_of, column_of}
use Rattle.math_splitting.specs.Shards.{value_at_index}
use Rattle.math_shards.specs.declared.shards.polynomials.Columns.{Columns}

-- the rows of coefficients of which these are columns, as a matrix
abbrev pub coefficients_of : Columns → MatrixOf F
coefficients_of columns = matrix_of columns.strip.layout.min columns.strip.layout.width columns.elements.now

-- each cell is the item in its place times the factor
abbrev pub AreMultiples : List F → F → List F → Type 0
AreMultiples items factor cells = (k : ℕ) → k < length cells → same (slice_index_or cells k (residue 0)) (product (slice_index_or items k (residue 0)) factor)

-- cell k of row t, of 2^lg rows of c cells, is the value, at `ratio` times power t of the root of order 2^lg, of the polynomial whose coefficients are column from + k of m
abbrev pub AreCosetValues : MatrixOf F → ℕ → ℕ → F → ℕ → List F → Type 0
AreCosetValues m from c ratio lg cells =
    (t k : ℕ) → t < 2 ^ lg → k < c
    → same (cell_of (residue 0) (matrix_of (2 ^ lg) c cells) t k)
    (value (residue 0) sum product (residue 1) (product ratio (power (residue 1) product (root_of lg) t)) (column_of (residue 0) m (from + k)))

-- where the index is `start` and t times 2^stride, the row has the c cells of row t from place `from` on
abbrev pub HasCosetCells : List F → ℕ → ℕ → ℕ → ℕ → ℕ → List F → Type 0
HasCosetCells cells c from start stride index row =
    index % 2 ^ stride ≡ start → AllZip same (take c (drop (index / 2 ^ stride * c) cells)) (take c (drop from row))

-- the c cells of the row from place `from` on are the values, at power `index` of the root of order 2^lg, of the polynomials whose coefficients are these columns of m
abbrev pub HasValuesFrom : ℕ → MatrixOf F → ℕ → ℕ → ℕ → List F → Type 0
HasValuesFrom lg m from c index row =
    (k : ℕ) → k < c → same (slice_index_or row (from + k) (residue 0)) (value_at_index lg (column_of (residue 0) m (from + k)) index)
