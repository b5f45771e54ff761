-- Shares of several elements, element by element.
use Rattle.std.specs.Prelude.{ℕ, List, map, slice_index_or}
use Rattle.math_fields.specs.declared.goldilocks.F.{F}
use Rattle.math_fields.specs.Elements.{residue}
use Rattle.secret_bytes.specs.declared.share.SecretShare.{SecretShare}
use Rattle.shared_secret.specs.declared.shares.Share.{Share}

-- the share of element j: the index, and value j
abbrev pub share_of : ℕ → SecretShare → Share F
share_of j s = record { index = s.index; value = slice_index_or s.values.items j (residue 0) }

-- the shares of element j
abbrev pub column : ℕ → List SecretShare → List (Share F)
column j shares = map (share_of j) shares
