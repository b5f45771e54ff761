use Rattle.std.proofs.Common.{◌≡◌, ◌≤◌, ◌+◌, ◌*◌, ◌++◌, ◌-◌, length, vec_capacity}
use Rattle.std.specs.List.{flat_map, AllByRecursion}
use Rattle.math_codec.specs.Lists.{scan_items}
use Rattle.math_codec.proofs.FirstItem.{NoneOrFirstRead}
use Rattle.math_codec.proofs.codec.list.read_items.Given as goal

abbrev pub invariant-loop : goal.invariant-loop
invariant-loop g l =
    record {
      number : length l.items.items ≡ l.counter;
      admitted : AllByRecursion (g.T.Read.admits l.cfg) l.items.items;
      room : vec_capacity l.items ≤ 2 * length l.items.items + 4;
      taken : l.bytes ≡ flat_map g.T.Encoding.spelling l.items.items ++ l.rest;
      first : NoneOrFirstRead (g.T.Read.scan l.cfg) l.bytes l.rest;
      exact : scan_items (g.T.Read.scan l.cfg) (l.count - l.counter) l.rest ≡ scan_items (g.T.Read.scan l.cfg) l.count l.bytes;
    }
