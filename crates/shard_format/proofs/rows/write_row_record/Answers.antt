use Rattle.std.proofs.Common.{◌∙◌, refl}
use Rattle.shard_format.proofs.RowRecords.{record_spelled}
use Rattle.shard_format.proofs.rows.write_row_record.Goals as goal

pub returns : goal.returns
returns c =
    let row = c.args.row in
    record {
      exact = record_spelled c.args.header.now c.args.block row.mask row.width row.bytes.now c.write_pair.new.out.items c.write_row.new.out.items _ c.deref.result.now
          c.row_fingerprints-fingerprints.result c.in_ok-write_row.ensures (c.deref.ensures.value ∙ c.in_ok-put_elements.ensures.words) c.row_fingerprints-fingerprints.ensures refl
          c.in_ok-write_pair.ensures.ok;
    }
