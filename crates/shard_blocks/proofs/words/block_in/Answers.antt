use Rattle.std.proofs.Common.{◌≡◌, ◌∙◌, length, ap, subst, sym}
use Rattle.math_base.proofs.WholeWrites.{take-written}
use Rattle.shard_blocks.specs.BlockWords.{IsBlockOf}
use Rattle.shard_blocks.proofs.words.block_in.Goals as goal

pub returns-clause-some : goal.returns-clause-some
returns-clause-some c = λ words h.
    let found = rw c.in-Some.is at (c.block_size.ensures.some words h) in
    let whole : c.resize.new.self.len ≡ length c.resize.new.self.items = c.resize.new.self.ok.0 in
    let room : length c.resize.new.self.items ≡ length found.0 = sym whole ∙ c.in_ok-resize.ensures.len ∙ sym found.2 in
    let out : c.write_block.new.out ≡ found.0 = c.write_block.ensures words found.0 h found.1 (sym (ap length c.deref_mut.ensures.value ∙ room)) in
    subst (IsBlockOf words) (sym (take-written c.resize.new.self.len c.resize.new.self.items c.write_block.new.out whole (ap length out ∙ sym room) ∙ out)) found.1

pub returns-clause-found : goal.returns-clause-found
returns-clause-found c = λ words block h of.
    let size : c.in-Some.size ≡ length block = rw c.in-Some.is at (c.block_size.ensures.found words block h of) in
    let whole : c.resize.new.self.len ≡ length c.resize.new.self.items = c.resize.new.self.ok.0 in
    let room : length c.resize.new.self.items ≡ length block = sym whole ∙ c.in_ok-resize.ensures.len ∙ size in
    let out : c.write_block.new.out ≡ block = c.write_block.ensures words block h of (sym (ap length c.deref_mut.ensures.value ∙ room)) in
    take-written c.resize.new.self.len c.resize.new.self.items c.write_block.new.out whole (ap length out ∙ sym room) ∙ out
