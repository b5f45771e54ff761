use Rattle.std.proofs.Math.Logic.{∥∥₁_elim}
use denote.Struct.Props.{props}
use Rattle.math_restoring.proofs.RestoredColumns.{values_of_column}
use Rattle.math_restoring.proofs.restoring.Restorer.restore.Goals as goal

pub returns : goal.returns
returns c = λ cell placed k l.
    let r = c.args.self.now in
    ∥∥₁_elim r.divides (hlevel props)
    (λ D. values_of_column r.division r.indices.items r.places.items c.args.cols cell c.args.room.now c.divide.new.cells D r.count r.filled r.below r.distinct r.are_places placed (c.divide.ensures D) k l)
