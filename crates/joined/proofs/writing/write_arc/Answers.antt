use Rattle.basics.proofs.Words.{arith}
use Rattle.joined.specs.Laws.Writing.{arc_placed}
use Rattle.joined.proofs.writing.write_arc.Goals as goal

pub returns : goal.returns
returns c =
    arc_placed c.args.at c.args.arc c.args.target.now c.write_number.new.target c.write_number-2.new.target (omega arith) c.write_number.ensures c.write_number-2.ensures
