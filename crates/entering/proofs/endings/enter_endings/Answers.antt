use Rattle.basics.proofs.Words.{arith}
use Rattle.entering.proofs.LastPosition.{fill_ready, add_ready, write_ready, last_entered}
use Rattle.entering.proofs.endings.enter_endings.Goals as goal

pub fill_endings-requires : goal.fill_endings-requires
fill_endings-requires c =
    fill_ready c.requires.0

pub add_four-requires : goal.add_four-requires
add_four-requires c =
    add_ready c.requires.0 c.requires.1 c.fill_endings.ensures _ _ c.requires.2 c.requires.3

pub write_endings-requires : goal.write_endings-requires
write_endings-requires c =
    write_ready c.requires.0 c.requires.1 c.fill_endings.ensures c.add_four.ensures (omega (arith, c.requires.2, c.add_four.auto.high)) (omega (arith, c.requires.3, c.add_four.auto.low))

pub returns : goal.returns
returns c =
    last_entered c.requires.0 c.fill_endings.ensures c.add_four.ensures c.write_endings.ensures
