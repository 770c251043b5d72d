use Rattle.writing.specs.Writing.{next_count}
use Rattle.writing.proofs.Writes.{ahead_end, ahead_next}
use Rattle.writing.proofs.Texts.{joined_room, joined_next, joined_end}
use Rattle.writing.proofs.answers.write_next_counts.Goals as goal

pub write_next_count-next-requires : goal.write_next_count-next-requires
write_next_count-next-requires c = joined_room next_count _ _ 0 c.loop-count-test.true c.loop-count.invariant c.requires

pub loop-count-preserved : goal.loop-count-preserved
loop-count-preserved c =
    ahead_next _ _ (joined_next next_count _ _ 0 c.loop-count-test.true) c.loop-count.invariant c.write_next_count-next.ensures

pub returns : goal.returns
returns c = ahead_end (joined_end next_count _ _ c.loop-count-test.false) c.loop-count.invariant
