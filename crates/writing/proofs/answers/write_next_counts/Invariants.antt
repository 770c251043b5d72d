use Rattle.basics.proofs.Words.{drop, joined}
use Rattle.writing.specs.Writing.{next_count}
use Rattle.writing.proofs.Writes.{Ahead}
use Rattle.writing.proofs.answers.write_next_counts.Given as goal

abbrev pub invariant-loop-count : goal.invariant-loop-count
invariant-loop-count l = Ahead (joined next_count (drop l.count-index l.counts)) l.next l.out (joined next_count l.counts) l.at l.initial.out
