use Rattle.basics.proofs.Words.{drop, joined}
use Rattle.writing.specs.Writing.{pairs_text}
use Rattle.writing.proofs.Writes.{Ahead}
use Rattle.writing.proofs.Texts.{chunk_text}
use Rattle.writing.proofs.answers.write_pairs.Given as goal

abbrev pub invariant-loop-input : goal.invariant-loop-input
invariant-loop-input l = Ahead (joined chunk_text (drop l.input-index l.input-items)) l.next l.out (pairs_text l.bytes) l.at l.initial.out
