use Rattle.basics.proofs.Words.{arith}
use Rattle.writing.proofs.Writes.{written_nil, written_append, written_length}
use Rattle.writing.proofs.Texts.{counts_first_length, counts_none, counts_first}
use Rattle.writing.proofs.answers.write_counts.Goals as goal

pub returns-then-counts-eq0 : goal.returns-then-counts-eq0
returns-then-counts-eq0 c = rw (counts_none _ c.if-counts-eq0.true) (written_nil _ _)

pub write_number-next-requires : goal.write_number-next-requires
write_number-next-requires c =
    omega (arith, counts_first_length c.args.counts.now c.if-counts-eq0.false)

pub write_next_counts-requires : goal.write_next_counts-requires
write_next_counts-requires c =
    let w = c.write_number-next.ensures in
    omega (arith, counts_first_length c.args.counts.now c.if-counts-eq0.false, w.place, written_length w)

pub returns : goal.returns
returns c =
    rw (counts_first c.args.counts.now c.if-counts-eq0.false) (written_append c.write_number-next.ensures c.write_next_counts.ensures)
