use Rattle.basics.proofs.Words.{arith}
use Rattle.writing.specs.Writing.{next_count}
use Rattle.writing.proofs.Writes.{written_append, written_length}
use Rattle.writing.proofs.Texts.{next_count_length}
use Rattle.writing.proofs.answers.write_next_count.Goals as goal

pub write_byte-next-requires : goal.write_byte-next-requires
write_byte-next-requires c = omega (arith, next_count_length c.args.count)

pub write_number-requires : goal.write_number-requires
write_number-requires c =
    let w = c.write_byte-next.ensures in omega (arith, next_count_length c.args.count, w.place, written_length w)

pub returns : goal.returns
unfolding next_count
returns c =
    written_append c.write_byte-next.ensures c.write_number.ensures
