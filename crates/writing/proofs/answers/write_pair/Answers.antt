use Rattle.basics.proofs.Words.{arith}
use Rattle.writing.specs.Writing.{pair_text}
use Rattle.writing.proofs.Writes.{written_append, written_length}
use Rattle.writing.proofs.Texts.{pair_length}
use Rattle.writing.proofs.answers.write_pair.Goals as goal

pub write_byte-next-requires : goal.write_byte-next-requires
write_byte-next-requires c = omega (arith, pair_length c.args.input c.args.output)

pub write_number-next-requires : goal.write_number-next-requires
write_number-next-requires c =
    let w = c.write_byte-next.ensures in rw c.from.ensures (omega (arith, pair_length c.args.input c.args.output, w.place, written_length w))

pub write_byte-next-requires-2 : goal.write_byte-next-requires-2
write_byte-next-requires-2 c =
    let v = c.write_byte-next.ensures in
    let w = rw c.from.ensures at c.write_number-next.ensures in
    omega (arith, pair_length c.args.input c.args.output, v.place, written_length v, w.place, written_length w)

pub write_number-requires : goal.write_number-requires
write_number-requires c =
    let u = c.write_byte-next.ensures in
    let v = rw c.from.ensures at c.write_number-next.ensures in
    let w = c.write_byte-next-2.ensures in
    rw c.from-2.ensures
    (omega (arith, pair_length c.args.input c.args.output, u.place, written_length u, v.place, written_length v, w.place, written_length w))

pub returns : goal.returns
unfolding pair_text
returns c =
    rw (← c.from.ensures, ← c.from-2.ensures)
    (written_append (written_append (written_append c.write_byte-next.ensures c.write_number-next.ensures) c.write_byte-next-2.ensures) c.write_number.ensures)
