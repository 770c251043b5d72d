use Rattle.basics.proofs.Words.{arith, le_trans}
use Rattle.writing.specs.Writing.{refused_line}
use Rattle.writing.proofs.Writes.{written_append, written_length, front_place, front_bytes}
use Rattle.writing.proofs.Texts.{byte_length, refused_fits}
use Rattle.writing.proofs.answers.write_refused.Goals as goal

pub write_number-next-requires : goal.write_number-next-requires
write_number-next-requires c =
    let w = c.write_text-next.ensures in
    rw c.from.ensures (omega (arith, byte_length c.args.number c.ranges.number.fits, w.place, written_length w, c.requires))

pub write_byte-requires : goal.write_byte-requires
write_byte-requires c =
    let v = c.write_text-next.ensures in
    let w = rw c.from.ensures at c.write_number-next.ensures in
    omega (arith, byte_length c.args.number c.ranges.number.fits, v.place, written_length v, w.place, written_length w, c.requires)

pub returns-clause-length : goal.returns-clause-length
unfolding refused_line
returns-clause-length c =
    front_place (written_append (written_append c.write_text-next.ensures (rw c.from.ensures at c.write_number-next.ensures)) c.write_byte.ensures)

pub returns-clause-out : goal.returns-clause-out
unfolding refused_line
returns-clause-out c =
    front_bytes (written_append (written_append c.write_text-next.ensures (rw c.from.ensures at c.write_number-next.ensures)) c.write_byte.ensures)
    (le_trans (refused_fits c.args.number c.ranges.number.fits) c.requires)
