use Rattle.basics.proofs.Words.{arith, le_trans}
use Rattle.writing.specs.Writing.{accepted_line}
use Rattle.writing.proofs.Writes.{written_append, written_length, front_place, front_bytes}
use Rattle.writing.proofs.Texts.{accepted_length, accepted_fits}
use Rattle.writing.proofs.answers.write_accepted.Goals as goal

pub write_counts-next-requires : goal.write_counts-next-requires
write_counts-next-requires c =
    let fits = accepted_fits c.args.counts.now c.args.bytes.now c.requires.1 (λ i. (c.type_inv.bytes i).fits) c.requires.0 in
    omega (arith, accepted_length c.args.counts.now c.args.bytes.now, fits, c.requires)

pub write_pairs-next-requires : goal.write_pairs-next-requires
write_pairs-next-requires c =
    let fits = accepted_fits c.args.counts.now c.args.bytes.now c.requires.1 (λ i. (c.type_inv.bytes i).fits) c.requires.0 in
    let w = c.write_counts-next.ensures in
    omega (arith, accepted_length c.args.counts.now c.args.bytes.now, fits, c.requires, w.place, written_length w)

pub write_byte-requires : goal.write_byte-requires
write_byte-requires c =
    let fits = accepted_fits c.args.counts.now c.args.bytes.now c.requires.1 (λ i. (c.type_inv.bytes i).fits) c.requires.0 in
    let v = c.write_counts-next.ensures in
    let w = c.write_pairs-next.ensures in
    omega (arith, accepted_length c.args.counts.now c.args.bytes.now, fits, c.requires, v.place, written_length v, w.place, written_length w)

pub returns-clause-length : goal.returns-clause-length
unfolding accepted_line
returns-clause-length c = front_place (written_append (written_append c.write_counts-next.ensures c.write_pairs-next.ensures) c.write_byte.ensures)

pub returns-clause-out : goal.returns-clause-out
unfolding accepted_line
returns-clause-out c =
    front_bytes (written_append (written_append c.write_counts-next.ensures c.write_pairs-next.ensures) c.write_byte.ensures)
    (le_trans (accepted_fits c.args.counts.now c.args.bytes.now c.requires.1 (λ i. (c.type_inv.bytes i).fits) c.requires.0) c.requires.2)
