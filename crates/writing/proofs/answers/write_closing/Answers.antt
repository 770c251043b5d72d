use Rattle.basics.proofs.Words.{arith, le_trans}
use Rattle.writing.specs.Writing.{answered_line, closing_lines}
use Rattle.writing.proofs.Writes.{written_append, written_length, front_place, front_bytes}
use Rattle.writing.proofs.Texts.{answered_length, closing_length, closing_fits}
use Rattle.writing.proofs.answers.write_closing.Goals as goal

pub write_number-next-requires : goal.write_number-next-requires
write_number-next-requires c =
    let fits = closing_fits c.args.answered c.args.refused c.args.totals.now c.ranges.answered.fits c.ranges.refused.fits (λ i. (c.type_inv.totals i).fits) c.requires.0 in
    let w = c.write_text-next.ensures in
    omega (arith, fits, c.requires, closing_length c.args.answered c.args.refused c.args.totals.now, answered_length c.args.answered c.args.refused, w.place, written_length w)

pub write_text-next-requires-2 : goal.write_text-next-requires-2
write_text-next-requires-2 c =
    let fits = closing_fits c.args.answered c.args.refused c.args.totals.now c.ranges.answered.fits c.ranges.refused.fits (λ i. (c.type_inv.totals i).fits) c.requires.0 in
    let v = c.write_text-next.ensures in
    let w = c.write_number-next.ensures in
    omega (arith, fits, c.requires, closing_length c.args.answered c.args.refused c.args.totals.now, answered_length c.args.answered c.args.refused, v.place, written_length v, w.place, written_length w)

pub write_number-next-requires-2 : goal.write_number-next-requires-2
write_number-next-requires-2 c =
    let fits = closing_fits c.args.answered c.args.refused c.args.totals.now c.ranges.answered.fits c.ranges.refused.fits (λ i. (c.type_inv.totals i).fits) c.requires.0 in
    let u = c.write_text-next.ensures in
    let v = c.write_number-next.ensures in
    let w = c.write_text-next-2.ensures in
    omega (arith, fits, c.requires, closing_length c.args.answered c.args.refused c.args.totals.now, answered_length c.args.answered c.args.refused, u.place, written_length u, v.place, written_length v, w.place, written_length w)

pub write_byte-next-requires : goal.write_byte-next-requires
write_byte-next-requires c =
    let fits = closing_fits c.args.answered c.args.refused c.args.totals.now c.ranges.answered.fits c.ranges.refused.fits (λ i. (c.type_inv.totals i).fits) c.requires.0 in
    let t = c.write_text-next.ensures in
    let u = c.write_number-next.ensures in
    let v = c.write_text-next-2.ensures in
    let w = c.write_number-next-2.ensures in
    omega (arith, fits, c.requires, closing_length c.args.answered c.args.refused c.args.totals.now, answered_length c.args.answered c.args.refused, t.place, written_length t, u.place, written_length u, v.place, written_length v, w.place, written_length w)

pub write_total-requires : goal.write_total-requires
write_total-requires c =
    let fits = closing_fits c.args.answered c.args.refused c.args.totals.now c.ranges.answered.fits c.ranges.refused.fits (λ i. (c.type_inv.totals i).fits) c.requires.0 in
    let s = c.write_text-next.ensures in
    let t = c.write_number-next.ensures in
    let u = c.write_text-next-2.ensures in
    let v = c.write_number-next-2.ensures in
    let w = c.write_byte-next.ensures in
    omega (arith, fits, c.requires, closing_length c.args.answered c.args.refused c.args.totals.now, answered_length c.args.answered c.args.refused, s.place, written_length s, t.place, written_length t, u.place, written_length u, v.place, written_length v, w.place, written_length w)

pub returns-clause-length : goal.returns-clause-length
unfolding closing_lines answered_line
returns-clause-length c =
    front_place (written_append (written_append (written_append (written_append (written_append c.write_text-next.ensures c.write_number-next.ensures) c.write_text-next-2.ensures) c.write_number-next-2.ensures) c.write_byte-next.ensures) c.write_total.ensures)

pub returns-clause-out : goal.returns-clause-out
unfolding closing_lines answered_line
returns-clause-out c =
    front_bytes (written_append (written_append (written_append (written_append (written_append c.write_text-next.ensures c.write_number-next.ensures) c.write_text-next-2.ensures) c.write_number-next-2.ensures) c.write_byte-next.ensures) c.write_total.ensures)
    (le_trans (closing_fits c.args.answered c.args.refused c.args.totals.now c.ranges.answered.fits c.ranges.refused.fits (λ i. (c.type_inv.totals i).fits) c.requires.0) c.requires.1)
