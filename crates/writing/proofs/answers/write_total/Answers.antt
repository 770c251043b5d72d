use Rattle.basics.proofs.Words.{arith}
use Rattle.writing.proofs.Writes.{written_append, written_length}
use Rattle.writing.proofs.Texts.{total_none, total_some, total_none_length, total_some_length, total_least}
use Rattle.writing.proofs.answers.write_total.Goals as goal

pub write_text-next-requires : goal.write_text-next-requires
write_text-next-requires c =
    omega (arith, total_least c.args.totals.now)

-- no totals
pub write_byte-requires : goal.write_byte-requires
write_byte-requires c =
    let w = c.write_text-next.ensures in
    omega (arith, total_none_length c.args.totals.now c.if-totals-eq0.true, w.place, written_length w, c.requires)

pub returns-then-totals-eq0 : goal.returns-then-totals-eq0
returns-then-totals-eq0 c =
    rw (total_none c.args.totals.now c.if-totals-eq0.true) (written_append c.write_text-next.ensures c.write_byte.ensures)

-- some
pub write_byte-next-requires : goal.write_byte-next-requires
write_byte-next-requires c =
    let w = c.write_text-next.ensures in
    omega (arith, total_some_length c.args.totals.now c.if-totals-eq0.false, w.place, written_length w, c.requires)

pub write_counts-next-requires : goal.write_counts-next-requires
write_counts-next-requires c =
    let v = c.write_text-next.ensures in
    let w = c.write_byte-next.ensures in
    omega (arith, total_some_length c.args.totals.now c.if-totals-eq0.false, v.place, written_length v, w.place, written_length w, c.requires)

pub write_byte-requires-2 : goal.write_byte-requires-2
write_byte-requires-2 c =
    let u = c.write_text-next.ensures in
    let v = c.write_byte-next.ensures in
    let w = c.write_counts-next.ensures in
    omega (arith, total_some_length c.args.totals.now c.if-totals-eq0.false, u.place, written_length u, v.place, written_length v, w.place, written_length w, c.requires)

pub returns : goal.returns
returns c =
    rw (total_some c.args.totals.now c.if-totals-eq0.false)
    (written_append (written_append (written_append c.write_text-next.ensures c.write_byte-next.ensures) c.write_counts-next.ensures) c.write_byte-2.ensures)
