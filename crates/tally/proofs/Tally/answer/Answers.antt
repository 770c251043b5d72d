use mathlib.Core.Path.{◌≡◌}
use Prim.Native.Nat.{◌+◌, ◌*◌, ◌<◌}
use native.Mathlib.Omega.{arith}
use lib.ListN.{length}
use Rattle.writing.proofs.Lists.{six_below}
use Rattle.tally.proofs.Tallies.{sums_added, answered_tally}
use borrow.Author.Rules.{rules}
use Rattle.tally.proofs.Tally.answer.Goals as goal

pub returns : goal.returns
returns c =
    let t = c.args.self in
    let six : length t.totals ≡ 6 = search rules in
    let sums = sums_added t c.args.counts six c.plus.ensures.0 c.plus-2.ensures.0 c.plus-3.ensures.0 c.plus-4.ensures.0 c.plus-5.ensures.0 c.plus-6.ensures.0 in
    let p0 : c.plus.result < 65535 * (t.answered + 1) + 1 = omega (arith, c.plus.ensures.1, c.requires.0.small 0) in
    let p1 : c.plus-2.result < 65535 * (t.answered + 1) + 1 = omega (arith, c.plus-2.ensures.1, c.requires.0.small 1) in
    let p2 : c.plus-3.result < 65535 * (t.answered + 1) + 1 = omega (arith, c.plus-3.ensures.1, c.requires.0.small 2) in
    let p3 : c.plus-4.result < 65535 * (t.answered + 1) + 1 = omega (arith, c.plus-4.ensures.1, c.requires.0.small 3) in
    let p4 : c.plus-5.result < 65535 * (t.answered + 1) + 1 = omega (arith, c.plus-5.ensures.1, c.requires.0.small 4) in
    let p5 : c.plus-6.result < 65535 * (t.answered + 1) + 1 = omega (arith, c.plus-6.ensures.1, c.requires.0.small 5) in (
      answered_tally t c.args.counts sums,
      record {
        few = omega (arith, c.requires.1);
        small = λ i. let h = six_below (65535 * (t.answered + 1) + 1) p0 p1 p2 p3 p4 p5 i in omega (arith, h);
      },
    )
