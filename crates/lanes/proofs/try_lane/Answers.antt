use Rattle.basics.proofs.Words.{sym, arith}
use Rattle.lanes.specs.Trying.{way_of}
use Rattle.lanes.specs.Laws.Least.{keeps_high, keeps_low, falls_high, falls_low}
use Rattle.lanes.proofs.try_lane.Goals as goal

pub returns-then-least-way : goal.returns-then-least-way
returns-then-least-way c =
    let w = way_of c.args.next.now c.args.high.now c.args.low.now c.args.a c.args.b in sym (keeps_high w c.args.label c.if-least-way.true)

pub returns-then-way-least : goal.returns-then-way-least
returns-then-way-least c =
    let w = way_of c.args.next.now c.args.high.now c.args.low.now c.args.a c.args.b in sym (falls_high w c.args.label (omega (arith, c.if-way-least.true)))

pub returns-then-rest-lowest : goal.returns-then-rest-lowest
returns-then-rest-lowest c =
    let w = way_of c.args.next.now c.args.high.now c.args.low.now c.args.a c.args.b in sym (falls_low w c.args.label (omega (arith, c.if-way-least.false, c.if-least-way.false)) c.if-rest-lowest.true)

pub returns : goal.returns
returns c =
    let w = way_of c.args.next.now c.args.high.now c.args.low.now c.args.a c.args.b in sym (keeps_low w c.args.label (omega (arith, c.if-way-least.false, c.if-least-way.false)) c.if-rest-lowest.false)
