use Rattle.basics.proofs.Words.{arith}
use Rattle.settling.proofs.OpenCodes.{chosen_none}
use Rattle.stage_settling.proofs.Spreading.{front_in, back_in, open_front, open_back}
use Rattle.stage_settling.proofs.choose.Goals as goal

pub returns-then-back-eq0 : goal.returns-then-back-eq0
returns-then-back-eq0 c =
    (chosen_none _ c.requires.0.bits c.if-front-eq0.true c.if-back-eq0.true).none_open (omega arith)

pub choose_in-requires : goal.choose_in-requires
choose_in-requires c =
    (omega (arith, c.if-back-eq0.false), back_in c.requires.0, c.requires.1)

pub returns-then-front-eq0 : goal.returns-then-front-eq0
returns-then-front-eq0 c = open_back _ c.requires.0.bits c.choose_in.ensures

pub choose_in-best-requires : goal.choose_in-best-requires
choose_in-best-requires c =
    (omega (arith, c.if-front-eq0.false), front_in c.requires.0, c.requires.1)

pub returns-then-back-eq0-2 : goal.returns-then-back-eq0-2
returns-then-back-eq0-2 c = open_front _ c.requires.0.bits c.choose_in-best.ensures

pub choose_in-other-requires : goal.choose_in-other-requires
choose_in-other-requires c =
    (omega (arith, c.if-back-eq0-2.false), back_in c.requires.0, c.requires.1)

pub is_before-requires : goal.is_before-requires
is_before-requires c =
    let o = c.choose_in-other.ensures in
    let p = c.choose_in-best.ensures in
    (record { node = omega (arith, o.is, (back_in c.requires.0).there o.bit o.small o.has); stage = c.requires.1 }, omega (arith, p.is, (front_in c.requires.0).there p.bit p.small p.has))

pub returns-then-is_before : goal.returns-then-is_before
returns-then-is_before c = open_back _ c.requires.0.bits c.choose_in-other.ensures

pub returns : goal.returns
returns c = open_front _ c.requires.0.bits c.choose_in-best.ensures
