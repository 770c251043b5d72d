use Rattle.basics.proofs.Words.{arith}
use Rattle.settling.proofs.OpenCodes.{none_open, chosen_front, chosen_back}
use Rattle.settling.proofs.choose.Goals as goal

pub returns-then-back-eq0 : goal.returns-then-back-eq0
returns-then-back-eq0 c =
    none_open _ c.requires c.if-front-eq0.true c.if-back-eq0.true

pub returns-then-front-eq0 : goal.returns-then-front-eq0
returns-then-front-eq0 c =
    let o = c.choose_in.ensures in
    (omega (arith, o.is, o.small), (chosen_back _ c.requires _ o).found (omega (arith, o.is, o.small)))

pub returns-then-back-eq0-2 : goal.returns-then-back-eq0-2
returns-then-back-eq0-2 c =
    let o = c.choose_in-best.ensures in
    (omega (arith, o.is, o.small), (chosen_front _ c.requires _ o).found (omega (arith, o.is, o.small)))

pub returns-then-is_before : goal.returns-then-is_before
returns-then-is_before c =
    let o = c.choose_in-other.ensures in
    (omega (arith, o.is, o.small), (chosen_back _ c.requires _ o).found (omega (arith, o.is, o.small)))

pub returns : goal.returns
returns c =
    let o = c.choose_in-best.ensures in
    (omega (arith, o.is, o.small), (chosen_front _ c.requires _ o).found (omega (arith, o.is, o.small)))
