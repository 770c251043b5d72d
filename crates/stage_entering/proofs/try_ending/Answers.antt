use Rattle.std.specs.Prelude.{◌<◌}
use Rattle.basics.proofs.Words.{refl, sym, ◌∙◌, ap, subst, some, ℕ, arith}
use Rattle.stage_entering.specs.Entering.{not_final, dropped_ending, lowered_ending}
use Rattle.stage_entering.proofs.Lanes.{ending_none, ending_some, marks_small}
use Rattle.stage_entering.proofs.try_ending.Goals as goal

pub returns-then-ending-ge-NOWHERE : goal.returns-then-ending-ge-NOWHERE
returns-then-ending-ge-NOWHERE c = not_final (ending_none _ _ (omega (arith, c.if-ending-ge-NOWHERE.true))) refl

pub returns-then-not-ending_left : goal.returns-then-not-ending_left
returns-then-not-ending_left c =
    dropped_ending c.marks_of-marks.result (ending_some _ _ (omega (arith, c.if-ending-ge-NOWHERE.false)) ∙ ap some (sym c.marks_of-marks.ensures)) _ c.ending_left.ensures c.if-not-ending_left.true refl

pub returns : goal.returns
returns c =
    let at_marks_of = c.marks_of-marks in
    lowered_ending at_marks_of.result (ending_some _ _ (omega (arith, c.if-ending-ge-NOWHERE.false)) ∙ ap some (sym at_marks_of.ensures)) _ c.ending_left.ensures c.if-not-ending_left.false _ c.marks_at.ensures _ c.lower.ensures
