use Rattle.basics.proofs.Words.{sym, ap, ◌∙◌, arith}
use Rattle.refusals.proofs.Refusals.{passes_with, refuses_with}
use Rattle.finder.specs.Finder.{sound_condition}
use Rattle.finder.proofs.Pairs.{odd_list, long_list, listed_pairs, pair_next, pair_fails, pair_end}
use Rattle.finder.proofs.check_conditions.Goals as goal

pub returns-then-conditions-ne0 : goal.returns-then-conditions-ne0
returns-then-conditions-ne0 c =
    sym (refuses_with 15 (odd_list c.args.machines c.args.conditions.now c.if-conditions-ne0.true))

pub returns-then-conditions-gt128 : goal.returns-then-conditions-gt128
returns-then-conditions-gt128 c =
    sym (refuses_with 15 (long_list c.args.machines c.args.conditions.now c.if-conditions-ne0.false c.if-conditions-gt128.true))

pub returns-then-not-sound : goal.returns-then-not-sound
returns-then-not-sound c =
    let e = c.if-conditions-ne0.false in
    let unsound = ap (sound_condition c.args.machines) (sym c.condition_at.ensures) ∙ sym c.sound.ensures ∙ c.if-not-sound.true in
    sym (refuses_with 15 (listed_pairs c.args.machines c.args.conditions.now e c.if-conditions-gt128.false ∙ pair_fails c.loop-i.invariant e c.loop-i-test.true unsound))

pub loop-i-preserved : goal.loop-i-preserved
loop-i-preserved c =
    pair_next c.loop-i.invariant c.if-conditions-ne0.false c.loop-i-test.true (ap (sound_condition c.args.machines) (sym c.condition_at.ensures) ∙ sym c.sound.ensures ∙ c.if-not-sound.false)

pub returns : goal.returns
returns c =
    let e = c.if-conditions-ne0.false in
    sym (passes_with 15 (listed_pairs c.args.machines c.args.conditions.now e c.if-conditions-gt128.false ∙ pair_end c.loop-i.invariant e c.loop-i-test.false))
