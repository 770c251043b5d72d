use Rattle.std.specs.Prelude.{◌≡◌}
use Rattle.basics.proofs.Words.{arith}
use Rattle.stage.proofs.Marks.{first_marks, second_marks, third_marks, fourth_marks, fifth_marks, sixth_marks}
use Rattle.stage.proofs.marks_at.Goals as goal

pub returns-then-place-eq0 : goal.returns-then-place-eq0
returns-then-place-eq0 c = first_marks _ c.if-place-eq0.true

pub returns-then-place-eq1 : goal.returns-then-place-eq1
returns-then-place-eq1 c = second_marks _ c.if-place-eq1.true

pub returns-then-place-eq2 : goal.returns-then-place-eq2
returns-then-place-eq2 c = third_marks _ c.if-place-eq2.true

pub returns-then-place-eq3 : goal.returns-then-place-eq3
returns-then-place-eq3 c = fourth_marks _ c.if-place-eq3.true

pub returns-then-place-eq4 : goal.returns-then-place-eq4
returns-then-place-eq4 c = fifth_marks _ c.if-place-eq4.true

pub returns : goal.returns
returns c =
    sixth_marks _ (let q : c.args.place ≡ 5 = omega arith in q)
