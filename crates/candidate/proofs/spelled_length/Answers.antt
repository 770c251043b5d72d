use Rattle.std.specs.Prelude.{◌+◌}
use Rattle.basics.proofs.Words.{sym, ◌∙◌, arith}
use Rattle.candidate.specs.Laws.Pairs.{spelled_next, spelled_same, spelled_end}
use Rattle.candidate.proofs.spelled_length.Goals.{then-not-inserts_at, else-not-inserts_at}
use Rattle.candidate.proofs.spelled_length.Goals as goal

pub loop-at-preserved : goal.loop-at-preserved
loop-at-preserved c =
    let l = c.args.candidate.now in
    let r = c.inserts_at.ensures in
    (elim c.if-not-inserts_at.branch [
      | then-not-inserts_at w ↦ (
        omega arith,
        omega arith,
        omega arith,
        omega (arith, spelled_next l c.loop-at.at (omega arith) (sym r ∙ w.if-not-inserts_at.true)),
      )
      | else-not-inserts_at w ↦ (
        omega arith,
        omega arith,
        omega arith,
        omega (arith, spelled_same l c.loop-at.at (omega arith) (sym r ∙ w.if-not-inserts_at.false)),
      )
    ])

pub returns : goal.returns
returns c =
    omega (arith, spelled_end c.args.candidate.now c.loop-at.at c.loop-at-test.false)

pub returns-after-not-inserts_at : goal.returns-after-not-inserts_at
returns-after-not-inserts_at c =
    let l = c.args.candidate.now in
    let r = c.inserts_at.ensures in
    let none = spelled_end l (c.loop-at.at + 2) (omega arith) in
    (elim c.if-not-inserts_at.branch [
      | then-not-inserts_at w ↦ omega (arith, none, spelled_next l c.loop-at.at (omega arith) (sym r ∙ w.if-not-inserts_at.true))
      | else-not-inserts_at w ↦ omega (arith, none, spelled_same l c.loop-at.at (omega arith) (sym r ∙ w.if-not-inserts_at.false))
    ])
