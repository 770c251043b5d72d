use Rattle.std.specs.Prelude.{◌≤◌, ◌+◌}
use Rattle.basics.proofs.Words.{sym, ap, ◌∙◌, arith, length}
use Rattle.rows.proofs.Spelling.{rest_same, same_inserted, same_symbol, other_symbol, too_long, same_end}
use Rattle.rows.proofs.spells.Goals as goal
use Rattle.rows.proofs.spells.Goals.{then-symbol-ne-EMPTY+else-word-place+else-symbol-word, else-symbol-ne-EMPTY}

pub returns-then-word-place : goal.returns-then-word-place
returns-then-word-place c =
    sym (sym c.loop-at.invariant.3 ∙ too_long c.args.candidate.now c.loop-at.at (omega arith) c.args.word.now c.loop-at.place (λ z. omega arith) (omega arith))

pub returns-then-symbol-word : goal.returns-then-symbol-word
returns-then-symbol-word c =
    sym (sym c.loop-at.invariant.3 ∙ other_symbol c.args.candidate.now c.loop-at.at (omega arith) c.args.word.now c.loop-at.place (λ z. omega arith) (omega arith) (λ z. omega arith))

pub loop-at-preserved : goal.loop-at-preserved
loop-at-preserved c =
    let b : c.loop-at.at + 2 ≤ length c.args.candidate.now = omega arith in
    elim c.if-symbol-ne-EMPTY.branch [
      | then-symbol-ne-EMPTY+else-word-place+else-symbol-word w ↦ (
        omega arith,
        omega arith,
        omega arith,
        ap (rest_same c.args.candidate.now c.args.word.now (c.loop-at.at + 2)) w.place-is
            ∙ same_symbol c.args.candidate.now c.loop-at.at b c.args.word.now c.loop-at.place (λ z. omega arith) (omega arith) (omega arith) ∙ c.loop-at.invariant.3,
      )
      | else-symbol-ne-EMPTY w ↦ (
        omega arith,
        omega arith,
        omega arith,
        ap (rest_same c.args.candidate.now c.args.word.now (c.loop-at.at + 2)) w.place-is
            ∙ same_inserted c.args.candidate.now c.loop-at.at b c.args.word.now c.loop-at.place (omega arith) ∙ c.loop-at.invariant.3,
      )
    ]

pub returns : goal.returns
returns c =
    sym (same_end c.args.candidate.now c.args.word.now c.loop-at.at c.loop-at.place (omega arith) (omega arith)) ∙ c.loop-at.invariant.3
