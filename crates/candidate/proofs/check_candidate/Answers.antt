use Rattle.std.specs.Prelude.{◌+◌}
use Rattle.basics.proofs.Words.{sym, ◌∙◌, arith, all_none, all_next, all_fails}
use Rattle.refusals.proofs.Refusals.{passes_with, refuses_with}
use Rattle.candidate.specs.Evaluating.{sound_pair}
use Rattle.candidate.specs.Laws.Pairs.{pairs_next, pairs_end, odd_refused, long_refused, sound_is}
use Rattle.candidate.proofs.check_candidate.Goals as goal

pub returns-then-candidate-ne0 : goal.returns-then-candidate-ne0
returns-then-candidate-ne0 c =
    sym (refuses_with 13 (odd_refused c.args.symbols c.args.candidate.now c.if-candidate-ne0.true))

pub returns-then-candidate-gt6398 : goal.returns-then-candidate-gt6398
returns-then-candidate-gt6398 c =
    sym (refuses_with 13 (long_refused c.args.symbols c.args.candidate.now (omega arith) (omega arith)))

pub returns-then-not-is_sound_at : goal.returns-then-not-is_sound_at
returns-then-not-is_sound_at c =
    let l = c.args.candidate.now in
    sym (refuses_with 13 (sound_is c.args.symbols l (omega arith) (omega arith)
    ∙ sym c.loop-at.invariant.2
    ∙ all_fails (sound_pair c.args.symbols) (pairs_next l c.loop-at.at (omega arith)) (sym c.is_sound_at.ensures ∙ c.if-not-is_sound_at.true)))

pub loop-at-preserved : goal.loop-at-preserved
loop-at-preserved c =
    let l = c.args.candidate.now in (
      omega arith,
      omega arith,
      all_next (sound_pair c.args.symbols) (pairs_next l c.loop-at.at (omega arith)) (sym c.is_sound_at.ensures ∙ c.if-not-is_sound_at.false)
          ∙ c.loop-at.invariant.2,
    )

pub returns-else-not-is_sound_at : goal.returns-else-not-is_sound_at
returns-else-not-is_sound_at c =
    let l = c.args.candidate.now in
    sym (passes_with 13 (sound_is c.args.symbols l (omega arith) (omega arith)
    ∙ sym c.loop-at.invariant.2
    ∙ sym (all_next (sound_pair c.args.symbols) (pairs_next l c.loop-at.at (omega arith)) (sym c.is_sound_at.ensures ∙ c.if-not-is_sound_at.false))
    ∙ all_none (sound_pair c.args.symbols) (pairs_end l (c.loop-at.at + 2) (omega arith))))

pub returns-else-candidate-gt6398 : goal.returns-else-candidate-gt6398
returns-else-candidate-gt6398 c =
    let l = c.args.candidate.now in
    sym (passes_with 13 (sound_is c.args.symbols l (omega arith) (omega arith)
    ∙ sym c.loop-at.invariant.2
    ∙ all_none (sound_pair c.args.symbols) (pairs_end l c.loop-at.at (omega arith))))
