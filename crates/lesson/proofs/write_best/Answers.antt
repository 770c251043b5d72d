use Rattle.std.proofs.Common.{Result}
use Rattle.basics.proofs.Words.{refl, ap, sym, ◌∙◌, ℕ, length, length-replicate}
use Rattle.refusals.specs.declared.Refusal.{Refusal}
use Rattle.candidate.specs.declared.Evaluated.{Evaluated}
use Rattle.candidate.specs.declared.Evaluation.{Evaluation}
use Rattle.candidate.specs.Evaluating.{as_evaluation}
use Rattle.writing.specs.Buffers.{at_front}
use Rattle.writing.specs.Writing.{line_of}
use Rattle.lesson.specs.Tally.{counts_of}
use Rattle.lesson.proofs.Replies.{prints, best_line_lem, best_counts_lem, counts_there, counts_missing}
use Rattle.lesson.proofs.write_best.Goals as goal

pub returns-in-Ok-clause-text : goal.returns-in-Ok-clause-text
returns-in-Ok-clause-text c =
    let o = c.optimize-best.ensures in
    let w = c.write_answer-size.ensures in
    prints
    (best_line_lem c.args.card.now c.args.ranking.now c.args.word.now c.machine_count.ensures o.result o.answer_slice (length-replicate {A = ℕ} 25600 0) (length-replicate {A = ℕ} 25600 0) (length-replicate {A = ℕ} 6398 0) refl)
    (w.2 ∙ ap (λ (e : Evaluation). length (line_of c.machine_count.result e c.optimize-best.new.answer)) w.1)
    (w.3 ∙ ap (λ (e : Evaluation). at_front (line_of c.machine_count.result e c.optimize-best.new.answer) c.args.out.now) w.1)
    c.write_answer-size.auto.out

pub returns-in-Ok-clause-counts : goal.returns-in-Ok-clause-counts
returns-in-Ok-clause-counts c =
    counts_there c.in-Ok.evaluated
    ∙ ap (λ (b : Result Evaluated Refusal). counts_of (as_evaluation b)) (sym c.in-Ok.is)
    ∙ best_counts_lem c.args.card.now c.args.ranking.now c.args.word.now c.optimize-best.ensures.result (length-replicate {A = ℕ} 25600 0) (length-replicate {A = ℕ} 6398 0)

pub returns-in-Err-clause-text : goal.returns-in-Err-clause-text
returns-in-Err-clause-text c =
    let o = c.optimize-best.ensures in
    let w = c.write_answer-size.ensures in
    prints
    (best_line_lem c.args.card.now c.args.ranking.now c.args.word.now c.machine_count.ensures o.result o.answer_slice (length-replicate {A = ℕ} 25600 0) (length-replicate {A = ℕ} 25600 0) (length-replicate {A = ℕ} 6398 0) refl)
    (w.2 ∙ ap (λ (e : Evaluation). length (line_of c.machine_count.result e c.optimize-best.new.answer)) w.1)
    (w.3 ∙ ap (λ (e : Evaluation). at_front (line_of c.machine_count.result e c.optimize-best.new.answer) c.args.out.now) w.1)
    c.write_answer-size.auto.out

pub returns-in-Err-clause-counts : goal.returns-in-Err-clause-counts
returns-in-Err-clause-counts c =
    counts_missing c.in-Err.field-0
    ∙ ap (λ (b : Result Evaluated Refusal). counts_of (as_evaluation b)) (sym c.in-Err.is)
    ∙ best_counts_lem c.args.card.now c.args.ranking.now c.args.word.now c.optimize-best.ensures.result (length-replicate {A = ℕ} 25600 0) (length-replicate {A = ℕ} 6398 0)
