use Rattle.basics.proofs.Words.{ap, sym, ◌∙◌, arith, lit<, pairwise, rules, every_start, every_next, every_at}
use Rattle.std.proofs.lemmas.Result.{err_from_is_err_and}
use Rattle.refusals.specs.Refusals.{refuse}
use Rattle.machine.specs.Part.{state_count, arcs_of}
use Rattle.machine.specs.Accepted.{shape_facts}
use Rattle.part_check.specs.Clashes.{clash_free_from}
use Rattle.refusals.proofs.Refusals.{was_true, was_false}
use Rattle.part_check.proofs.Clashing.{state_clash, states_free}
use Rattle.part_check.proofs.clashes.check_clashes.Goals as goal

pub bounds-part-0 : goal.bounds-part-0
bounds-part-0 c = omega (arith, shape_facts _ c.requires.0)

pub loop-from-init : goal.loop-from-init
loop-from-init c = every_start (λ s. pairwise (clash_free_from s) (arcs_of _))

pub returns-in_err-check_state : goal.returns-in_err-check_state
returns-in_err-check_state c =
    let l = arcs_of c.args.part.now in
    let e = c.check_state.ensures in
    let f = was_false c.in_err-check_state.was 5 _ e in
    let p = err_from_is_err_and c.from_residual.result c.from_residual.ensures.1 in
    rw (p.1, p.2) (c.in_err-check_state.ensures ∙ ap (refuse 5) (f ∙ sym (state_clash c.loop-from.from l f)))

pub loop-from-preserved : goal.loop-from-preserved
loop-from-preserved c =
    every_next (λ s. pairwise (clash_free_from s) (arcs_of c.args.part.now)) c.loop-from.from c.loop-from.invariant (was_true c.in_ok-check_state.was 5 _ (lit< tt) c.check_state.ensures)

pub returns : goal.returns
returns c =
    let part = c.args.part.now in
    ap (refuse 5) (sym (states_free (state_count part) (arcs_of part) c.requires.1 (λ n h. every_at (λ s. pairwise (clash_free_from s) (arcs_of part)) c.loop-from.from c.loop-from.invariant n (omega arith))))
