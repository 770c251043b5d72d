use Rattle.basics.proofs.Words.{sym}
use Rattle.refusals.proofs.Refusals.{passed_number}
use Rattle.input.proofs.Nodes.{few_sizes}
use Rattle.input.proofs.Readiness.{card_refused, rest_refused, ready}
use Rattle.weights.specs.Weighing.{weighted_refusal}
use Rattle.weights.proofs.checks.check_input.Goals as goal

pub returns-in_err-check : goal.returns-in_err-check
unfolding weighted_refusal
returns-in_err-check c = card_refused _ _ c.check.ensures c.in_err-check.was c.from_residual.ensures.1

pub check_word-requires : goal.check_word-requires
check_word-requires c =
    few_sizes c.args.card.now (passed_number c.in_ok-check.was c.check.ensures) c.grid_of-grid.result c.grid_of-grid.ensures

pub returns-in_err-check_word : goal.returns-in_err-check_word
unfolding weighted_refusal
returns-in_err-check_word c =
    let G = c.grid_of-grid.ensures in
    rest_refused _ _ c.check.ensures c.in_ok-check.was (rw (sym G.machines, sym G.symbols, sym G.size) c.check_word.ensures) c.in_err-check_word.was c.from_residual-in_err-check_word.ensures.1

pub returns : goal.returns
unfolding weighted_refusal
returns c =
    let G = c.grid_of-grid.ensures in
    ready _ _ c.check.ensures c.in_ok-check.was (rw (sym G.machines, sym G.symbols, sym G.size) c.check_word.ensures) c.in_ok-check_word.was G
