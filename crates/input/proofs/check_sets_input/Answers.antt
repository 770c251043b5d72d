use Rattle.basics.proofs.Words.{sym, ◌∙◌}
use Rattle.refusals.proofs.Refusals.{passed_number}
use Rattle.product.specs.OptimizingSets.{sets_input_refusal}
use Rattle.product.specs.Laws.SymbolSets.{accepted_sets}
use Rattle.input.proofs.Nodes.{few_sizes}
use Rattle.input.proofs.Readiness.{card_refused, rest_refused, ready}
use Rattle.input.proofs.check_sets_input.Goals as goal

pub returns-in_err-check : goal.returns-in_err-check
unfolding sets_input_refusal
returns-in_err-check c = card_refused _ _ c.check.ensures c.in_err-check.was c.from_residual.ensures.1

pub check_sets-checked-requires : goal.check_sets-checked-requires
check_sets-checked-requires c =
    (few_sizes c.args.card.now (passed_number c.in_ok-check.was c.check.ensures) c.grid_of-grid.result c.grid_of-grid.ensures).symbols

pub check_rest-requires : goal.check_rest-requires
check_rest-requires c = (
  few_sizes c.args.card.now (passed_number c.in_ok-check.was c.check.ensures) c.grid_of-grid.result c.grid_of-grid.ensures,
  λ z. (accepted_sets _ _ (sym c.check_sets-checked.ensures ∙ z)).short,
)

pub returns-in_err-check_rest : goal.returns-in_err-check_rest
unfolding sets_input_refusal
returns-in_err-check_rest c =
    let G = c.grid_of-grid.ensures in
    rest_refused _ _ c.check.ensures c.in_ok-check.was (rw (sym G.machines, sym G.symbols, sym G.size, sym c.check_sets-checked.ensures) c.check_rest.ensures) c.in_err-check_rest.was c.from_residual-in_err-check_rest.ensures.1

pub returns : goal.returns
unfolding sets_input_refusal
returns c =
    let G = c.grid_of-grid.ensures in
    ready _ _ c.check.ensures c.in_ok-check.was (rw (sym G.machines, sym G.symbols, sym G.size, sym c.check_sets-checked.ensures) c.check_rest.ensures) c.in_ok-check_rest.was G
