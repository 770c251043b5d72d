use Rattle.basics.proofs.Words.{sym, ◌∙◌, lit<}
use Rattle.refusals.proofs.Refusals.{passed, passed_number}
use Rattle.product.specs.Optimizing.{sound_word, input_refusal}
use Rattle.input.specs.AcceptedInput.{short_word}
use Rattle.input.proofs.Nodes.{few_sizes}
use Rattle.input.proofs.Readiness.{card_refused, rest_refused, ready}
use Rattle.input.proofs.check_input.Goals as goal

pub returns-in_err-check : goal.returns-in_err-check
unfolding input_refusal
returns-in_err-check c = card_refused _ _ c.check.ensures c.in_err-check.was c.from_residual.ensures.1

pub check_rest-requires : goal.check_rest-requires
check_rest-requires c = (
  few_sizes c.args.card.now (passed_number c.in_ok-check.was c.check.ensures) c.grid_of-grid.result c.grid_of-grid.ensures,
  λ z. short_word _ _ (passed 8 (sound_word c.grid_of-grid.result.symbols c.args.word.now) (lit< tt) (sym c.check_word-checked.ensures ∙ z)),
)

pub returns-in_err-check_rest : goal.returns-in_err-check_rest
unfolding input_refusal
returns-in_err-check_rest c =
    let G = c.grid_of-grid.ensures in
    rest_refused _ _ c.check.ensures c.in_ok-check.was (rw (sym G.machines, sym G.symbols, sym G.size, sym c.check_word-checked.ensures) c.check_rest.ensures) c.in_err-check_rest.was c.from_residual-in_err-check_rest.ensures.1

pub returns : goal.returns
unfolding input_refusal
returns c =
    let G = c.grid_of-grid.ensures in
    ready _ _ c.check.ensures c.in_ok-check.was (rw (sym G.machines, sym G.symbols, sym G.size, sym c.check_word-checked.ensures) c.check_rest.ensures) c.in_ok-check_rest.was G
