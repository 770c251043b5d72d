use Rattle.basics.proofs.Words.{sym, ◌∙◌, length, eqb-true, eq-eqb, clash}
use Rattle.tight.specs.Laws.Labels.{cell_by_counts, cell_by_sums}
use Rattle.tight.proofs.label_at.Goals as goal

pub counts_cell-requires : goal.counts_cell-requires
counts_cell-requires c =
    (c.requires.0.by_counts (eqb-true (length c.args.sums.now) 0 (sym c.is_empty.ensures ∙ c.if-is_empty.true)), c.requires.1)

pub returns-then-is_empty : goal.returns-then-is_empty
returns-then-is_empty c =
    c.counts_cell.ensures ∙ sym (cell_by_counts _ _ _ (eqb-true (length c.args.sums.now) 0 (sym c.is_empty.ensures ∙ c.if-is_empty.true)))

pub sum_cell-requires : goal.sum_cell-requires
sum_cell-requires c =
    (c.requires.0.by_sums (λ e. clash (eq-eqb (length c.args.sums.now) 0 e) (sym c.is_empty.ensures ∙ c.if-is_empty.false)), c.requires.1)

pub returns : goal.returns
returns c =
    c.sum_cell.ensures ∙ sym (cell_by_sums _ _ _ (λ e. clash (eq-eqb (length c.args.sums.now) 0 e) (sym c.is_empty.ensures ∙ c.if-is_empty.false)))
