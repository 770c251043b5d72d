use Rattle.std.specs.Prelude.{◌≡◌}
use Rattle.basics.proofs.Words.{sym, ap, ◌∙◌, List, ℕ, arith, get_or}
use Rattle.rows.specs.Tableau.{counts_of}
use Rattle.rows.proofs.Rows.{zeros_from, row_short, row_long, zero_next, not_zero, zero_end}
use Rattle.rows.proofs.is_sound_row.Goals as goal

pub returns-then-row-lt12 : goal.returns-then-row-lt12
returns-then-row-lt12 c = sym (row_short c.args.row.now c.args.machines (omega arith))

pub returns-then-count-ne0 : goal.returns-then-count-ne0
returns-then-count-ne0 c =
    let row = c.args.row.now in
    let e : c.count.result ≡ get_or (counts_of row) c.loop-machine.machine 0 = c.count.ensures ∙ ap (λ (l : List ℕ). get_or l c.loop-machine.machine 0) c.counts-profile.ensures in
    sym (row_long row c.args.machines (omega arith) ∙ sym c.loop-machine.invariant.1 ∙ not_zero row c.loop-machine.machine (omega arith) (λ z. omega arith))

pub loop-machine-preserved : goal.loop-machine-preserved
loop-machine-preserved c =
    let row = c.args.row.now in
    let e : c.count.result ≡ get_or (counts_of row) c.loop-machine.machine 0 = c.count.ensures ∙ ap (λ (l : List ℕ). get_or l c.loop-machine.machine 0) c.counts-profile.ensures in
    (omega arith, zero_next row c.loop-machine.machine (omega arith) (omega arith) ∙ c.loop-machine.invariant.1)

pub returns : goal.returns
returns c =
    let row = c.args.row.now in
    let e : c.loop-machine.machine ≡ 6 = omega arith in
    sym (row_long row c.args.machines (omega arith) ∙ sym c.loop-machine.invariant.1 ∙ ap (zeros_from row) e ∙ zero_end row)
