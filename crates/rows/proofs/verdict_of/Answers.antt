use Rattle.std.specs.Prelude.{◌≡◌}
use Rattle.basics.proofs.Words.{sym, ap, ◌∙◌, Bool, List, ℕ, arith}
use Rattle.rows.specs.Tableau.{row_count, claimed_row, row_of}
use Rattle.rows.proofs.Verdicts.{first_before, none_start, none_next, claim_wins, later_wins, no_row_wins}
use Rattle.rows.proofs.verdict_of.Invariants.{wins}
use Rattle.rows.proofs.verdict_of.Goals as goal

-- whether the claimed row wins, by what was found of it
claim : (counts tableau : List ℕ) {claimed : ℕ} {told b : Bool} → told ≡ wins counts (row_of tableau claimed) → claimed ≡ claimed_row tableau → told ≡ b → wins counts (row_of tableau (claimed_row tableau)) ≡ b
claim counts tableau e is t = sym (e ∙ ap (λ (n : ℕ). wins counts (row_of tableau n)) is) ∙ t

pub returns-then-has_profile : goal.returns-then-has_profile
returns-then-has_profile c =
    sym (claim_wins (wins c.args.best.counts) c.args.tableau.now (claim c.args.best.counts c.args.tableau.now c.has_profile.ensures c.index-claimed.ensures.0 c.if-has_profile.true))

pub loop-row-init : goal.loop-row-init
loop-row-init c = (omega arith, none_start (wins c.args.best.counts) c.args.tableau.now)

pub returns-then-has_profile-2 : goal.returns-then-has_profile-2
returns-then-has_profile-2 c =
    sym (later_wins (wins c.args.best.counts) c.args.tableau.now (claim c.args.best.counts c.args.tableau.now c.has_profile.ensures c.index-claimed.ensures.0 c.if-has_profile.false)
    c.loop-row.row (omega arith) c.loop-row.invariant.1 (sym c.has_profile-in-loop-row.ensures ∙ c.if-has_profile-2.true))

pub loop-row-preserved : goal.loop-row-preserved
loop-row-preserved c =
    (omega arith, none_next (wins c.args.best.counts) c.args.tableau.now c.loop-row.row c.loop-row.invariant.1 (sym c.has_profile-in-loop-row.ensures ∙ c.if-has_profile-2.false))

pub returns : goal.returns
returns c =
    let e : c.loop-row.row ≡ row_count c.args.tableau.now = omega arith in
    sym (no_row_wins (wins c.args.best.counts) c.args.tableau.now (claim c.args.best.counts c.args.tableau.now c.has_profile.ensures c.index-claimed.ensures.0 c.if-has_profile.false)
    (ap (first_before (wins c.args.best.counts) c.args.tableau.now) (sym e) ∙ c.loop-row.invariant.1))
