use Rattle.basics.proofs.Words.{sym, ap, ◌∙◌, ℕ, arith}
use Rattle.machine.specs.Part.{state_bytes, ending_byte}
use Rattle.joined.specs.JoinedMachine.{ends_free}
use Rattle.joined.proofs.Rest.{all_go_on, all_stop, all_end}
use Rattle.joined.proofs.Parts.{states_length, costs_marks, costs_none}
use Rattle.joined.proofs.endings_are_free.Goals as goal

pub returns-then-state_byte-gt1 : goal.returns-then-state_byte-gt1
returns-then-state_byte-gt1 c =
    let part = c.args.part.now in
    all_stop (λ (b : ℕ). ends_free (ending_byte b)) (state_bytes part) c.loop-i.i _ c.loop-i.invariant.2 0 (omega (arith, states_length part c.requires))
    (ap (λ (b : ℕ). ends_free (ending_byte b)) (sym c.state_byte.ensures) ∙ costs_marks c.state_byte.result (omega (arith, c.if-state_byte-gt1.true)))

pub loop-i-preserved : goal.loop-i-preserved
loop-i-preserved c =
    let part = c.args.part.now in (
      c.loop-i.invariant.0,
      omega arith,
      all_go_on (λ (b : ℕ). ends_free (ending_byte b)) (state_bytes part) c.loop-i.i _ c.loop-i.invariant.2 0 (omega (arith, states_length part c.requires))
          (ap (λ (b : ℕ). ends_free (ending_byte b)) (sym c.state_byte.ensures) ∙ costs_none c.state_byte.result (omega (arith, c.if-state_byte-gt1.false))),
    )

pub returns : goal.returns
returns c =
    let part = c.args.part.now in
    all_end (λ (b : ℕ). ends_free (ending_byte b)) (state_bytes part) c.loop-i.i _ c.loop-i.invariant.2 (omega (arith, states_length part c.requires))
