use Rattle.std.specs.Prelude.{◌≡◌, ◌<◌}
use Rattle.basics.proofs.Words.{sym, ap, ◌∙◌, List, ℕ, arith}
use Rattle.machine.specs.Part.{machine_of}
use Rattle.card.specs.Layout.{machine_count, symbol_count}
use Rattle.card.specs.Accepted.{accepted}
use Rattle.refusals.proofs.Refusals.{passes_with, refuses_with}
use Rattle.candidate.specs.Candidates.{pairs_of, marks_of}
use Rattle.candidate.specs.Evaluating.{marked}
use Rattle.candidate.specs.Laws.Pairs.{sound_shape}
use Rattle.candidate.proofs.Scoring.{scored_start, not_complete, all_complete, its_profile}
use Rattle.candidate.proofs.score.Goals as goal

pub loop-machine-init : goal.loop-machine-init
loop-machine-init c =
    (omega (arith, c.machine_count-machines.ensures, (accepted c.args.card.now c.requires.0).head), scored_start c.args.card.now (pairs_of c.args.candidate.now))

pub run-requires : goal.run-requires
run-requires c =
    let l = c.args.card.now in
    let a = accepted l c.requires.0 in
    let m : c.loop-machine.machine < machine_count l = omega (arith, c.machine_count-machines.ensures) in
    let h = sound_shape (symbol_count l) c.args.candidate.now c.requires.1 in
    record { symbols = symbol_count l; few = omega (arith, a.head); accepted = rw c.part.ensures (a.part c.loop-machine.machine m); even = h.0; short = h.1; sound = h.2 }

pub returns-in_default : goal.returns-in_default
returns-in_default c =
    let l = c.args.card.now in
    let f = not_complete l (pairs_of c.args.candidate.now) c.loop-machine.machine (omega (arith, c.machine_count-machines.ensures))
    (ap (λ (part : List ℕ). marks_of (pairs_of c.args.candidate.now) (machine_of part)) (sym c.part.ensures)
    ∙ sym c.run.ensures ∙ ap marked c.in_default.is) in
    record { checked = sym (refuses_with 14 f); profile = tt }

pub returns : goal.returns
returns c =
    let l = c.args.card.now in
    let e : c.loop-machine.machine ≡ machine_count l = omega (arith, c.machine_count-machines.ensures) in
    let S = rw e at c.loop-machine.invariant.1 in
    record {
      checked = sym (passes_with 14 (all_complete l (pairs_of c.args.candidate.now) c.loop-machine.counts S));
      profile = its_profile l (pairs_of c.args.candidate.now) c.loop-machine.counts S (omega arith);
    }
