use Rattle.std.specs.Prelude.{◌≡◌, ◌≤◌, ◌<◌, ◌+◌, ◌*◌, ◌%◌}
use Rattle.basics.proofs.Words.{sym, ap, ◌∙◌, List, Option, some, none, ℕ, arith, length, drop}
use Rattle.machine.specs.declared.Pair.{Pair}
use Rattle.machine.specs.Machine.{Machine, step_of, stepped, ending_of, ended}
use Rattle.machine.specs.Part.{machine_of}
use Rattle.machine.specs.Accepted.{accepted}
use Rattle.machine.specs.Steps.{step_bounds}
use Rattle.candidate.specs.Evaluating.{sound_pair}
use Rattle.candidate.specs.Candidates.{pair_at, pairs_of, add_marks, marks_from, marks_of}
use Rattle.candidate.specs.Laws.Pairs.{pairs_next, pairs_end, pair_here, pairs_after, sound_facts}
use Rattle.candidate.proofs.Running.{marks_next, marks_stuck, marks_end}
use Rattle.candidate.proofs.run.Goals.{else-loop-at-test, then-loop-at-test+in_ok-next+else-at-end-at-gt2}
use Rattle.candidate.proofs.run.Goals as goal

-- the numbers of a pair more
two_more : (at n : ℕ) → at % 2 ≡ 0 → n % 2 ≡ 0 → at < n → at + 2 ≤ n
two_more at n e f h = omega arith

still_even : (at : ℕ) → at % 2 ≡ 0 → (at + 2) % 2 ≡ 0
still_even at e = omega arith

marks_more : (marks at more : ℕ) → 2 * marks ≤ 15 * at → more ≤ 15 → 2 * (marks + more) ≤ 15 * (at + 2)
marks_more marks at more h m = omega arith

below : (a b S : ℕ) → a ≡ b → b ≤ S → S < 64 → a < 64
below a b S e h k = omega arith

-- the loop ends at its test, or behind the last pair
module _ (m : Machine) (l : List ℕ) (at s marks : ℕ) (left : add_marks marks (marks_from m s (pairs_of (drop at l))) ≡ marks_of (pairs_of l) m) where
  ended_at_test : length l ≤ at → add_marks marks (ending_of m s) ≡ marks_of (pairs_of l) m
  ended_at_test h = sym (marks_end m s marks (pairs_end l at h)) ∙ left

  ended_behind : {t k : ℕ} → at + 2 ≤ length l → length l ≤ at + 2 → step_of m s (pair_at l at) ≡ some (t, k) → add_marks (marks + k) (ending_of m t) ≡ marks_of (pairs_of l) m
  ended_behind {t} {k} here h moved = sym (marks_end m t (marks + k) (pairs_end l (at + 2) h)) ∙ marks_next m s marks (pairs_next l at here) moved ∙ left

pub step-requires : goal.step-requires
step-requires c =
    let S = c.requires.symbols in
    let l = c.args.candidate.now in
    let here = two_more c.loop-at.at (length l) c.loop-at.invariant.0 c.requires.even c.loop-at-test.true in
    let p = pair_at l c.loop-at.at in
    let w = sound_facts S p (pair_here (sound_pair S) l c.loop-at.at here (c.loop-at.invariant.3 S c.requires.sound)) in
    let q = c.pair_at.result in
    let e = c.pair_at.ensures in (
      (accepted S c.args.part.now c.requires.accepted).shape,
      below q.input p.input S (ap (λ (p : Pair). p.input) e) w.0 c.requires.few,
      below q.output p.output S (ap (λ (p : Pair). p.output) e) w.1 c.requires.few,
    )

pub returns-in_err-next : goal.returns-in_err-next
returns-in_err-next c =
    let m = machine_of c.args.part.now in
    let l = c.args.candidate.now in
    let here = two_more c.loop-at.at (length l) c.loop-at.invariant.0 c.requires.even c.loop-at-test.true in
    let stuck : step_of m c.loop-at.position.state (pair_at l c.loop-at.at) ≡ none =
    ap (step_of m c.loop-at.position.state) (sym c.pair_at.ensures) ∙ sym c.step.ensures ∙ ap stepped c.in_err-next.was in
    rw c.from_residual.ensures (sym (marks_stuck m c.loop-at.position.state c.loop-at.marks (pairs_next l c.loop-at.at here) stuck) ∙ c.loop-at.invariant.4)

pub loop-at-preserved : goal.loop-at-preserved
loop-at-preserved c =
    let m = machine_of c.args.part.now in
    let l = c.args.candidate.now in
    let here = two_more c.loop-at.at (length l) c.loop-at.invariant.0 c.requires.even c.loop-at-test.true in
    let moved : step_of m c.loop-at.position.state (pair_at l c.loop-at.at) ≡ some (c.in_ok-next.next.state, c.from-marks.result) =
    ap (step_of m c.loop-at.position.state) (sym c.pair_at.ensures) ∙ sym c.step.ensures ∙ ap stepped c.in_ok-next.was
    ∙ ap {B = Option (ℕ × ℕ)} (λ (n : ℕ). some (c.in_ok-next.next.state, n)) (sym c.from-marks.ensures) in
    let few : c.from-marks.result ≤ 15 = (step_bounds c.requires.symbols c.args.part.now c.requires.accepted _ _ _ moved).marks in (
      still_even c.loop-at.at c.loop-at.invariant.0,
      here,
      marks_more c.loop-at.marks c.loop-at.at c.from-marks.result c.loop-at.invariant.2 few,
      (λ S h. pairs_after (sound_pair S) l c.loop-at.at here (c.loop-at.invariant.3 S h)),
      marks_next m c.loop-at.position.state c.loop-at.marks (pairs_next l c.loop-at.at here) moved ∙ c.loop-at.invariant.4,
    )

pub ending-requires : goal.ending-requires
ending-requires c = (accepted c.requires.symbols c.args.part.now c.requires.accepted).shape

pub returns-in_err-more : goal.returns-in_err-more
returns-in_err-more c =
    let m = machine_of c.args.part.now in
    let l = c.args.candidate.now in
    let at = c.loop-at.at in
    let e : ending_of m c.loop-at-test.position.state ≡ none = sym c.ending.ensures ∙ ap ended c.in_err-more.was in
    let done : add_marks c.loop-at-test.marks (ending_of m c.loop-at-test.position.state) ≡ marks_of (pairs_of l) m = (elim c.loop-at-test.branch [
      | else-loop-at-test w ↦ rw (w.position-is, w.marks-is) (ended_at_test m l at c.loop-at.position.state c.loop-at.marks c.loop-at.invariant.4 w.loop-at-test.false)
      | then-loop-at-test+in_ok-next+else-at-end-at-gt2 w ↦ rw (w.position-is, w.marks-is)
          (ended_behind m l at c.loop-at.position.state c.loop-at.marks c.loop-at.invariant.4 (two_more at (length l) c.loop-at.invariant.0 c.requires.even w.loop-at-test.true) (omega arith)
          (ap (step_of m c.loop-at.position.state) (sym w.pair_at.ensures) ∙ sym w.step.ensures ∙ ap stepped w.in_ok-next.was
          ∙ ap {B = Option (ℕ × ℕ)} (λ (n : ℕ). some (w.in_ok-next.next.state, n)) (sym w.from-marks.ensures)))
    ]) in
    rw c.from_residual-in_err-more.ensures (ap (add_marks c.loop-at-test.marks) (sym e) ∙ done)

pub returns : goal.returns
returns c =
    let m = machine_of c.args.part.now in
    let l = c.args.candidate.now in
    let at = c.loop-at.at in
    let e : ending_of m c.loop-at-test.position.state ≡ some c.from.result =
    sym c.ending.ensures ∙ ap ended c.in_ok-more.was ∙ ap {B = Option ℕ} some (sym c.from.ensures) in
    let done : add_marks c.loop-at-test.marks (ending_of m c.loop-at-test.position.state) ≡ marks_of (pairs_of l) m = (elim c.loop-at-test.branch [
      | else-loop-at-test w ↦ rw (w.position-is, w.marks-is) (ended_at_test m l at c.loop-at.position.state c.loop-at.marks c.loop-at.invariant.4 w.loop-at-test.false)
      | then-loop-at-test+in_ok-next+else-at-end-at-gt2 w ↦ rw (w.position-is, w.marks-is)
          (ended_behind m l at c.loop-at.position.state c.loop-at.marks c.loop-at.invariant.4 (two_more at (length l) c.loop-at.invariant.0 c.requires.even w.loop-at-test.true) (omega arith)
          (ap (step_of m c.loop-at.position.state) (sym w.pair_at.ensures) ∙ sym w.step.ensures ∙ ap stepped w.in_ok-next.was
          ∙ ap {B = Option (ℕ × ℕ)} (λ (n : ℕ). some (w.in_ok-next.next.state, n)) (sym w.from-marks.ensures)))
    ]) in
    ap (add_marks c.loop-at-test.marks) (sym e) ∙ done
