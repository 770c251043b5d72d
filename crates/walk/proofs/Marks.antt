-- The marks of a list of pairs from a code's states: those of the first one, and those of the rest. Assumes nothing.
use Rattle.std.specs.Prelude.{◌≡◌, ◌∷◌, ◌≤◌}
use Rattle.basics.specs.Words.{sym, ◌∙◌, ap, List, map, Option, some, ℕ, arith, get_or}
use Rattle.machine.specs.declared.Pair.{Pair}
use Rattle.machine.specs.Machine.{Machine}
use Rattle.ranking.specs.Profiles.{merge}
use Rattle.product.specs.Nodes.{state_counts, states_of}
use Rattle.product.specs.ProductGraph.{Move}
use Rattle.product.specs.Codes.{code_step}
use Rattle.product.specs.Laws.Nodes.{states_of_code}
use Rattle.product.specs.Laws.JointStep.{joint_marks, joint_marks_next, add_to_each, onward, joint_below}
use Rattle.product.specs.Laws.Edges.{step_marks_bound}
use Rattle.tables.specs.Tables.{CardMachines}
use Rattle.walk.proofs.Columns.{CodedBy, coded_by}

module _ {S : ℕ} {ms : List Machine} (M : CardMachines S ms) (c : ℕ) (p : Pair) (v : Move) (e : code_step ms c p ≡ some v) where
  -- the states that it leads to
  pub states_next : (B : CodedBy ms c p v) → states_of (state_counts ms) v.target ≡ map (λ r. r.0) B.steps
  states_next B =
      ap (λ (m : Move). states_of (state_counts ms) m.target) B.move_is
      ∙ states_of_code (state_counts ms) (map (λ r. r.0) B.steps) (joint_below M.sound (states_of (state_counts ms) c) p B.steps B.steps_are)

  pub next_marks : (qs : List Pair) (xs : List ℕ) → joint_marks ms (states_of (state_counts ms) v.target) qs ≡ some xs → joint_marks ms (states_of (state_counts ms) c) (p ∷ qs) ≡ some (merge v.marks xs)
  next_marks qs xs h =
      let b = coded_by ms c p v e in
      joint_marks_next ms (states_of (state_counts ms) c) p qs
      ∙ ap (λ (o : Option (List (ℕ × ℕ))). onward o (λ steps. add_to_each (map (λ r. r.1) steps) (joint_marks ms (map (λ r. r.0) steps) qs))) b.steps_are
      ∙ ap (add_to_each (map (λ r. r.1) b.steps)) (ap (λ (ss : List ℕ). joint_marks ms ss qs) (sym (states_next b)) ∙ h)
      ∙ ap (λ (m : Move). some (merge m.marks xs)) (sym b.move_is)

  pub marks_few : (m : ℕ) → get_or v.marks m 0 ≤ 15
  marks_few m =
      let b = coded_by ms c p v e in
      omega (arith, ap (λ (v : Move). get_or v.marks m 0) b.move_is, step_marks_bound M.sound (states_of (state_counts ms) c) p b.steps b.steps_are m)
