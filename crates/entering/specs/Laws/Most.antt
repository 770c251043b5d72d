-- What marks add at most, 15 for each machine: a step to a label with room for it stays a label.
use Rattle.std.specs.Prelude.{◌≡◌, ◌∷◌, ◌+◌, ◌*◌, ◌/◌, ◌%◌, ◌<◌, ◌≤◌}
use Rattle.basics.specs.Words.{refl, sym, ◌∙◌, ap, List, [], Option, some, none, Option·none-ne-some, ℕ, zero, suc, arith, length, get_or, replicate, mul-le-mul_right}
use Rattle.machine.specs.declared.Pair.{Pair}
use Rattle.machine.specs.Machine.{Machine, step_of}
use Rattle.product.specs.Nodes.{state_counts, product}
use Rattle.product.specs.ProductGraph.{Move}
use Rattle.product.specs.Codes.{code_step}
use Rattle.product.specs.Laws.Codes.{with_first, step_no_machine, step_next_machine}
use Rattle.product.specs.Laws.JointStep.{AllSound}
use Rattle.tables.specs.Laws.Edges.{code_step_few}
use Rattle.tables.proofs.Machines.{counts_length}
use Rattle.tables.specs.Tables.{CardMachines}
use Rattle.cells.specs.Cells.{nowhere, high_of}
use Rattle.cells.specs.Columns.{weighed, JointCell}
use Rattle.cells.specs.Labels.{next_cell}
use Rattle.lanes.specs.Trying.{way_by}
use Rattle.entering.specs.Entering.{most_of, NextRoom}

most_from : (w : ℕ → ℕ) (m : ℕ) (xs : List ℕ) (K : ℕ) → ((i : ℕ) → get_or xs i 0 ≤ 15) → length xs ≤ K → weighed w m xs ≤ weighed w m (replicate K 15)
unfolding weighed
most_from w m [] K few h = omega arith
most_from w m (x ∷ xs) zero few h = absurd (omega arith)
most_from w m (x ∷ xs) (suc K) few h =
    let a : x * w m ≤ 15 * w m = mul-le-mul_right (w m) (few 0) in
    omega (arith, most_from w (suc m) xs K (λ i. few (suc i)) (omega arith))

-- at most K marks, each at most 15
pub weighed_most : (w : ℕ → ℕ) (xs : List ℕ) (K : ℕ) → ((i : ℕ) → get_or xs i 0 ≤ 15) → length xs ≤ K → weighed w 0 xs ≤ most_of w K
weighed_most w xs K few h = most_from w 0 xs K few h

-- a joint step has one number of marks for each machine
pub marks_length : (ms : List Machine) (c : ℕ) (p : Pair) (v : Move) → code_step ms c p ≡ some v → length v.marks ≡ length ms
marks_length [] c p v e = ap count (sym e ∙ step_no_machine c p)
  where
    count : Option Move → ℕ
    count none = 0
    count (some m) = length m.marks
marks_length (m ∷ ms) c p v e =
    go (step_of m (c / product (state_counts ms)) p) (code_step ms (c % product (state_counts ms)) p) (marks_length ms (c % product (state_counts ms)) p) (sym (step_next_machine m ms c p) ∙ e)
  where
    go : (o : Option (ℕ × ℕ)) (r : Option Move) → ((w : Move) → r ≡ some w → length w.marks ≡ length ms) → with_first (product (state_counts ms)) o r ≡ some v → length v.marks ≡ suc (length ms)
    go none r f q = absurd (Option·none-ne-some v q)
    go (some s) none f q = absurd (Option·none-ne-some v q)
    go (some s) (some w) f q = let z : v ≡ record { target = s.0 * product (state_counts ms) + w.target; marks = s.1 ∷ w.marks } = cc in rw z (ap suc (f w refl))

-- so the marks of a joint step add at most this
pub step_most : {S : ℕ} {ms : List Machine} → AllSound S ms → (w : ℕ → ℕ) (c : ℕ) (p : Pair) (v : Move) → code_step ms c p ≡ some v → weighed w 0 v.marks ≤ most_of w (length (state_counts ms))
step_most {ms = ms} sound w c p v e = weighed_most w v.marks (length (state_counts ms)) (code_step_few sound c p v e) (omega (arith, marks_length ms c p v e, counts_length ms))

-- with room for a pair more, a step to a label stays below nowhere
pub way_fits : {S : ℕ} {ms : List Machine} {next ws : List ℕ} → CardMachines S ms → NextRoom next ws (length (state_counts ms)) (product (state_counts ms)) → (c : ℕ) (p : Pair) {h l : ℕ}
    → JointCell ws (product (state_counts ms)) (code_step ms c p) h l → (v : Move) → code_step ms c p ≡ some v → (next_cell next v.target).high < nowhere → (way_by next h l).high < nowhere
way_fits {next = next} {ws = ws} M N c p {h} {l} J v e k =
    let t : h % 128 ≡ v.target = omega (arith, J.target v e, J.code, M.joint_states) in
    let z : get_or next (h % 128 * 2) 0 ≡ get_or next (v.target * 2) 0 = ap (λ (n : ℕ). get_or next (n * 2) 0) t in
    omega (arith, z, J.high v e, step_most M.sound (high_of ws) c p v e, N.room v.target (omega (arith, J.target v e, J.code)) k)
