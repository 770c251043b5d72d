-- Machines by their numbers: their counts, their states, their steps. Assumes nothing.
use Rattle.std.specs.Prelude.{◌≡◌, ◌∷◌, ◌<◌}
use Rattle.basics.specs.Words.{List, [], ℕ, zero, suc, arith, length, get_or, length-map, List·getD-map}
use Rattle.machine.specs.declared.Pair.{Pair}
use Rattle.machine.specs.Machine.{Machine, no_machine, step_of}
use Rattle.product.specs.Nodes.{state_count_of, state_counts, product, states_of}
use Rattle.product.specs.Laws.Nodes.{Below, states_below}
use Rattle.product.specs.Laws.JointStep.{Sound, AllSound, all_none, all_next, counts_positive}
use Rattle.tables.specs.StepTable.{machine_at}
use Rattle.tables.proofs.Codes.{SmallStep}
use Rattle.tables.specs.Tables.{CardMachines}

pub sound_at : {S : ℕ} {ms : List Machine} → AllSound S ms → (m : ℕ) → m < length ms → Sound S (machine_at ms m)
sound_at all_none m h = absurd (omega arith)
sound_at (all_next a r) zero h = a
sound_at (all_next a r) (suc m) h = sound_at r m (omega arith)

pub count_at_lem : (ms : List Machine) (m : ℕ) → get_or (state_counts ms) m 0 ≡ state_count_of (machine_at ms m)
count_at_lem ms m = List·getD-map state_count_of ms m no_machine

pub counts_length : (ms : List Machine) → length (state_counts ms) ≡ length ms
counts_length ms = length-map ms state_count_of

pub below_at : (qs ss : List ℕ) → Below qs ss → (m : ℕ) → m < length qs → get_or ss m 0 < get_or qs m 0
below_at [] [] b m h = absurd (omega arith)
below_at [] (s ∷ ss) b m h = elim b [ ]
below_at (q ∷ qs) [] b m h = elim b [ ]
below_at (q ∷ qs) (s ∷ ss) b zero h = b.0
below_at (q ∷ qs) (s ∷ ss) b (suc m) h = below_at qs ss b.1 m (omega arith)

module _ {S : ℕ} {ms : List Machine} (M : CardMachines S ms) where
  pub code_states : (code : ℕ) → code < product (state_counts ms) → Below (state_counts ms) (states_of (state_counts ms) code)
  code_states code h = states_below (state_counts ms) (counts_positive M.sound) code h

  pub small_step : (m : ℕ) → m < length ms → (s : ℕ) (p : Pair) → SmallStep (step_of (machine_at ms m) s p)
  small_step m h s p r e =
      let a = sound_at M.sound m h in
      (omega (arith, a.leads s p r e, M.states m), a.marks s p r e)
