-- The steps of an input from one state of each machine, the states at hand: columns with a place for each machine.
use Rattle.std.specs.Prelude.{◌≡◌, ◌⊎◌, ◌*◌, ◌<◌, ◌≤◌}
use Rattle.basics.specs.Words.{false, cond, List, some, none, ℕ, length, get_or, member}
use Rattle.machine.specs.declared.Arc.{Arc}
use Rattle.machine.specs.Symbols.{empty_symbol}
use Rattle.machine.specs.Machine.{Machine, state_count_of, takes_from, step_of}
use Rattle.card.specs.Card.{machines_of, card_refusal}
use Rattle.tables.specs.StepTable.{step_code, machine_at}
use Rattle.tables.specs.Filling.{AcceptedPart}
use Rattle.cells.specs.Cells.{step_at}
use Rattle.columns.specs.Filling.{Small}

-- an arc, and a place of the columns
pub record FromPre (xs : List ℕ) (W place : ℕ) (arc : Arc) : Type 0 where
  pub width : W ≤ 40
  pub room : 65 * W ≤ length xs
  pub there : place < W
  pub to : arc.to < 32
  pub marks : arc.marks ≤ 15

-- ys is xs with the step by an arc from the state s, in one place, at each pair of the input x that the arc takes from it
pub record FromEntered (xs ys : List ℕ) (W place : ℕ) (arc : Arc) (s x outputs : ℕ) : Type 0 where
  pub size : length ys ≡ length xs
  pub here : (y : ℕ) → step_at ys W y place ≡ cond (takes_from arc s (record { input = x; output = y })) (step_code (some (arc.to, arc.marks))) (step_at xs W y place)
  pub others : (y p : ℕ) → p < W → (p ≡ place → ⊥) → step_at ys W y p ≡ step_at xs W y p
  pub small : Small xs → Small ys
  pub taken : (y : ℕ) → member outputs y ≡ takes_from arc s (record { input = x; output = y })

-- a machine's part, and its place, which is blank
pub record StatePre (xs part : List ℕ) (W place : ℕ) : Type 0 where
  pub accepted : AcceptedPart part
  pub width : W ≤ 40
  pub room : 65 * W ≤ length xs
  pub there : place < W
  pub blank : (y : ℕ) → y ≤ 64 → step_at xs W y place ≡ 65535

-- ys is xs with the steps of a machine from the state s on the input x, in one place; `outputs` has those taken from it
pub record StateFilled (machine : Machine) (s x W place : ℕ) (xs ys : List ℕ) (outputs : ℕ) : Type 0 where
  pub size : length ys ≡ length xs
  pub step : (y : ℕ) → y ≤ 64 → step_at ys W y place ≡ step_code (step_of machine s (record { input = x; output = y }))
  pub others : (y p : ℕ) → p < W → (p ≡ place → ⊥) → step_at ys W y p ≡ step_at xs W y p
  pub small : Small xs → Small ys
  pub untaken : (y : ℕ) → member outputs y ≡ false → step_of machine s (record { input = x; output = y }) ≡ none

-- an accepted card, a state of each of its machines, an input; room for 65 columns, one place for each machine
pub record AtHandPre (card states steps : List ℕ) (x : ℕ) : Type 0 where
  pub accepted : card_refusal card ≡ 0
  pub size : length states ≡ length (machines_of card)
  pub there : (m : ℕ) → m < length states → get_or states m 0 < state_count_of (machine_at (machines_of card) m)
  pub input : x < 64
  pub room : 65 * length states ≤ length steps

-- some machine does not take the input x with the output y from its state
pub record Stuck (ms : List Machine) (states : List ℕ) (x y : ℕ) : Type 0 where
  pub machine : ℕ
  pub there : machine < length ms
  pub stuck : step_of (machine_at ms machine) (get_or states machine 0) (record { input = x; output = y }) ≡ none

-- the steps, and a set of outputs: one that is not in it makes no pair with the input, or some machine does not take it
pub record FilledAtHand (ms : List Machine) (states : List ℕ) (x : ℕ) (steps : List ℕ) (outputs : ℕ) : Type 0 where
  pub step : (m y : ℕ) → m < length ms → y ≤ 64 → step_at steps (length ms) y m ≡ step_code (step_of (machine_at ms m) (get_or states m 0) (record { input = x; output = y }))
  pub small : Small steps
  pub missing : (y : ℕ) → y < 64 → member outputs y ≡ false → ((x ≡ empty_symbol) × (y ≡ empty_symbol)) ⊎ Stuck ms states x y
  pub no_pair : x ≡ empty_symbol → member outputs empty_symbol ≡ false
