use Rattle.std.specs.Prelude.{◌≡◌, ◌∷◌, ◌++◌, ◌+◌, ◌*◌, ◌≤◌}
use Rattle.basics.specs.Words.{sym, ap, ap₂, ◌∙◌, List, ℕ, arith, length, length-set}
use Rattle.machine.specs.Part.{state_count, state_bytes}
use Rattle.joined.specs.JoinedMachine.{crossed}
use Rattle.joined.specs.MachineBytes.{joined_part}
use Rattle.joined.specs.Writing.{placed, joined_byte, rows_bytes, PartsJoin}
use Rattle.joined.specs.Laws.Writing.{part_bytes}
use Rattle.joined.proofs.Parts.{first_accepted, second_accepted, states_are, arcs_are, few_states_lem, few_arcs, endings_length, rows_length, joined_placed}
use Rattle.joined.proofs.writing.write_joined.Goals as goal

-- the states of the joined machine
count : (first second : List ℕ) {m n : ℕ} → m ≡ state_count first → n ≡ state_count second → m * n ≡ state_count first * state_count second
count first second a b = ap₂ (λ (m n : ℕ). m * n) a b

few : (first second : List ℕ) → PartsJoin first second → {m n : ℕ} → m ≡ state_count first → n ≡ state_count second → m * n ≤ 32
few first second h a b = omega (arith, count first second a b, few_states_lem first second h)

-- what is written, and how long it is
sizes : (first second stretch : List ℕ) → PartsJoin first second → length stretch ≡ length (joined_part first second)
    → 2 + length (crossed joined_byte (state_bytes first) (state_bytes second)) + length (rows_bytes first second) ≡ length stretch
sizes first second stretch h e = rows_length first second h ∙ sym e

pub state_count-requires : goal.state_count-requires
state_count-requires c = (first_accepted c.args.first.now c.args.second.now c.requires.0).shape

pub state_count-requires-2 : goal.state_count-requires-2
state_count-requires-2 c = (second_accepted c.args.first.now c.args.second.now c.requires.0).shape

pub overflow_cast-stretch : goal.overflow_cast-stretch
overflow_cast-stretch c = omega (arith, few c.args.first.now c.args.second.now c.requires.0 c.state_count.ensures c.state_count-2.ensures)

pub bounds-stretch-0 : goal.bounds-stretch-0
bounds-stretch-0 c = omega (arith, sizes c.args.first.now c.args.second.now c.args.stretch.now c.requires.0 c.requires.1)

pub overflow_cast-stretch-2 : goal.overflow_cast-stretch-2
overflow_cast-stretch-2 c = omega (arith, c.requires.2, few_arcs c.args.first.now c.args.second.now c.requires.0)

pub bounds-stretch-1 : goal.bounds-stretch-1
bounds-stretch-1 c = simp length-set (omega (arith, sizes c.args.first.now c.args.second.now c.args.stretch.now c.requires.0 c.requires.1))

pub write_endings-requires : goal.write_endings-requires
write_endings-requires c = (c.requires.0, simp length-set (omega (arith, sizes c.args.first.now c.args.second.now c.args.stretch.now c.requires.0 c.requires.1)))

pub write_rows-requires : goal.write_rows-requires
write_rows-requires c =
    let first = c.args.first.now in
    let second = c.args.second.now in
    (c.requires.0, omega (arith, sizes first second c.args.stretch.now c.requires.0 c.requires.1, count first second c.state_count.ensures c.state_count-2.ensures, endings_length first second c.requires.0, simp length-set at c.write_endings.auto.target))

pub returns : goal.returns
returns c =
    let first = c.args.first.now in
    let second = c.args.second.now in
    let endings = crossed joined_byte (state_bytes first) (state_bytes second) in
    let rows = rows_bytes first second in
    let states = c.state_count.result * c.state_count-2.result in
    let product = count first second c.state_count.ensures c.state_count-2.ensures in
    let e : joined_part first second ≡ states ∷ c.args.arcs ∷ (endings ++ rows) =
    part_bytes first second (second_accepted first second c.requires.0).shape
    ∙ ap₂ (λ (x y : ℕ). x ∷ y ∷ (endings ++ rows)) (states_are first second c.requires.0 ∙ sym product) (arcs_are first second c.requires.0 ∙ sym c.requires.2) in
    let place : 2 + states ≡ 2 + length endings = omega (arith, product, endings_length first second c.requires.0) in
    joined_placed c.args.stretch.now c.write_endings.new.target c.write_rows.new.target states c.args.arcs endings rows (joined_part first second) e c.requires.1 c.write_endings.ensures
    (c.write_rows.ensures ∙ ap (λ (k : ℕ). placed k rows c.write_endings.new.target) place)
