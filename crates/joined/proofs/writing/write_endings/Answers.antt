use Rattle.std.specs.Prelude.{◌≡◌, ◌+◌, ◌<◌, ◌≤◌}
use Rattle.basics.proofs.Words.{ap, ◌∙◌, List, map, ℕ, arith, length, get_or, length-map}
use Rattle.machine.specs.Part.{state_count, state_bytes}
use Rattle.joined.specs.Writing.{placed, joined_byte, PartsJoin}
use Rattle.joined.proofs.Rest.{Rest, rest_room, rest_next, rest_end}
use Rattle.joined.proofs.Parts.{states_length, state_byte_few, first_accepted, second_accepted}
use Rattle.joined.proofs.writing.write_endings.Invariants.{row}
use Rattle.joined.proofs.writing.write_endings.Goals as goal

-- the row has room, and as many bytes as the second part has states
room : (first second : List ℕ) (h : PartsJoin first second) {z : List ℕ} {end n i next : ℕ} {t : List ℕ} → Rest (row second) (state_bytes first) z end n i next t → i < state_count first → next + state_count second ≤ length t
room first second h {i = i} r k =
    omega (
      arith,
      rest_room (row second) (state_bytes first) r 0 (omega (arith, k, states_length first (first_accepted first second h).shape)),
      length-map (state_bytes second) (joined_byte (get_or (state_bytes first) i 0)),
      states_length second (second_accepted first second h).shape,
      r.size,
    )

pub state_count-states-requires : goal.state_count-states-requires
state_count-states-requires c = (second_accepted c.args.first.now c.args.second.now c.requires.0).shape

pub state_count-i-end-requires : goal.state_count-i-end-requires
state_count-i-end-requires c = (first_accepted c.args.first.now c.args.second.now c.requires.0).shape

pub state_byte-requires : goal.state_byte-requires
state_byte-requires c = ((first_accepted c.args.first.now c.args.second.now c.requires.0).shape, omega arith)

pub write_ending-requires : goal.write_ending-requires
write_ending-requires c =
    let first = c.args.first.now in
    let second = c.args.second.now in
    let a = first_accepted first second c.requires.0 in
    let b = second_accepted first second c.requires.0 in
    (b.shape, b.states, omega (arith, c.state_byte.ensures, state_byte_few first a.shape a.states c.loop-i.i (omega arith)), room first second c.requires.0 c.loop-i.invariant.2 (omega arith))

pub loop-i-preserved : goal.loop-i-preserved
loop-i-preserved c =
    let first = c.args.first.now in
    let second = c.args.second.now in
    let b : map (joined_byte c.state_byte.result) (state_bytes second) ≡ row second (get_or (state_bytes first) c.loop-i.i 0) = ap (row second) c.state_byte.ensures in (
      c.loop-i.invariant.0,
      omega arith,
      rest_next (row second) (state_bytes first) c.loop-i.invariant.2 0 (omega (arith, states_length first (first_accepted first second c.requires.0).shape)) (c.loop-i.next + c.state_count-states.result) c.write_ending.new.target
          (c.write_ending.ensures ∙ ap (λ (x : List ℕ). placed c.loop-i.next x c.loop-i.target) b)
          (omega (arith, c.state_count-states.ensures, length-map (state_bytes second) (joined_byte (get_or (state_bytes first) c.loop-i.i 0)), states_length second (second_accepted first second c.requires.0).shape)),
    )

pub returns : goal.returns
returns c =
    let first = c.args.first.now in
    let second = c.args.second.now in
    (rest_end (row second) (state_bytes first) c.loop-i.invariant.2 (omega (arith, states_length first (first_accepted first second c.requires.0).shape))).0
