use Rattle.std.specs.Prelude.{◌≡◌, ◌+◌}
use Rattle.basics.proofs.Words.{sym, ap, ◌∙◌, List, ℕ, arith, length, get_or}
use Rattle.machine.specs.Part.{arcs_of}
use Rattle.joined.specs.Writing.{placed, row_bytes}
use Rattle.joined.proofs.Rest.{rest_room, rest_next, rest_end}
use Rattle.joined.proofs.Parts.{no_arc, arcs_length, first_accepted, row_fits}
use Rattle.joined.proofs.writing.write_rows.Goals as goal

pub state_count-states-requires : goal.state_count-states-requires
state_count-states-requires c = (first_accepted c.args.first.now c.args.second.now c.requires.0).shape

pub arc_count-arcs-requires : goal.arc_count-arcs-requires
arc_count-arcs-requires c = (first_accepted c.args.first.now c.args.second.now c.requires.0).shape

pub nth_arc-arc-requires : goal.nth_arc-arc-requires
nth_arc-arc-requires c = ((first_accepted c.args.first.now c.args.second.now c.requires.0).shape, c.state_count-states.ensures, omega arith)

pub write_row-next-requires : goal.write_row-next-requires
write_row-next-requires c =
    let first = c.args.first.now in
    let second = c.args.second.now in
    let room = rest_room (row_bytes second) (arcs_of first) c.loop-i.invariant.1 no_arc (omega (arith, arcs_length first)) in
    let b = ap (row_bytes second) (c.nth_arc-arc.ensures no_arc) in
    (row_fits first second c.requires.0 c.loop-i.i (omega arith) c.nth_arc-arc.result c.nth_arc-arc.ensures, omega (arith, room, ap length b, c.loop-i.invariant.1.size))

pub loop-i-preserved : goal.loop-i-preserved
loop-i-preserved c =
    let first = c.args.first.now in
    let second = c.args.second.now in
    let b : row_bytes second c.nth_arc-arc.result ≡ row_bytes second (get_or (arcs_of first) c.loop-i.i no_arc) = ap (row_bytes second) (sym (c.nth_arc-arc.ensures no_arc)) in (
      omega arith,
      rest_next (row_bytes second) (arcs_of first) c.loop-i.invariant.1 no_arc (omega (arith, arcs_length first)) c.write_row-next.result c.write_row-next.new.target
          (c.write_row-next.ensures.0 ∙ ap (λ (x : List ℕ). placed c.loop-i.next x c.loop-i.target) b)
          (c.write_row-next.ensures.1 ∙ ap (λ (x : List ℕ). c.loop-i.next + length x) b),
    )

pub returns : goal.returns
returns c =
    (rest_end (row_bytes c.args.second.now) (arcs_of c.args.first.now) c.loop-i.invariant.1 (omega (arith, arcs_length c.args.first.now))).0
