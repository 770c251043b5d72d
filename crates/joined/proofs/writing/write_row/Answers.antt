use Rattle.std.specs.Prelude.{◌≡◌, ◌+◌}
use Rattle.basics.proofs.Words.{sym, ap, ap₂, ◌∙◌, List, ℕ, arith, length, get_or}
use Rattle.machine.specs.declared.Arc.{Arc}
use Rattle.machine.specs.Part.{state_count, arcs_of}
use Rattle.joined.specs.Writing.{placed, shared_bytes}
use Rattle.joined.proofs.Rest.{rest_room, rest_next, rest_end}
use Rattle.joined.proofs.Parts.{no_arc, arcs_length, shared_ready}
use Rattle.joined.proofs.writing.write_row.Goals as goal

pub write_shared-next-requires : goal.write_shared-next-requires
write_shared-next-requires c =
    let second = c.args.second.now in
    let room = rest_room (shared_bytes (state_count second) c.args.arc) (arcs_of second) c.loop-i.invariant.1 no_arc (omega (arith, arcs_length second)) in
    shared_ready second c.args.arc c.nth_arc-other.result c.state_count-states.result c.loop-i.i c.loop-i.next (length c.loop-i.target)
    c.requires.0 c.state_count-states.ensures (omega arith) c.nth_arc-other.ensures (omega (arith, room, c.loop-i.invariant.1.size))

pub loop-i-preserved : goal.loop-i-preserved
loop-i-preserved c =
    let second = c.args.second.now in
    let arc = c.args.arc in
    let b : shared_bytes c.state_count-states.result arc c.nth_arc-other.result ≡ shared_bytes (state_count second) arc (get_or (arcs_of second) c.loop-i.i no_arc) =
    ap₂ (λ (q : ℕ) (x : Arc). shared_bytes q arc x) c.state_count-states.ensures (sym (c.nth_arc-other.ensures no_arc)) in (
      omega arith,
      rest_next (shared_bytes (state_count second) arc) (arcs_of second) c.loop-i.invariant.1 no_arc (omega (arith, arcs_length second)) c.write_shared-next.result c.write_shared-next.new.target
          (c.write_shared-next.ensures.0 ∙ ap (λ (x : List ℕ). placed c.loop-i.next x c.loop-i.target) b)
          (c.write_shared-next.ensures.1 ∙ ap (λ (x : List ℕ). c.loop-i.next + length x) b),
    )

pub returns : goal.returns
returns c =
    let second = c.args.second.now in
    rest_end (shared_bytes (state_count second) c.args.arc) (arcs_of second) c.loop-i.invariant.1 (omega (arith, arcs_length second))
