use Rattle.basics.proofs.Words.{arith}
use Rattle.machine.specs.Accepted.{shape_facts}
use Rattle.machine.specs.Laws.States.{not_final, final, no_state}
use Rattle.machine.proofs.Position.ending.Goals as goal

pub bounds-part-0 : goal.bounds-part-0
bounds-part-0 c =
    omega (arith, shape_facts _ c.requires)

pub returns-then-index-state : goal.returns-then-index-state
returns-then-index-state c =
    no_state c.args.part.now c.args.self.state c.requires (omega arith)

pub bounds-part-state : goal.bounds-part-state
bounds-part-state c =
    omega (arith, shape_facts _ c.requires)

pub returns-then-byte-eq0 : goal.returns-then-byte-eq0
returns-then-byte-eq0 c =
    not_final c.args.part.now c.args.self.state c.index-state.result c.index-state.ensures.0 (omega arith) c.if-byte-eq0.true

pub returns-else-byte-eq0 : goal.returns-else-byte-eq0
returns-else-byte-eq0 c =
    final c.args.part.now c.args.self.state c.index-state.result c.index-state.ensures.0 (omega arith) c.if-byte-eq0.false
