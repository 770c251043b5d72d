use Rattle.std.specs.Prelude.{◌≡◌, ◌≤◌, ◌+◌, ◌*◌}
use Rattle.basics.proofs.Words.{sym, arith, mul_comm, mul-le-mul, le-leb, lt-leb}
use Rattle.refusals.proofs.Refusals.{passes_with, refuses_with}
use Rattle.input.proofs.Nodes.{few_nodes}
use Rattle.input.proofs.check_work.Goals as goal
use Rattle.input.proofs.check_work.Goals.{Start}

few : (c : Start) → (c.args.count + 1) * c.args.grid.size ≤ 3200
few c = few_nodes c.args.count c.args.grid.size c.requires.1 c.requires.0.joint_states

turned : (c : Start) → (c.args.count + 1) * c.args.grid.size * c.args.numbers ≡ c.args.numbers * ((c.args.count + 1) * c.args.grid.size)
turned c = mul_comm ((c.args.count + 1) * c.args.grid.size) c.args.numbers

pub overflow_mul-count : goal.overflow_mul-count
overflow_mul-count c = omega (arith, few c.before)

pub overflow_mul-count-2 : goal.overflow_mul-count-2
overflow_mul-count-2 c = omega (arith, mul-le-mul (few c.before) c.requires.2)

pub returns-then-room-count : goal.returns-then-room-count
returns-then-room-count c =
    sym (refuses_with 9 (lt-leb (c.args.numbers * ((c.args.count + 1) * c.args.grid.size)) c.args.room (omega (arith, turned c.before.before))))

pub returns : goal.returns
returns c =
    sym (passes_with 9 (le-leb (c.args.numbers * ((c.args.count + 1) * c.args.grid.size)) c.args.room (omega (arith, turned c.before.before))))
