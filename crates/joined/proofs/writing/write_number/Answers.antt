use Rattle.std.specs.Prelude.{◌≡◌, ◌+◌, ◌-◌}
use Rattle.basics.proofs.Words.{sym, ap, ◌∙◌, ℕ, arith, length-set}
use Rattle.joined.specs.MachineBytes.{little_endian}
use Rattle.joined.specs.Writing.{placed}
use Rattle.joined.specs.Laws.Placed.{placed_none}
use Rattle.joined.proofs.Rest.{number_next}
use Rattle.joined.proofs.writing.write_number.Goals as goal

pub loop-i-preserved : goal.loop-i-preserved
loop-i-preserved c =
    (omega arith, simp length-set c.loop-i.invariant.1, number_next c.args.at c.loop-i.i c.loop-i.left c.loop-i.target _ (omega arith) (omega arith) c.loop-i.invariant.2)

pub returns : goal.returns
returns c =
    let z : 0 ≡ 8 - c.loop-i.i = omega arith in
    sym (placed_none (c.args.at + c.loop-i.i) c.loop-i.target) ∙ ap (λ (n : ℕ). placed (c.args.at + c.loop-i.i) (little_endian n c.loop-i.left) c.loop-i.target) z ∙ c.loop-i.invariant.2
