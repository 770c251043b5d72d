use Rattle.std.specs.Prelude.{◌≡◌, ◌*◌}
use Rattle.basics.specs.Words.{sym, ◌∙◌, ap, ℕ, arith, suc-mul}
use Rattle.stage_entering.proofs.Lanes.{codes_next, codes_end, code_ready, code_at, lanes_at, at_places, places_below}
use Rattle.stage_entering.proofs.try_four.Goals as goal

pub try_code-requires : goal.try_code-requires
try_code-requires c =
    let p = at_places c.args.at.groups.back c.loop-a.a c.loop-b.b c.loop-b-test.true in
    code_at _ p (code_ready c.requires c.loop-b.invariant (places_below c.requires.size_is c.loop-a-test.true c.loop-b-test.true))

pub loop-b-preserved : goal.loop-b-preserved
loop-b-preserved c =
    let p = at_places c.args.at.groups.back c.loop-a.a c.loop-b.b c.loop-b-test.true in
    codes_end (codes_next c.loop-b.invariant (lanes_at _ p c.try_code.ensures)) (omega arith)

pub loop-a-preserved : goal.loop-a-preserved
loop-a-preserved c =
    codes_end c.loop-b.invariant (omega (arith, c.loop-b-test.false, c.loop-b.auto.b-end, suc-mul c.loop-a.a c.args.at.groups.back))

pub returns : goal.returns
returns c =
    let all : c.loop-a.a ≡ c.args.at.groups.front = omega (arith, c.loop-a-test.false, c.loop-a.auto.a-end) in
    codes_end c.loop-a.invariant (ap (λ (a : ℕ). a * c.args.at.groups.back) all ∙ sym c.requires.size_is)
