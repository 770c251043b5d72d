use Rattle.std.specs.Prelude.{◌≡◌}
use Rattle.basics.proofs.Words.{sym, ap, ◌∙◌, List, ℕ, arith, length}
use Rattle.joined.specs.MachineBytes.{arc_bytes}
use Rattle.joined.specs.Writing.{placed, shared_bytes}
use Rattle.joined.specs.Laws.Placed.{placed_none}
use Rattle.joined.specs.Laws.Writing.{shared_taken, shared_left}
use Rattle.joined.proofs.writing.write_shared.Goals as goal

pub returns-then-not-share_pair : goal.returns-then-not-share_pair
returns-then-not-share_pair c =
    let e = shared_left c.args.states c.args.first c.args.second (sym c.share_pair.ensures ∙ c.if-not-share_pair.true) in
    (sym (ap (λ (l : List ℕ). placed c.args.at l c.args.target.now) e ∙ placed_none c.args.at c.args.target.now), omega (arith, ap length e))

pub write_arc-requires : goal.write_arc-requires
write_arc-requires c =
    omega (arith, ap length (shared_taken c.args.states c.args.first c.args.second (sym c.share_pair.ensures ∙ c.if-not-share_pair.false)), c.requires.2)

pub returns : goal.returns
returns c =
    let b : arc_bytes c.joined_arc.result ≡ shared_bytes c.args.states c.args.first c.args.second =
    ap arc_bytes c.joined_arc.ensures ∙ sym (shared_taken c.args.states c.args.first c.args.second (sym c.share_pair.ensures ∙ c.if-not-share_pair.false)) in
    (c.write_arc.ensures ∙ ap (λ (l : List ℕ). placed c.args.at l c.args.target.now) b, omega (arith, ap length b))
