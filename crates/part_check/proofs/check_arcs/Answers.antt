use Rattle.std.specs.Prelude.{◌≡◌, ◌+◌, ◌-◌, ◌*◌}
use Rattle.basics.proofs.Words.{ap, ap₂, sym, ◌∙◌, ℕ, arith, all_of}
use Rattle.refusals.specs.Refusals.{refuse}
use Rattle.machine.specs.Part.{state_count, arc_count, arcs_at, sound_arc}
use Rattle.machine.specs.Accepted.{shape_facts}
use Rattle.machine.specs.Laws.Arcs.{all_go_on, all_stop, all_end}
use Rattle.part_check.proofs.check_arcs.Goals as goal

pub bounds-part-0 : goal.bounds-part-0
bounds-part-0 c = omega (arith, shape_facts _ c.requires.0)

pub bounds-part-1 : goal.bounds-part-1
bounds-part-1 c = omega (arith, shape_facts _ c.requires.0)

pub read_arc-requires : goal.read_arc-requires
read_arc-requires c = omega (arith, shape_facts _ c.requires.0, c.index-first.ensures.0, c.index-i-end.ensures.0)

pub returns-then-not-is_sound : goal.returns-then-not-is_sound
returns-then-not-is_sound c =
    let e = c.set_of-last.ensures in
    ap (refuse 4) (all_stop _ _ _ _ _ (omega (arith, c.index-i-end.ensures.0)) (ap (sound_arc _ _) (sym c.read_arc.ensures) ∙ sym (c.is_sound.ensures _ e) ∙ c.if-not-is_sound.true) c.loop-i.invariant)

pub loop-i-preserved : goal.loop-i-preserved
loop-i-preserved c =
    let e = c.set_of-last.ensures in
    let f = sound_arc c.args.symbols (state_count c.args.part.now) in
    ap₂ (λ (at n : ℕ). all_of f (arcs_at c.args.part.now at n)) (omega arith) (omega arith)
    ∙ all_go_on _ _ _ _ _ (omega (arith, c.index-i-end.ensures.0)) (ap (sound_arc _ _) (sym c.read_arc.ensures) ∙ sym (c.is_sound.ensures _ e) ∙ c.if-not-is_sound.false) c.loop-i.invariant

pub returns : goal.returns
returns c = ap (refuse 4) (all_end _ _ _ _ _ (omega (arith, c.index-i-end.ensures.0)) c.loop-i.invariant)
