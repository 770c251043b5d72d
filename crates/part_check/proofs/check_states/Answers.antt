use Rattle.std.specs.Prelude.{◌≡◌, ◌+◌, ◌-◌}
use Rattle.std.proofs.lemmas.List.{drop-take}
use Rattle.basics.proofs.Words.{ap, sym, ◌∙◌, ℕ, arith, leb, take, drop, all_of, lt-leb, le-leb, left_next, left_none, all_next, all_fails, all_none}
use Rattle.refusals.specs.Refusals.{refuse}
use Rattle.machine.specs.Part.{state_count}
use Rattle.machine.specs.Accepted.{shape_facts}
use Rattle.part_check.proofs.check_states.Invariants.{gone_through}
use Rattle.part_check.proofs.check_states.Goals as goal

pub bounds-part-0 : goal.bounds-part-0
bounds-part-0 c = omega (arith, shape_facts _ c.requires)

pub slice_bounds-byte-items-end : goal.slice_bounds-byte-items-end
slice_bounds-byte-items-end c = omega (arith, shape_facts _ c.requires, c.index-end.ensures.0)

pub loop-byte-init : goal.loop-byte-init
loop-byte-init c =
    let l = c.args.part.now in
    let n : 2 + state_count l - 2 ≡ state_count l = omega arith in
    ap (λ (m : ℕ). all_of (λ b. leb b 16) (take m (drop 2 l))) n ∙ ap (all_of (λ b. leb b 16)) (sym (drop-take 2 (state_count l) l))

pub returns-then-byte-gt16 : goal.returns-then-byte-gt16
returns-then-byte-gt16 c =
    let n = left_next (gone_through c.args.part.now) c.loop-byte.byte-index (rw c.index-end.ensures.0 at c.loop-byte-test.true) in
    ap (refuse 4) (sym (all_fails (λ b. leb b 16) n (lt-leb _ _ (rw c.index-end.ensures.0 at c.if-byte-gt16.true))) ∙ c.loop-byte.invariant)

pub loop-byte-preserved : goal.loop-byte-preserved
loop-byte-preserved c =
    let n = left_next (gone_through c.args.part.now) c.loop-byte.byte-index (rw c.index-end.ensures.0 at c.loop-byte-test.true) in
    all_next (λ b. leb b 16) n (le-leb _ _ (rw c.index-end.ensures.0 at c.if-byte-gt16.false)) ∙ c.loop-byte.invariant

pub returns : goal.returns
returns c =
    let n = left_none (gone_through c.args.part.now) c.loop-byte.byte-index (rw c.index-end.ensures.0 at c.loop-byte-test.false) in
    ap (refuse 4) (sym (all_none (λ b. leb b 16) n) ∙ c.loop-byte.invariant)
