use Rattle.std.specs.Prelude.{◌≡◌}
use Rattle.basics.proofs.Words.{ap, sym, ◌∙◌, arith, length, eqb, every_below, rules, eq-eqb, ne_eqb, every_next}
use Rattle.layout.specs.Layout.{offset_of, due_offset, in_place, laid_out}
use Rattle.layout.proofs.Checking.{due_step, no_table, out_of_place, end_decides}
use Rattle.layout.proofs.is_laid_out.Goals as goal

pub returns-then-bytes-due : goal.returns-then-bytes-due
returns-then-bytes-due c =
    sym (no_table c.index-count.result c.args.bytes.now (omega arith)) ∙ ap (λ n. laid_out n c.args.bytes.now) c.index-count.ensures.0

pub loop-i-init : goal.loop-i-init
unfolding due_offset every_below
loop-i-init c = search rules

pub returns-then-part_offset-due : goal.returns-then-part_offset-due
returns-then-part_offset-due c =
    let n = c.index-count.result in
    let bytes = c.args.bytes.now in
    let i = c.loop-i.i in
    sym (out_of_place n bytes i (omega arith) (ne_eqb (offset_of bytes i) (due_offset n bytes i) (λ e. omega arith)))
    ∙ ap (λ n. laid_out n c.args.bytes.now) c.index-count.ensures.0

pub loop-i-preserved : goal.loop-i-preserved
loop-i-preserved c =
    let n = c.index-count.result in
    let bytes = c.args.bytes.now in (
      omega (arith, due_step n bytes c.loop-i.i),
      omega arith,
      every_next (in_place n bytes) c.loop-i.i c.loop-i.invariant.2 (eq-eqb (offset_of bytes c.loop-i.i) (due_offset n bytes c.loop-i.i) (omega arith)),
    )

pub returns : goal.returns
returns c =
    let n = c.index-count.result in
    let bytes = c.args.bytes.now in
    let e : c.loop-i.i ≡ n = omega arith in
    let due : c.loop-i.due ≡ due_offset n bytes n = c.loop-i.invariant.0 ∙ ap (due_offset n bytes) e in
    ap (λ d. eqb d (length bytes)) due ∙ sym (end_decides n bytes (omega arith) (ap (every_below (in_place n bytes)) (sym e) ∙ c.loop-i.invariant.2))
    ∙ ap (λ n. laid_out n c.args.bytes.now) c.index-count.ensures.0
