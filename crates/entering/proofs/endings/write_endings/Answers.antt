use Rattle.basics.proofs.Words.{arith, length-set}
use Rattle.entering.proofs.LastPosition.{code_places, written_start, written_next, written_end}
use Rattle.entering.proofs.endings.write_endings.Goals as goal

pub loop-code-init : goal.loop-code-init
loop-code-init c = written_start c.requires.0

pub overflow_mul-a : goal.overflow_mul-a
overflow_mul-a c = omega (arith, code_places c.requires.0 {code = c.loop-code.code} (omega (arith, c.loop-code-test.true, c.requires.1)))

pub overflow_add-b : goal.overflow_add-b
overflow_add-b c = omega (arith, code_places c.requires.0 {code = c.loop-code.code} (omega (arith, c.loop-code-test.true, c.requires.1)))

pub overflow_mul-b : goal.overflow_mul-b
overflow_mul-b c = omega (arith, code_places c.requires.0 {code = c.loop-code.code} (omega (arith, c.loop-code-test.true, c.requires.1)))

pub offset_bounds-high-a : goal.offset_bounds-high-a
offset_bounds-high-a c = omega (arith, code_places c.requires.0 {code = c.loop-code.code} (omega (arith, c.loop-code-test.true, c.requires.1)))

pub bounds-high-a : goal.bounds-high-a
bounds-high-a c = (code_places c.requires.0 {code = c.loop-code.code} (omega (arith, c.loop-code-test.true, c.requires.1))).in_high.0

pub offset_bounds-high-b : goal.offset_bounds-high-b
offset_bounds-high-b c = omega (arith, code_places c.requires.0 {code = c.loop-code.code} (omega (arith, c.loop-code-test.true, c.requires.1)))

pub bounds-high-b : goal.bounds-high-b
bounds-high-b c = (code_places c.requires.0 {code = c.loop-code.code} (omega (arith, c.loop-code-test.true, c.requires.1))).in_high.1

pub overflow_add-high : goal.overflow_add-high
overflow_add-high c = omega (arith, (code_places c.requires.0 {code = c.loop-code.code} (omega (arith, c.loop-code-test.true, c.requires.1))).high_fits)

pub offset_bounds-low-a : goal.offset_bounds-low-a
offset_bounds-low-a c = omega (arith, code_places c.requires.0 {code = c.loop-code.code} (omega (arith, c.loop-code-test.true, c.requires.1)))

pub bounds-low-a : goal.bounds-low-a
bounds-low-a c =
    (code_places c.requires.0 {code = c.loop-code.code} (omega (arith, c.loop-code-test.true, c.requires.1))).in_low.0

pub offset_bounds-low-b : goal.offset_bounds-low-b
offset_bounds-low-b c =
    omega (arith, code_places c.requires.0 {code = c.loop-code.code} (omega (arith, c.loop-code-test.true, c.requires.1)))

pub bounds-low-b : goal.bounds-low-b
bounds-low-b c =
    (code_places c.requires.0 {code = c.loop-code.code} (omega (arith, c.loop-code-test.true, c.requires.1))).in_low.1

pub overflow_add-low : goal.overflow_add-low
overflow_add-low c =
    omega (arith, (code_places c.requires.0 {code = c.loop-code.code} (omega (arith, c.loop-code-test.true, c.requires.1))).low_fits)

pub bounds-own-at : goal.bounds-own-at
bounds-own-at c = omega (arith, c.loop-code.invariant.size, (code_places c.requires.0 {code = c.loop-code.code} (omega (arith, c.loop-code-test.true, c.requires.1))).code_few)

pub bounds-own-at-in-loop-code : goal.bounds-own-at-in-loop-code
bounds-own-at-in-loop-code c = simp length-set (omega (arith, c.loop-code.invariant.size, (code_places c.requires.0 {code = c.loop-code.code} (omega (arith, c.loop-code-test.true, c.requires.1))).code_few))

pub loop-code-preserved : goal.loop-code-preserved
loop-code-preserved c =
    written_next c.requires.0 c.loop-code.invariant (omega (arith, c.loop-code-test.true, c.requires.1)) c.ending_label-label.result c.ending_label-label.ensures

pub returns : goal.returns
returns c = written_end c.loop-code.invariant (omega arith) c.loop-code-test.false
