use Rattle.std.specs.Prelude.{◌≡◌, ◌+◌, ◌*◌}
use Rattle.basics.proofs.Words.{ap, ◌∙◌, [], ℕ, arith, length, set, length-set, add-one}
use Rattle.layout.specs.Packing.{total, packed}
use Rattle.layout.proofs.Writing.{written, written_two, places_next, table_written}
use Rattle.layout.specs.Laws.Parts.{total_next, total_parted}
use Rattle.layout.proofs.packing.write_table.Goals as goal

pub loop-i-init : goal.loop-i-init
unfolding total packed
loop-i-init c =
    (omega arith, written_two (length c.args.lengths.now) c.args.symbols c.args.target.now (omega arith))

pub write_short-requires : goal.write_short-requires
write_short-requires c =
    (omega (arith, c.loop-i.auto.target, length-set {A = ℕ}), omega (arith, total_parted c.loop-i.i c.args.lengths.now))

pub overflow_add-start-in-loop-i : goal.overflow_add-start-in-loop-i
overflow_add-start-in-loop-i c =
    omega (arith, total_parted c.loop-i.i c.args.lengths.now)

pub loop-i-preserved : goal.loop-i-preserved
loop-i-preserved c =
    let l = c.args.lengths.now in
    let i = c.loop-i.i in (
      rw add-one (omega (arith, total_next l i (omega arith))),
      places_next c.args.symbols l i c.loop-i.start c.from-length.result (set (set c.args.target.now 0 (length l)) 1 c.args.symbols) c.loop-i.target c.write_short.new.target c.write_short-in-loop-i.new.target
          (omega arith) (simp length-set (omega arith)) c.loop-i.invariant.0 c.from-length.ensures c.loop-i.invariant.1 c.write_short.ensures c.write_short-in-loop-i.ensures,
    )

pub returns : goal.returns
returns c =
    let e : c.loop-i.i ≡ length c.args.lengths.now = omega arith in
    c.loop-i.invariant.1
    ∙ ap (λ n. written (packed c.args.symbols c.args.lengths.now []) (2 + 4 * n) (set (set c.args.target.now 0 (length c.args.lengths.now)) 1 c.args.symbols)) e
    ∙ table_written c.args.symbols c.args.lengths.now c.args.target.now (length c.args.lengths.now) c.args.symbols
