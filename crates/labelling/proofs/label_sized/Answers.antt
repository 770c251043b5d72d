use Rattle.std.specs.Prelude.{◌*◌}
use Rattle.basics.proofs.Words.{sym, ℕ, arith, length-replicate}
use Rattle.labelling.proofs.Preparing.{columns_length}
use Rattle.labelling.proofs.label_sized.Goals as goal

pub slice_bounds-label_with-end : goal.slice_bounds-label_with-end
slice_bounds-label_with-end g c =
    sym (columns_length g.row.STEPS (65 * c.args.grid.states) c.requires.columns_fit.0)

pub label_with-requires : goal.label_with-requires
label_with-requires g c =
    let w = columns_length g.row.STEPS (65 * c.args.grid.states) c.requires.columns_fit.0 in (
      c.requires.search,
      omega (arith, w),
      omega (arith, length-replicate {A = ℕ} g.row.ENTRIES 0, c.requires.entries_fit.0),
      record { room = λ n a b. omega (arith, length-replicate {A = ℕ} g.row.JOINT 0, c.requires.joint_fit.0) },
      record { room = λ n a b. omega (arith, length-replicate {A = ℕ} g.row.JOINT 0, c.requires.joint_fit.0) },
    )
