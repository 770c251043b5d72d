use Rattle.std.proofs.Common.{arith, lit≤}
use Rattle.product.specs.Laws.Setting.{few_codes}
use Rattle.labelling.proofs.Sizes.{states_few, states_small}
use Rattle.labelling.proofs.label_all.Goals as goal

pub label_sized-requires : goal.label_sized-requires
label_sized-requires c =
    let q = c.requires in
    let few = c.if-grid-le16.true in
    record {
      search = q;
      columns_fit = (omega (arith, states_small q.setting.accepted q.grid_of few), lit≤ tt);
      entries_fit = (omega (arith, few), lit≤ tt);
      joint_fit = (omega (arith, few), lit≤ tt);
    }

pub label_sized-requires-else-grid-le16 : goal.label_sized-requires-else-grid-le16
label_sized-requires-else-grid-le16 c =
    let q = c.requires in
    record {
      search = q;
      columns_fit = (omega (arith, states_few q.setting.accepted q.grid_of), lit≤ tt);
      entries_fit = (omega (arith, few_codes q.setting), lit≤ tt);
      joint_fit = (omega arith, lit≤ tt);
    }
