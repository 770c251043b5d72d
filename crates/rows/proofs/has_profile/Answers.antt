use Rattle.layout.specs.LaidOut.{part_within}
use Rattle.rows.specs.Tableau.{row_count}
use Rattle.rows.proofs.has_profile.Goals as goal

pub part-requires : goal.part-requires
part-requires c = part_within (row_count c.args.tableau.now) c.args.tableau.now c.requires.0.layout c.args.i c.requires.1
