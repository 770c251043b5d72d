use Rattle.std.proofs.Common.{arith}
use Rattle.tables.specs.LabelCost.{cost_of}
use Rattle.tables.proofs.Prefix.{front_fits}
use Rattle.readout.proofs.Reading.{start_there}
use Rattle.optimizer.proofs.Telling.{some_ranking, best_told}
use Rattle.optimizer.proofs.label_sets.Goals as goal

pub start_node-requires : goal.start_node-requires
start_node-requires c =
    front_fits c.args.card.now c.requires.0.setting.accepted c.args.grid.counts c.args.grid.machines c.requires.1.machines c.requires.1.counts

pub load-label-requires : goal.load-label-requires
load-label-requires c = omega (arith, start_there c.requires.0 c.label.ensures, c.start_node.ensures _ c.requires.1)

pub profile_of-requires : goal.profile_of-requires
profile_of-requires c = some_ranking c.requires.0

pub returns : goal.returns
returns c =
    record {
      result = best_told c.requires.0 c.label.ensures c.requires.2 c.start_node.result (c.start_node.ensures _ c.requires.1) (cost_of c.load-label.result) c.load-label.ensures c.profile_of.result c.profile_of.ensures;
      work_length = c.label.ensures.size;
    }
