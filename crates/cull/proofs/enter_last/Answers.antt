use Rattle.basics.specs.Words.{◌∙◌, arith}
use Rattle.basics.proofs.Words.{rules}
use Rattle.columns.specs.Filling.{Small}
use Rattle.cull.proofs.Ending.{fill_ready, add_ready, endings_ready, endings_tried}
use Rattle.cull.proofs.enter_last.Goals as goal

pub fill_endings-requires : goal.fill_endings-requires
fill_endings-requires c =
    fill_ready c.requires

pub add_four-requires : goal.add_four-requires
add_four-requires c =
    let s = c.requires in
    let q : Small c.args.steps.now = search rules in
    add_ready s q c.fill_endings.ensures s.tables.groups.states_are s.high_size s.low_size

pub try_endings-requires : goal.try_endings-requires
try_endings-requires c =
    let s = c.requires in
    let q : Small c.args.steps.now = search rules in
    endings_ready s q c.fill_endings.ensures s.tables.groups.states_are (c.add_four.auto.high ∙ s.high_size) (c.add_four.auto.low ∙ s.low_size) c.add_four.ensures

pub returns : goal.returns
returns c =
    let s = c.requires in
    let q : Small c.args.steps.now = search rules in
    endings_tried s q c.fill_endings.ensures s.tables.groups.states_are (c.add_four.auto.high ∙ s.high_size) (c.add_four.auto.low ∙ s.low_size) c.add_four.ensures c.try_endings.ensures
