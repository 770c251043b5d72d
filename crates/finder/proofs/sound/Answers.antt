use Rattle.std.specs.Prelude.{◌&&◌}
use Rattle.basics.proofs.Words.{ap₂}
use Rattle.finder.specs.Finder.{sound_condition}
use Rattle.finder.proofs.Sets.{below_shifted}
use Rattle.finder.proofs.sound.Goals as goal

pub returns : goal.returns
unfolding sound_condition
returns c =
    ap₂ ◌&&◌ (ap₂ ◌&&◌ c.disjoint.ensures (below_shifted c.args.machines c.args.condition.fewer)) (below_shifted c.args.machines c.args.condition.more)
