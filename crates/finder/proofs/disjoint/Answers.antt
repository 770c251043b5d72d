use Rattle.finder.proofs.Sets.{disjoint_and}
use Rattle.finder.proofs.disjoint.Goals as goal

pub returns : goal.returns
returns c = disjoint_and c.args.a c.args.b c.ranges.a.fits c.ranges.b.fits
