use mathlib.Core.Path.{refl}
use Rattle.tally.specs.Tally.{is_full}
use Rattle.tally.proofs.Tally.is_full.Goals as goal

pub returns : goal.returns
unfolding is_full
returns c = refl
