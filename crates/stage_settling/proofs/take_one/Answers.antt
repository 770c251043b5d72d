use Rattle.basics.proofs.Words.{◌∙◌}
use Rattle.stage_settling.proofs.take_one.Goals as goal
