use mathlib.Core.Path.{sym}
use Rattle.closing.proofs.Passing.{or_there, or_gone}
use Rattle.closing.proofs.or_none.Goals as goal

pub returns-then-high-lt-NOWHERE : goal.returns-then-high-lt-NOWHERE
returns-then-high-lt-NOWHERE c = sym (or_there _ c.if-high-lt-NOWHERE.true)

pub returns : goal.returns
returns c = sym (or_gone _ c.if-high-lt-NOWHERE.false)
