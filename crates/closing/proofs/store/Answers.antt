use Rattle.basics.proofs.Words.{arith, rules}
use Rattle.tables.proofs.Work.{written, stored}
use Rattle.closing.proofs.ClosingCodes.{first_few, label_stored, none_stored}
use Rattle.closing.proofs.store.Goals as goal

pub returns-then-high-ge-NOWHERE : goal.returns-then-high-ge-NOWHERE
returns-then-high-ge-NOWHERE c = none_stored _ _ _ _ c.requires.0 c.if-high-ge-NOWHERE.true

pub overflow_cast-work : goal.overflow_cast-work
overflow_cast-work c = omega (arith, first_few c.args.high (c.requires.1 c.if-high-ge-NOWHERE.false))

pub returns : goal.returns
unfolding written
returns c = label_stored _ _ _ _ _ c.if-high-ge-NOWHERE.false (c.requires.1 c.if-high-ge-NOWHERE.false) (search rules) (stored _ _ c.requires.0 _ _ _ _ _ _ _)
