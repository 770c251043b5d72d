use Rattle.settling.proofs.Trying.{entry_above, entry_kept, entry_lowered}
use Rattle.settling.proofs.try_entry.Goals as goal

pub returns-then-own-from : goal.returns-then-own-from
returns-then-own-from c =
    entry_above c.requires _ c.high_price.ensures.0 c.if-own-from.true

pub returns-then-is_less : goal.returns-then-is_less
returns-then-is_less c =
    entry_lowered c.requires _ c.high_price.ensures.0 _ c.low_price.ensures.0 (c.is_less.ensures.less c.if-is_less.true) c.put.ensures

pub returns-else-is_less : goal.returns-else-is_less
returns-else-is_less c =
    entry_kept c.requires _ c.high_price.ensures.0 _ c.low_price.ensures.0 (c.is_less.ensures.upto c.if-is_less.false)
