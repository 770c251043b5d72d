-- The cost that a label has: six counts in ranked order, and the number of pairs.
use Rattle.std.specs.Prelude.{ℕ, zero, suc, ◌<◌}
use Rattle.paths.specs.Ranked.{Ranked}
use Rattle.tables.specs.declared.labels.Label.{Label}

abbrev pub cost_of : Label → Ranked 6
cost_of l = (l.first, (l.second, (l.third, (l.fourth, (l.fifth, (l.sixth, l.pairs))))))

-- each count fits into 16 bits
abbrev pub AllShort : (k : ℕ) → Ranked k → Type 0
AllShort zero c = c < 65536
AllShort (suc k) c = (c.0 < 65536) × AllShort k c.1
