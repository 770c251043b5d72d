-- Violations as costs: those of a profile, and the infinite cost, which is that of no candidate (Riggle, section 3).
use Rattle.std.specs.Prelude.{◌≡◌}
use Rattle.basics.specs.Words.{List, ℕ, length, take}
use Rattle.ranking.specs.Profiles.{zero_profile, merge}
use Rattle.ranking.specs.Harmony.{better_of}

pub data Violations : Type 0 where
  finite : List ℕ → Violations
  infinite : Violations

-- infinite, or of K counts, as the profiles of a card with K machines are
abbrev pub OfCounts : ℕ → Violations → Type 0
OfCounts K infinite = Unit {0}
OfCounts K (finite v) = length v ≡ K

-- no violations: the zero profile's counts that K machines use
abbrev pub no_violations : ℕ → Violations
no_violations K = finite (take K zero_profile.counts)

-- the merge of two: counts add, and what is merged with the infinite cost is infinite
abbrev pub merge_costs : Violations → Violations → Violations
merge_costs infinite b = infinite
merge_costs (finite v) infinite = infinite
merge_costs (finite v) (finite w) = finite (merge v w)

-- the better of two under a ranking: the infinite cost is the worst
abbrev pub better_cost : List ℕ → Violations → Violations → Violations
better_cost r infinite b = b
better_cost r (finite v) infinite = finite v
better_cost r (finite v) (finite w) = finite (better_of r v w)
