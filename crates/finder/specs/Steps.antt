-- What the finder's inner functions answer. The finder's own contract rests on none of it.
use Rattle.std.specs.Prelude.{◌&&◌, ◌+◌}
use Rattle.basics.specs.Words.{Bool, not, List, Option, some, none, ℕ, get_or, all_of, first_that, numbers_below, member}
use Rattle.ranking.specs.declared.Condition.{Condition}
use Rattle.std.specs.Prelude.{Option as Answer, Some, None}
use Rattle.finder.specs.Finder.{disjoint}

-- the condition whose bytes stand at a place of a list
abbrev pub condition_at : List ℕ → ℕ → Condition
condition_at l at = record { fewer = get_or l at 0; more = get_or l (at + 1) 0 }

-- no machine placed is in W, so that the condition is open still, and the machine is in L
abbrev pub blocks : ℕ → ℕ → Condition → Bool
blocks placed m c = disjoint c.fewer placed && member c.more m

-- no condition keeps the machine from the next place
abbrev pub may_stand : List Condition → ℕ → ℕ → Bool
may_stand cs placed m = all_of (λ c. not (blocks placed m c)) cs

-- the smallest machine that is not placed and may stand at the next place
unfoldable pub next_machine : ℕ → List Condition → ℕ → Option ℕ
next_machine K cs placed = first_that (λ m. not (member placed m) && may_stand cs placed m) (numbers_below K)

-- what the code answers
abbrev pub next_of : Answer ℕ → Option ℕ
next_of (Some m) = some m
next_of None = none
