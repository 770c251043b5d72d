use Rattle.basics.proofs.Words.{List, ℕ}
use Rattle.settling.specs.Insertions.{lists_of}
use Rattle.settling.proofs.Settling.{Settling, height_of}
use Rattle.settling.proofs.settle.Given as goal

abbrev pub invariant-loop-last : goal.invariant-loop-last
invariant-loop-last l =
    Settling (lists_of l.entries l.ends l.highs l.ranked) l.initial.own l.own l.opened l.last

-- from the start of the loop on
abbrev pub invariant-loop-next : goal.invariant-loop-next
invariant-loop-next l =
    (xs : List ℕ) (n : ℕ) → Settling (lists_of l.entries l.ends l.highs l.ranked) xs l.initial.own l.initial.opened n → Settling (lists_of l.entries l.ends l.highs l.ranked) xs l.own l.opened n

abbrev pub invariant-loop-code : goal.invariant-loop-code
invariant-loop-code l =
    (xs : List ℕ) (n : ℕ) → Settling (lists_of l.entries l.ends l.highs l.ranked) xs l.initial.own l.initial.opened n → Settling (lists_of l.entries l.ends l.highs l.ranked) xs l.own l.opened n

abbrev pub decreases-loop-code : goal.decreases-loop-code
decreases-loop-code l = height_of l.own l.opened
