-- A lesson's tally: how a line is counted.
use Rattle.std.specs.Prelude.{Bool, true, false, Option as Answer, Some, None, List, [], ◌∷◌, ℕ, ◌+◌, ◌*◌, ◌≤◌, get_or, leb}
use Rattle.std.proofs.Math.Option.{Option, some, none}
use Rattle.tally.specs.declared.Tally.{Tally}

-- counts as the code hands them on
abbrev pub told : Answer (List ℕ) → Option (List ℕ)
told (Some counts) = some counts
told None = none

-- no line yet
abbrev pub no_lines : Tally
no_lines = record { answered = 0; refused = 0; totals = 0 ∷ 0 ∷ 0 ∷ 0 ∷ 0 ∷ 0 ∷ []; past = false }

-- numbers added place by place
unfoldable pub added : List ℕ → List ℕ → List ℕ
added [] cs = []
added (t ∷ ts) [] = t ∷ ts
added (t ∷ ts) (c ∷ cs) = (t + c) ∷ added ts cs

-- one line more, answered with its counts or refused
abbrev pub counted : Tally → Option (List ℕ) → Tally
counted t none = record { answered = t.answered; refused = t.refused + 1; totals = t.totals; past = t.past }
counted t (some counts) = record { answered = t.answered + 1; refused = t.refused; totals = added t.totals counts; past = t.past }

-- a thousand lines are counted
unfoldable pub is_full : Tally → Bool
is_full t = leb 1000 (t.answered + t.refused)

-- a line past the thousandth has come
abbrev pub passed : Tally → Tally
passed t = record { answered = t.answered; refused = t.refused; totals = t.totals; past = true }

-- no sum of a tally wraps: at most a thousand lines are counted, and each adds at most 65,535 to a total
pub record Fits (t : Tally) : Type 0 where
  pub few : t.answered + t.refused ≤ 1000
  pub small : (i : ℕ) → get_or t.totals i 0 ≤ 65535 * t.answered
