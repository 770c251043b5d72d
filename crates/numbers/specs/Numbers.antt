-- How evaluations and the answers of calls that have no engine behind them stand as numbers for C.
use Rattle.std.specs.Prelude.{List, [], ◌∷◌, ◌++◌, ℕ}
use Rattle.std.proofs.Math.Option.{Option, some, none}
use Rattle.ranking.specs.declared.Profile.{Profile}
use Rattle.ranking.specs.declared.Condition.{Condition}
use Rattle.ranking.specs.declared.Order.{Order}
use Rattle.ranking.specs.declared.Order.TheVariants.{Better, Equal, Worse}
use Rattle.card.specs.declared.PartPlace.{PartPlace}
use Rattle.candidate.specs.declared.Evaluation.{Evaluation}

-- the six counts, the pair count, the word length
abbrev pub evaluation_numbers : Evaluation → List ℕ
evaluation_numbers e = e.profile.counts ++ (e.pairs ∷ e.word_length ∷ [])

-- the offset and the length of a part
abbrev pub place_numbers : PartPlace → List ℕ
place_numbers p = p.offset ∷ p.length ∷ []

-- six counts as a profile
abbrev pub as_profile : List ℕ → Profile
as_profile counts = record { counts = counts }

-- better, equal, worse
abbrev pub order_number : Order → ℕ
order_number (Better m) = 1
order_number Equal = 2
order_number (Worse m) = 3

-- the machine that decided: equal carries none, and 0 stands for it
abbrev pub deciding_machine : Order → ℕ
deciding_machine (Better m) = m
deciding_machine Equal = 0
deciding_machine (Worse m) = m

-- the order and the machine that decided; 0 and 0 where comparing was refused
abbrev pub order_numbers : Option Order → List ℕ
order_numbers none = 0 ∷ 0 ∷ []
order_numbers (some o) = order_number o ∷ deciding_machine o ∷ []

-- W and L
abbrev pub condition_numbers : Condition → List ℕ
condition_numbers c = c.fewer ∷ c.more ∷ []
