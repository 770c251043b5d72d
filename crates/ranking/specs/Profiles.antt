-- Violation profiles: how often each machine's constraint is broken, in card order.
use Rattle.std.specs.Prelude.{◌∷◌, ◌+◌}
use Rattle.basics.specs.Words.{List, [], ℕ, replicate}
use Rattle.ranking.specs.declared.Profile.{Profile}

-- the profile of no violations
abbrev pub zero_profile : Profile
zero_profile = record { counts = replicate 6 0 }

-- the merge of two profiles, by their counts: counts add
unfoldable pub merge : List ℕ → List ℕ → List ℕ
merge [] w = w
merge (x ∷ v) [] = x ∷ v
merge (x ∷ v) (y ∷ w) = (x + y) ∷ merge v w
