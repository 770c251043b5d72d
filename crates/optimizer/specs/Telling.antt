-- What the search says of the best candidate without handing it back: its profile.
use Rattle.std.specs.Prelude.{◌≡◌, ◌≤◌}
use Rattle.basics.specs.Words.{true, List, Option, some, none, ℕ, length}
use Rattle.ranking.specs.declared.Profile.{Profile}
use Rattle.ranking.specs.Rankings.{is_ranking}
use Rattle.candidate.specs.Evaluating.{profile_with}
use Rattle.paths.specs.Ranked.{Ranked}
use Rattle.paths.specs.ByRanking.{ranked}
use Rattle.product.specs.Best.{Contender}
use Rattle.tables.specs.Places.{six_places}

-- a ranking of at most six machines
pub record RankingOfSome (ranking : List ℕ) : Type 0 where
  pub few : length ranking ≤ 6
  pub ranks : is_ranking (length ranking) ranking ≡ true

-- counts in ranked order as a profile in card order: the profile of any counts whose ranked cost they are
abbrev pub CardOrder : List ℕ → Ranked 6 → Profile → Type 0
CardOrder ranking cost r = (counts : List ℕ) (n : ℕ) → length counts ≡ length ranking → cost ≡ ranked (six_places ranking) counts n → r ≡ profile_with counts

abbrev pub profile_told : Option Contender → Option Profile
profile_told none = none
profile_told (some b) = some (profile_with b.profile)

-- the work slice keeps its length; its contents at exit are left open
pub record TellsBest (b : Option Contender) (work workAfter : List ℕ) (r : Profile) : Type 0 where
  pub result : some r ≡ profile_told b
  pub work_length : length workAfter ≡ length work
