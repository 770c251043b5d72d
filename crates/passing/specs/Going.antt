-- Going on by a pair, and the ending.
use Rattle.std.specs.Prelude.{◌≡◌, ◌+◌, ◌*◌, ◌<◌, ◌≤◌}
use Rattle.basics.specs.Words.{List, some, ℕ, length, get_or, set}
use Rattle.ranking.specs.declared.Profile.{Profile}
use Rattle.card.specs.Card.{machines_of, card_refusal}
use Rattle.product.specs.JointStep.{joint_ending}
use Rattle.passing.specs.Places.{MarksPre, MarksAdded, MovedPre, Moved}

-- ---- by a pair

-- the output y has a step at every place, and there is room for a pair more
pub record GoPre (states marks steps ps answer : List ℕ) (W y written : ℕ) : Type 0 where
  pub moves : MovedPre steps ps W y
  pub output : y < 64
  pub marks_fit : MarksPre marks
  pub size : length states ≡ 6
  pub room : 2 * written + 1 < length answer
  pub few : written < 65536

-- the states are those led to, the marks are added, and the pair of the input x and the output is written
pub record GoesOn (marks steps ps answer states' marks' answer' : List ℕ) (W x y written : ℕ) : Type 0 where
  pub moved : Moved steps ps W y states'
  pub added : MarksAdded marks steps ps W y marks'
  pub bytes : answer' ≡ set (set answer (2 * written) x) (2 * written + 1) y

-- ---- the ending

pub record EndsPre (card states : List ℕ) (profile : Profile) : Type 0 where
  pub accepted : card_refusal card ≡ 0
  pub size : length states ≡ length (machines_of card)
  pub profile_size : length profile.counts ≡ 6
  pub fits : (m : ℕ) → get_or profile.counts m 0 + 255 ≤ 65535

-- where every machine ends in its state, the marks of the endings are added
pub record EndingAdded (card states : List ℕ) (profile r : Profile) : Type 0 where
  pub size : length r.counts ≡ 6
  pub sums : (v : List ℕ) → joint_ending (machines_of card) states ≡ some v → (m : ℕ) → get_or r.counts m 0 ≡ get_or profile.counts m 0 + get_or v m 0
