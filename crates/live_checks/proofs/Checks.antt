-- What the numbers of the checks say, and how they make up the number of a call. Assumes nothing.
use Rattle.std.specs.Prelude.{◌≡◌, ◌∷◌, ◌<◌, ◌≤◌}
use Rattle.basics.proofs.Words.{refl, Bool, true, List, [], ℕ, zero, suc, arith, length, lit<, leb, ltb, leb-true, ltb-true, left, right}
use Rattle.refusals.specs.Refusals.{refuse, first_of}
use Rattle.refusals.proofs.Refusals.{passed, none_first, last_one}
use Rattle.ranking.specs.Rankings.{is_machine_count, is_ranking}
use Rattle.ranking.specs.Lemmas.Rankings.{ranking_facts, machine_count_lem}
use Rattle.live_checks.specs.Room.{fits, has_room}

-- the number of some checks is that of one more, or the last decides
pub three_stay : (a b c d : ℕ) → 0 < first_of (a ∷ b ∷ c ∷ []) → first_of (a ∷ b ∷ c ∷ d ∷ []) ≡ first_of (a ∷ b ∷ c ∷ [])
three_stay zero zero zero d h = absurd (omega arith)
three_stay zero zero (suc c) d h = refl
three_stay zero (suc b) c d h = refl
three_stay (suc a) b c d h = refl

pub three_go : (a b c d : ℕ) → first_of (a ∷ b ∷ c ∷ []) ≡ 0 → first_of (a ∷ b ∷ c ∷ d ∷ []) ≡ d
three_go zero zero zero d h = last_one d
three_go zero zero (suc c) d h = absurd (omega arith)
three_go zero (suc b) c d h = absurd (omega arith)
three_go (suc a) b c d h = absurd (omega arith)

-- the number of the checks 1, 7 and 23
abbrev pub first_three : ℕ → List ℕ → Bool → ℕ
first_three K ranking sound = first_of (refuse 1 (is_machine_count K) ∷ refuse 7 (is_ranking K ranking) ∷ refuse 23 sound ∷ [])

-- what the number says where it is 0
pub record ThreePassed (K : ℕ) (ranking : List ℕ) (sound : Bool) : Type 0 where
  pub counts : is_machine_count K ≡ true
  pub ranks : is_ranking K ranking ≡ true
  pub rows : sound ≡ true

pub all_passed : (K : ℕ) (ranking : List ℕ) (sound : Bool) → first_three K ranking sound ≡ 0 → ThreePassed K ranking sound
all_passed K ranking sound e =
    let a = none_first (refuse 1 (is_machine_count K)) (refuse 7 (is_ranking K ranking) ∷ refuse 23 sound ∷ []) e in
    let b = none_first (refuse 7 (is_ranking K ranking)) (refuse 23 sound ∷ []) a.1 in
    let c = none_first (refuse 23 sound) [] b.1 in
    record {
      counts = passed 1 (is_machine_count K) (lit< tt) a.0;
      ranks = passed 7 (is_ranking K ranking) (lit< tt) b.0;
      rows = passed 23 sound (lit< tt) c.0;
    }

pub fits_within : (count length : ℕ) → fits count length ≡ true → count ≤ length
fits_within count length t = leb-true count length (right (leb count 32) (leb count length) t)

pub room_within : (count length : ℕ) → has_room count length ≡ true → count < length
room_within count length t = ltb-true count length (right (ltb count 32) (ltb count length) t)

pub room_few : (count length : ℕ) → has_room count length ≡ true → count < 32
room_few count length t = ltb-true count 32 (left (ltb count 32) (ltb count length) t)

-- what the comparison asks of a ranking
pub ranking_sound : (K : ℕ) (ranking : List ℕ) → is_machine_count K ≡ true → is_ranking K ranking ≡ true → (is_ranking (length ranking) ranking ≡ true) × (length ranking ≤ 6)
ranking_sound K ranking counts ranks =
    let f = ranking_facts K ranking ranks in
    let e : length ranking ≡ K = f.places in
    (rw e ranks, omega (arith, e, machine_count_lem K counts))
