-- Marks as one number: what it stands for is their ranked cost.
use Rattle.std.specs.Prelude.{◌≡◌, ◌∷◌, ◌+◌, ◌*◌, ◌^◌, ◌<◌, ◌≤◌}
use Rattle.basics.specs.Words.{List, [], ℕ, zero, suc, arith, length, get_or}
use Rattle.paths.specs.Ranked.{count_at}
use Rattle.paths.specs.ByRanking.{ranked, ranked_letters}
use Rattle.tables.specs.Marks.{nibbles, from_nibbles, marks_cost}
use Rattle.tables.specs.MarksLaws.{from_nibbles_below, nibbles_back}
use Rattle.tables.specs.Places.{six_places, mark_number}

module _ (marks : List ℕ) (few : (i : ℕ) → get_or marks i 0 ≤ 15) where
  counts_few : (places : List ℕ) (n i : ℕ) → count_at (length places) i (ranked places marks n) ≤ 15
  counts_few [] n i = omega arith
  counts_few (m ∷ places) n zero = few m
  counts_few (m ∷ places) n (suc i) = counts_few places n i

  pub number_below : (places : List ℕ) → mark_number places marks < 16 ^ length places
  number_below places = from_nibbles_below (length places) (ranked places marks 1) (counts_few places 1)

  -- the number stands for the ranked cost of the marks and one pair
  pub number_marks : (places : List ℕ) → nibbles (length places) (mark_number places marks) ≡ ranked places marks 1
  number_marks places = nibbles_back (length places) (ranked places marks 1) (counts_few places 1) (ranked_letters places marks 1)

  pub six_cost : (ranking : List ℕ) → marks_cost (mark_number (six_places ranking) marks) ≡ ranked (six_places ranking) marks 1
  six_cost ranking = number_marks (six_places ranking)

  pub six_below : (ranking : List ℕ) → mark_number (six_places ranking) marks < 16 ^ 6
  six_below ranking = number_below (six_places ranking)

-- the number, place by place
pub six_number : (places marks : List ℕ) → length places ≡ 6
    → mark_number places marks
    ≡ get_or marks (get_or places 0 0) 0 * 1048576
    + (get_or marks (get_or places 1 0) 0 * 65536
    + (get_or marks (get_or places 2 0) 0 * 4096 + (get_or marks (get_or places 3 0) 0 * 256 + (get_or marks (get_or places 4 0) 0 * 16 + get_or marks (get_or places 5 0) 0))))
unfolding from_nibbles
six_number (a ∷ b ∷ c ∷ d ∷ e ∷ f ∷ []) marks h = omega arith
six_number [] marks h = absurd (omega arith)
six_number (a ∷ []) marks h = absurd (omega arith)
six_number (a ∷ b ∷ []) marks h = absurd (omega arith)
six_number (a ∷ b ∷ c ∷ []) marks h = absurd (omega arith)
six_number (a ∷ b ∷ c ∷ d ∷ []) marks h = absurd (omega arith)
six_number (a ∷ b ∷ c ∷ d ∷ e ∷ []) marks h = absurd (omega arith)
six_number (a ∷ b ∷ c ∷ d ∷ e ∷ f ∷ g ∷ r) marks h = absurd (omega arith)
