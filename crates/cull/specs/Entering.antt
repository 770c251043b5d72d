-- Entering the last position in a stage by its endings.
use Rattle.std.specs.Prelude.{◌≡◌, ◌+◌, ◌*◌, ◌/◌, ◌%◌, ◌^◌, ◌≤◌, ◌<◌}
use Rattle.basics.specs.Words.{List, ℕ, length, get_or}
use Rattle.stage_entering.specs.declared.Site.{Site}
use Rattle.stage_entering.specs.Entering.{codes_at}

-- the first of the four numbers of a code, in the table of either group
abbrev pub end_sum : List ℕ → (front back c : ℕ) → ℕ
end_sum table front back c = get_or table (c / back * 4) 0 + get_or table ((front + c % back) * 4) 0

-- what trying the endings of the nodes from b on needs
pub record EndingsPre (xs high low : List ℕ) (at : Site) : Type 0 where
  pub nodes : (at.base + codes_at at) * 8 ≤ length xs
  pub few_nodes : at.base + codes_at at ≤ 3200
  pub stage : at.stage < 6
  pub few : codes_at at ≤ 128
  pub size_is : codes_at at ≡ at.groups.front * at.groups.back
  pub small : at.groups.front + at.groups.back ≤ 66
  pub some_back : 0 < at.groups.back
  pub high_room : (at.groups.front + at.groups.back) * 4 ≤ length high
  pub low_room : (at.groups.front + at.groups.back) * 4 ≤ length low
  pub high_sums : (c : ℕ) → c < codes_at at → end_sum high at.groups.front at.groups.back c < 2 ^ 64
  pub low_sums : (c : ℕ) → c < codes_at at → end_sum low at.groups.front at.groups.back c < 2 ^ 64
