-- How many nodes there are, and which position a node is at.
use Rattle.std.specs.Prelude.{◌≡◌, ◌+◌, ◌*◌, ◌-◌, ◌<◌, ◌≤◌}
use Rattle.basics.specs.Words.{List, ℕ, suc, arith, length, mul-le-mul, mul-le-mul_right, suc-mul}
use Rattle.card.specs.Layout.{symbol_count}
use Rattle.card.specs.Card.{machines_of}
use Rattle.card.specs.Accepted.{accepted}
use Rattle.paths.specs.Numbering.{position_is, position_low, position_high}
use Rattle.product.specs.Setting.{position_of, Setting}
use Rattle.product.specs.Laws.JointStep.{AllSound}
use Rattle.product.specs.Laws.Accepted.{accepted_machines}

module _ {card sets : List ℕ} {P : ℕ} (s : Setting card sets P) where
  pub machines_sound : AllSound (symbol_count card) (machines_of card)
  machines_sound = (accepted_machines card s.accepted).sound

  pub symbols_few : symbol_count card ≤ 63
  symbols_few = (accepted card s.accepted).head.counts.symbols

  pub some_code : 0 < P
  some_code = omega (arith, s.states, (accepted_machines card s.accepted).some_state)

  pub few_codes : P ≤ 128
  few_codes = omega (arith, s.states, (accepted_machines card s.accepted).few_states_lem)

  pub few_nodes : (length sets + 1) * P ≤ 3200
  few_nodes = let n : length sets + 1 ≤ 25 = omega (arith, s.few) in mul-le-mul n few_codes

  -- the nodes of a position are there
  pub node_below : (i u : ℕ) → i ≤ length sets → u < i * P + P → u < (length sets + 1) * P
  node_below i u a b = let m : suc i * P ≤ (length sets + 1) * P = mul-le-mul_right P (omega arith) in omega (arith, suc-mul i P)

  pub node_position : (i z : ℕ) → z < P → position_of card (i * P + z) ≡ i
  node_position i z h = rw (← s.states) (position_is P some_code i z h)

  pub node_low : (u i : ℕ) → position_of card u ≡ i → i * P ≤ u
  node_low u i e = position_low P some_code u i (rw s.states e)

  pub node_high : (u i : ℕ) → position_of card u ≡ i → u < i * P + P
  node_high u i e = position_high P some_code u i (rw s.states e)

  pub node_inside : (u i : ℕ) → i * P ≤ u → u < i * P + P → position_of card u ≡ i
  node_inside u i h k = let q : i * P + (u - i * P) ≡ u = omega arith in rw q at (node_position i (u - i * P) (omega arith))
