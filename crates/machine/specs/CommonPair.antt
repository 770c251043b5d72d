-- Two arcs take one pair exactly when there is a pair, of the symbols that a set can have, that both take. Assumes nothing.
use Rattle.std.specs.Prelude.{◌≡◌, ◌&&◌, ◌<◌}
use Rattle.basics.proofs.Words.{true, some_below, both, left, right, found_below, finds_below}
use Rattle.machine.specs.declared.Arc.{Arc}
use Rattle.machine.specs.declared.Pair.{Pair}
use Rattle.machine.specs.Symbols.{is_pair}
use Rattle.machine.specs.Machine.{takes, both_take, take_one_pair}

pub record CommonPair (a b : Arc) : Type 0 where
  pub pair : Pair
  pub input : pair.input < 64
  pub output : pair.output < 64
  pub is_pair_lem : is_pair pair ≡ true
  pub first : takes a pair ≡ true
  pub second : takes b pair ≡ true

pub take_one : (a b : Arc) (p : Pair) → p.input < 64 → p.output < 64 → is_pair p ≡ true → takes a p ≡ true → takes b p ≡ true → take_one_pair a b ≡ true
unfolding take_one_pair
take_one a b p hx hy q ta tb =
    found_below (λ x. some_below (λ y. both_take a b (record { input = x; output = y })) 64) 64 p.input hx
    (found_below (λ y. both_take a b (record { input = p.input; output = y })) 64 p.output hy (both (both q ta) tb))

pub common_pair : (a b : Arc) → take_one_pair a b ≡ true → CommonPair a b
unfolding take_one_pair
common_pair a b t =
    let x = finds_below (λ x. some_below (λ y. both_take a b (record { input = x; output = y })) 64) 64 t in
    let y = finds_below (λ y. both_take a b (record { input = x.0; output = y })) 64 x.2 in
    let p : Pair = record { input = x.0; output = y.0 } in
    let ia = left (is_pair p && takes a p) (takes b p) y.2 in
    record {
      pair = p;
      input = x.1;
      output = y.1;
      is_pair_lem = left (is_pair p) (takes a p) ia;
      first = right (is_pair p) (takes a p) ia;
      second = right (is_pair p && takes a p) (takes b p) y.2;
    }
