-- Pairs that two arcs have in common, by their kinds and by the sets that they share.
use Rattle.std.specs.Prelude.{◌≡◌, ◌&&◌, ◌||◌, ◌<◌}
use Rattle.basics.specs.Words.{Bool, true, ℕ, eqb, ltb, member}
use Rattle.machine.specs.declared.Pair.{Pair}
use Rattle.machine.specs.Symbols.{is_pair}
use Rattle.machine.specs.Machine.{of_kind}

-- no pair is of both kinds: of one in is equal to out, of the other unlike
abbrev pub kinds_clash : ℕ → ℕ → Bool
kinds_clash k l = (eqb k 1 && ltb 1 l) || (ltb 1 k && eqb l 1)

-- a pair of a kind with in and out in two sets
pub record PairIn (kind inputs outputs : ℕ) : Type 0 where
  pub pair : Pair
  pub input : pair.input < 64
  pub output : pair.output < 64
  pub is_pair_lem : is_pair pair ≡ true
  pub in_set : member inputs pair.input ≡ true
  pub out_set : member outputs pair.output ≡ true
  pub kind_is : of_kind kind pair ≡ true

-- whether there is one
pub record HasPair (kind inputs outputs : ℕ) (r : Bool) : Type 0 where
  pub found : r ≡ true → PairIn kind inputs outputs
  pub missed : PairIn kind inputs outputs → r ≡ true
