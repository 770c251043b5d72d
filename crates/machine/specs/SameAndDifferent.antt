-- What an arc's kind says of the pairs that it takes; arcs of kinds 1 and 2 never clash. Assumes nothing.
use Rattle.std.specs.Prelude.{◌≡◌, ◌&&◌}
use Rattle.basics.proofs.Words.{true, false, ℕ, zero, suc, arith, eqb, member, fails, left, right}
use Rattle.std.proofs.Common.{eqb-true}
use Rattle.std.proofs.lemmas.Bool.{eqb-false, not-true}
use Rattle.machine.specs.declared.Arc.{Arc}
use Rattle.machine.specs.declared.Pair.{Pair}
use Rattle.machine.specs.Symbols.{is_pair}
use Rattle.machine.specs.Machine.{of_kind, takes, take_one_pair, clash}
use Rattle.machine.specs.CommonPair.{common_pair}

kind_same : (k : ℕ) (p : Pair) → k ≡ 1 → of_kind k p ≡ true → (is_pair p ≡ true) × (p.input ≡ p.output)
unfolding of_kind
kind_same zero p e t = absurd (omega arith)
kind_same (suc zero) p e t =
    (left (is_pair p) (eqb p.input p.output) t, eqb-true p.input p.output (right (is_pair p) (eqb p.input p.output) t))
kind_same (suc (suc k)) p e t = absurd (omega arith)

kind_different : (k : ℕ) (p : Pair) → k ≡ 2 → of_kind k p ≡ true → p.input ≡ p.output → ⊥
unfolding of_kind
kind_different zero p e t = absurd (omega arith)
kind_different (suc zero) p e t = absurd (omega arith)
kind_different (suc (suc k)) p e t = eqb-false p.input p.output (not-true (eqb p.input p.output) t)

module _ (a : Arc) (p : Pair) (t : takes a p ≡ true) where
  is_of_kind : of_kind a.kind p ≡ true
  unfolding takes
  is_of_kind = right (member a.inputs p.input && member a.outputs p.output) (of_kind a.kind p) t

  -- an arc of kind 1 takes only pairs with in equal to out, and never 0:0
  pub takes_same : a.kind ≡ 1 → (is_pair p ≡ true) × (p.input ≡ p.output)
  takes_same e = kind_same a.kind p e is_of_kind

  -- an arc of kind 2 takes only pairs with in unlike out
  pub takes_different : a.kind ≡ 2 → p.input ≡ p.output → ⊥
  takes_different e = kind_different a.kind p e is_of_kind

-- no pair is taken by arcs of both
no_common : (a b : Arc) (p : Pair) → a.kind ≡ 1 → b.kind ≡ 2 → takes a p ≡ true → takes b p ≡ true → ⊥
no_common a b p e f ta tb = takes_different b p tb f (takes_same a p ta e).1

-- so the two do not clash, whichever comes first and whatever their sets are
pub same_and_different : (a b : Arc) → a.kind ≡ 1 → b.kind ≡ 2 → (clash a b ≡ false) × (clash b a ≡ false)
unfolding clash
same_and_different a b e f = (
  fails (clash a b) (λ t. let c = common_pair a b (right (eqb a.from b.from) (take_one_pair a b) t) in no_common a b c.pair e f c.first c.second),
  fails (clash b a) (λ t. let c = common_pair b a (right (eqb b.from a.from) (take_one_pair b a) t) in no_common a b c.pair e f c.second c.first),
)
