-- Graphs with ranked costs: what an edge of one letter and an ending of none give.
use Rattle.std.specs.Prelude.{◌≡◌, ℕ, ◌≤◌}
use Rattle.std.proofs.Math.Option.{some}
use Rattle.std.proofs.Common.{arith}
use Rattle.paths.specs.Ranked.{Ranked, add, Less, letter_count, count_at, ranked_costs, letter_positive, letter_count_add, count_at_add}
use Rattle.paths.specs.Graph.{Alphabet, Edge, Graph}
use Rattle.paths.specs.Bounds.{Sized, BoundedCount}

-- an edge of one letter costs something: a graph's `positive`
pub one_letter_positive : (k : ℕ) (e : Ranked k) → letter_count k e ≡ 1 → (c : Ranked k) → Less k c (add k e c)
one_letter_positive k e h c = letter_positive k e (omega arith) c

module _ (k : ℕ) {alphabet : Alphabet} (G : Graph (ranked_costs k) alphabet) where
  open G use {edge, ending}
  open alphabet use {Letter}

  -- where each edge has one letter and an ending none, the letter count is the number of letters
  pub ranked_sized : ((u : ℕ) (p : Letter) (e : Edge (Ranked k)) → edge u p ≡ some e → letter_count k e.cost ≡ 1)
      → ((u : ℕ) (c : Ranked k) → ending u ≡ some c → letter_count k c ≡ 0) → Sized G (letter_count k)
  ranked_sized f g = record { at_end = g; at_edge = λ u p e h c. (omega (arith, letter_count_add k e.cost c, f u p e h)) }

  -- where the count at the place i is `most` at most at each edge and `last` at most at an ending, it is bounded so
  pub ranked_counts : (i most last : ℕ) → ((u : ℕ) (p : Letter) (e : Edge (Ranked k)) → edge u p ≡ some e → count_at k i e.cost ≤ most)
      → ((u : ℕ) (c : Ranked k) → ending u ≡ some c → count_at k i c ≤ last) → BoundedCount G (count_at k i) most last
  ranked_counts i most last f g = record { at_end = g; at_edge = λ u p e h c. (omega (arith, count_at_add k i e.cost c, f u p e h)) }
