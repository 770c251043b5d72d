-- Bounds: a path that passes no node twice is short, so attained labels are small.
use Rattle.std.specs.Prelude.{◌≡◌, List, ℕ, suc, ◌+◌, ◌*◌, ◌≤◌, ◌<◌, length}
use Rattle.std.proofs.Math.Option.{some}
use Rattle.std.proofs.Common.{arith, mul-suc}
use Rattle.paths.specs.Costs.{Costs, Labels}
use Rattle.paths.specs.Pigeonhole.{Distinct, AllBelow, pigeonhole}
use Rattle.paths.specs.Graph.{Alphabet, Edge, Graph, path_cost, nodes, Within, Run, run→cost, cost→run, nodes_length}
use Rattle.paths.specs.Labels.{Attained, held→run}

-- the number of letters is a part of the cost: `size` tells it
pub record Sized {costs : Costs} {alphabet : Alphabet} (G : Graph costs alphabet) (size : costs.Cost → ℕ) : Type 0 where
  pub at_end : (u : ℕ) (c : costs.Cost) → G.ending u ≡ some c → size c ≡ 0
  pub at_edge : (u : ℕ) (p : alphabet.Letter) (e : Edge costs.Cost) → G.edge u p ≡ some e → (c : costs.Cost) → size (costs.◌⊕◌ e.cost c) ≡ suc (size c)

-- a count that each edge raises by `most` at most, and that an ending has `last` of at most
pub record BoundedCount {costs : Costs} {alphabet : Alphabet} (G : Graph costs alphabet) (count : costs.Cost → ℕ) (most last : ℕ) : Type 0 where
  pub at_end : (u : ℕ) (c : costs.Cost) → G.ending u ≡ some c → count c ≤ last
  pub at_edge : (u : ℕ) (p : alphabet.Letter) (e : Edge costs.Cost) → G.edge u p ≡ some e → (c : costs.Cost) → count (costs.◌⊕◌ e.cost c) ≤ most + count c

module _ {costs : Costs} {alphabet : Alphabet} (G : Graph costs alphabet) where
  open costs use {Cost}
  open alphabet use {Letter}

  pub run_size : {size : Cost → ℕ} → Sized G size → {u : ℕ} {ps : List Letter} {c : Cost} → Run G u ps c → size c ≡ length ps
  run_size Z (Run.halt {u} {c} h) = Z.at_end u c h
  run_size Z (Run.step {u} {p} e d h r q) = rw (q, Z.at_edge u p e h d, run_size Z r)

  -- a path's count is at most `most` for each letter, and `last`
  pub run_count : {count : Cost → ℕ} {most last : ℕ} → BoundedCount G count most last → {u : ℕ} {ps : List Letter} {c : Cost} → Run G u ps c → count c ≤ most * length ps + last
  run_count B (Run.halt {u} {c} h) = omega (arith, B.at_end u c h)
  run_count {most = most} B (Run.step {u} {p} {ps} e d h r q) = rw q (omega (arith, B.at_edge u p e h d, run_count B r, mul-suc most (length ps)))

  nodes_below : {N : ℕ} → Within G N → {u : ℕ} {ps : List Letter} {c : Cost} → u < N → Run G u ps c → AllBelow N (nodes G u ps)
  unfolding nodes
  nodes_below W b (Run.halt h) = (b, tt)
  nodes_below W b (Run.step {u} {p} e d h r q) = rw h (b, nodes_below W (W u p e h) r)

  -- ---- Theorem 3: with all nodes below N, a path that passes no node twice has fewer than N letters

  pub distinct_short : {N : ℕ} → Within G N → (u : ℕ) (ps : List Letter) (c : Cost) → u < N → path_cost G u ps ≡ some c → Distinct (nodes G u ps) → length ps < N
  distinct_short {N} W u ps c b h k =
      let r = cost→run G u ps c h in
      rw (← nodes_length G r) (pigeonhole N (nodes G u ps) k (nodes_below W b r))

  -- an attained label is the cost of a path of fewer than N letters
  pub record ShortPath (N u : ℕ) (c : Cost) : Type 0 where
    pub letters : List Letter
    pub is : path_cost G u letters ≡ some c
    pub fewer : length letters < N

  module _ {N : ℕ} (W : Within G N) {L : Labels costs} (A : Attained G L) (u : ℕ) (c : Cost) (b : u < N) (l : L u ≡ some c) where
    pub attained_short : ShortPath N u c
    attained_short =
        let a = A u c l in
        let h = run→cost G (held→run G a.held) in
        record { letters = a.letters; is = h; fewer = distinct_short W u a.letters c b h a.distinct }

    -- so its size is below N
    pub attained_size : {size : Cost → ℕ} → Sized G size → size c < N
    attained_size Z =
        let s = attained_short in
        rw (run_size Z (cost→run G u s.letters c s.is)) s.fewer

    -- and its count is at most `most` for each letter of it, and `last`
    pub attained_count_size : {size count : Cost → ℕ} {most last : ℕ} → Sized G size → BoundedCount G count most last → count c ≤ most * size c + last
    attained_count_size Z B =
        let s = attained_short in
        let r = cost→run G u s.letters c s.is in
        rw (run_size Z r) (run_count B r)
