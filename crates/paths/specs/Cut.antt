-- Cutting: a path that passes a node twice can be cut there, which makes it cheaper. So below N nodes every path has one of fewer than N
-- letters that is cheaper, or is such a one itself.
use Rattle.std.specs.Prelude.{◌≡◌, refl, ◌⊎◌, ◌≢◌, List, [], ◌∷◌, length}
use Rattle.std.proofs.Math.Logic.{inl, inr}
use Prim.Native.Nat.{ℕ, zero, suc, ◌≤◌, ◌<◌}
use native.Mathlib.Omega.{arith}
use Rattle.std.proofs.Math.Decide.{ℕ_discrete}
use Rattle.paths.specs.Total.{Upto, upto_less}
use Rattle.paths.specs.Costs.{Costs}
use Rattle.paths.specs.Pigeonhole.{NotIn, Distinct}
use Rattle.paths.specs.Graph.{Alphabet, Graph, nodes, Within, Run, run→cost}
use Rattle.paths.specs.Costly.{Costly}
use Rattle.paths.specs.Bounds.{distinct_short}

module _ {costs : Costs} {alphabet : Alphabet} (G : Graph costs alphabet) where
  infixl 65 ◌⊕◌
  infix 4 ◌≺◌
  open G use {positive}
  open costs use {Cost, ◌⊕◌, ◌≺◌, total, shift_left}
  open alphabet use {Letter}

  -- a path from w of at most n letters that costs at most c
  record Onward (w n : ℕ) (c : Cost) : Type 0 where
    letters : List Letter
    cost : Cost
    run : Run G w letters cost
    upto : Upto ◌≺◌ cost c
    fewer : length letters ≤ n

  onward_step : {w n : ℕ} {c d : Cost} → c ≺ d → Onward w n c → Onward w (suc n) d
  onward_step h o = record { letters = o.letters; cost = o.cost; run = o.run; upto = inl (upto_less total o.upto h); fewer = omega arith }

  -- a path from u that is cheaper than c, of fewer than n letters
  pub record Cheaper (u n : ℕ) (c : Cost) : Type 0 where
    pub letters : List Letter
    pub cost : Cost
    pub run : Run G u letters cost
    pub cheaper : cost ≺ c
    pub fewer : length letters < n

  -- a path from u of fewer than N letters that is cheaper than the path ps at the cost c, or is that path
  pub record Short (N u : ℕ) (ps : List Letter) (c : Cost) : Type 0 where
    pub letters : List Letter
    pub cost : Cost
    pub run : Run G u letters cost
    pub fewer : length letters < N
    pub better : (cost ≺ c) ⊎ ((cost ≡ c) × (letters ≡ ps))

  -- where every edge costs something
  module _ (costly : Costly G) where
    -- a path that passes w goes on from there
    from_node : (w : ℕ) {u : ℕ} {ps : List Letter} {c : Cost} → Run G u ps c → NotIn w (nodes G u ps) ⊎ Onward w (length ps) c
    unfolding nodes
    from_node w (Run.halt {u} {c} h) = go (ℕ_discrete w u)
      where
        go : Dec (w ≡ u) → ((w ≢ u) × Unit {0}) ⊎ Onward w zero c
        go (yes z) = inr (record { letters = []; cost = c; run = rw z (Run.halt h); upto = inr refl; fewer = omega arith })
        go (no n) = inl (n, tt)
    from_node w (Run.step {u} {p} {ps} {c} e d h r q) = rw h (go (ℕ_discrete w u) (from_node w r))
      where
        go : Dec (w ≡ u) → NotIn w (nodes G e.target ps) ⊎ Onward w (length ps) d → ((w ≢ u) × NotIn w (nodes G e.target ps)) ⊎ Onward w (suc (length ps)) c
        go (yes z) a = inr (record { letters = p ∷ ps; cost = c; run = rw z (Run.step e d h r q); upto = inr refl; fewer = omega arith })
        go (no n) (inl a) = inl (n, a)
        go (no n) (inr o) = inr (onward_step (rw q (costly u p e h d)) o)

    pub cut_of : {u : ℕ} {ps : List Letter} {c : Cost} → Run G u ps c → Distinct (nodes G u ps) ⊎ Cheaper u (length ps) c
    unfolding nodes
    cut_of (Run.halt h) = inl (tt, tt)
    cut_of (Run.step {u} {p} {ps} {c} e d h r q) = rw h (go (cut_of r) (from_node u r))
      where
        go : Distinct (nodes G e.target ps) ⊎ Cheaper e.target (length ps) d → NotIn u (nodes G e.target ps) ⊎ Onward u (length ps) d
            → (NotIn u (nodes G e.target ps) × Distinct (nodes G e.target ps)) ⊎ Cheaper u (suc (length ps)) c
        go (inl k) (inl a) = inl (a, k)
        go (inl k) (inr o) = inr (record { letters = o.letters; cost = o.cost; run = o.run; cheaper = upto_less total o.upto (rw q (costly u p e h d)); fewer = omega arith })
        go (inr k) a = inr (record {
          letters = p ∷ k.letters;
          cost = e.cost ⊕ k.cost;
          run = Run.step e k.cost h k.run refl;
          cheaper = rw q (shift_left e.cost k.cost d k.cheaper);
          fewer = omega arith;
        })

    module _ {N : ℕ} (W : Within G N) where
      as_it_is : (u : ℕ) → u < N → {ps : List Letter} {c : Cost} → Run G u ps c → Distinct (nodes G u ps) → Short N u ps c
      as_it_is u b {ps} {c} r k = record { letters = ps; cost = c; run = r; fewer = distinct_short G W u ps c b (run→cost G r) k; better = inr (refl, refl) }

      under : (u : ℕ) {ps qs : List Letter} {c d : Cost} → d ≺ c → Short N u qs d → Short N u ps c
      under u {qs = qs} {c = c} {d = d} h k = record { letters = k.letters; cost = k.cost; run = k.run; fewer = k.fewer; better = inl (go k.better) }
        where
          go : (k.cost ≺ d) ⊎ ((k.cost ≡ d) × (k.letters ≡ qs)) → k.cost ≺ c
          go (inl a) = total.trans k.cost d c a h
          go (inr a) = rw a.0 h

      shorten : (n u : ℕ) → u < N → (ps : List Letter) (c : Cost) → Run G u ps c → length ps ≤ n → Short N u ps c
      shorten zero u b ps c r h = go (cut_of r)
        where
          go : Distinct (nodes G u ps) ⊎ Cheaper u (length ps) c → Short N u ps c
          go (inl k) = as_it_is u b r k
          go (inr k) = absurd (omega arith)
      shorten (suc n) u b ps c r h = go (cut_of r) (λ qs d q l. shorten n u b qs d q l)
        where
          go : Distinct (nodes G u ps) ⊎ Cheaper u (length ps) c → ((qs : List Letter) (d : Cost) → Run G u qs d → length qs ≤ n → Short N u qs d) → Short N u ps c
          go (inl k) rec = as_it_is u b r k
          go (inr k) rec = under u k.cheaper (rec k.letters k.cost k.run (omega arith))

      pub shortened_of : (u : ℕ) → u < N → (ps : List Letter) (c : Cost) → Run G u ps c → Short N u ps c
      shortened_of u b ps c r = shorten (length ps) u b ps c r (omega arith)

  -- ---- Theorem 4: a path passes no node twice, or there is a cheaper one of fewer letters

  pub cut : {u : ℕ} {ps : List Letter} {c : Cost} → Run G u ps c → Distinct (nodes G u ps) ⊎ Cheaper u (length ps) c
  cut r = cut_of positive r

  module _ {N : ℕ} (W : Within G N) where
    -- ---- Theorem 4, below N nodes: every path has one of fewer than N letters that is cheaper, or is such a one itself

    pub shortened : (u : ℕ) → u < N → (ps : List Letter) (c : Cost) → Run G u ps c → Short N u ps c
    shortened u b ps c r = shortened_of positive W u b ps c r
