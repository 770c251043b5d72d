-- The best path from a node: the cheapest, and of those the first in the order of its letters. There is one at most, and below N nodes it is
-- the best of the paths of fewer than N letters. A cheapest path, whatever its letters, passes no node twice.
use Rattle.std.specs.Prelude.{◌≡◌, refl, ◌⊎◌, ◌≢◌, List, ℕ, ◌<◌, length}
use Rattle.std.proofs.Common.{sym, ◌∙◌, ap, inl, inr}
use Rattle.std.proofs.Math.Option.{Option, none, some, none-ne-some}
use Rattle.paths.specs.Total.{Total, Then, then_total, Lex, lex_total, same?, asym}
use Rattle.paths.specs.Costs.{Costs}
use Rattle.paths.specs.Pigeonhole.{Distinct}
use Rattle.paths.specs.Graph.{Alphabet, Graph, path_cost, nodes, Within, run→cost, cost→run}
use Rattle.paths.specs.Bounds.{distinct_short}
use Rattle.paths.specs.Costly.{Costly}
use Rattle.paths.specs.Cut.{Cheaper, cut_of, Short, shortened_of}

module _ (costs : Costs) (alphabet : Alphabet) where
  open costs use {Cost, ◌≺◌, total}
  open alphabet use {Letter, ◌◃◌, total as letters-total}

  -- the cost before the letters
  abbrev pub Before : Cost × List Letter → Cost × List Letter → Type 0
  Before = Then ◌≺◌ (Lex ◌◃◌)

  abbrev pub before_total : Total Before
  before_total = then_total ◌≺◌ (Lex ◌◃◌) total (lex_total ◌◃◌ letters-total)

module _ {costs : Costs} {alphabet : Alphabet} (G : Graph costs alphabet) where
  infix 4 ◌≺◌
  open costs use {Cost, ◌≺◌, total}
  open alphabet use {Letter, ◌◃◌, total as letters-total}

  -- ps is a path from u, and every other one, of any length, comes after it
  pub record IsBest (u : ℕ) (ps : List Letter) : Type 0 where
    pub cost : Cost
    pub is : path_cost G u ps ≡ some cost
    pub first : (qs : List Letter) (d : Cost) → qs ≢ ps → path_cost G u qs ≡ some d → Before costs alphabet (cost, ps) (d, qs)

  -- ps is a path from u, and none of any length is cheaper
  pub record IsCheapest (u : ℕ) (ps : List Letter) : Type 0 where
    pub cost : Cost
    pub is : path_cost G u ps ≡ some cost
    pub none_cheaper : (qs : List Letter) (d : Cost) → path_cost G u qs ≡ some d → ¬ (d ≺ cost)

  -- ps is a path from u of fewer than N letters, and every other one of fewer than N letters comes after it
  pub record IsBestBelow (N u : ℕ) (ps : List Letter) : Type 0 where
    pub cost : Cost
    pub is : path_cost G u ps ≡ some cost
    pub fewer : length ps < N
    pub first : (qs : List Letter) (d : Cost) → length qs < N → qs ≢ ps → path_cost G u qs ≡ some d → Before costs alphabet (cost, ps) (d, qs)

  -- o is the answer from u: the best path, or none where there is no path
  pub record Answers (u : ℕ) (o : Option (List Letter)) : Type 0 where
    pub best : (ps : List Letter) → o ≡ some ps → IsBest u ps
    pub no_path : o ≡ none → (ps : List Letter) → path_cost G u ps ≡ none

  -- ---- Theorem 6: two best paths from a node are the same, and so are two answers

  pub best_unique : (u : ℕ) (ps qs : List Letter) → IsBest u ps → IsBest u qs → ps ≡ qs
  best_unique u ps qs a b = go (same? (lex_total ◌◃◌ letters-total) ps qs)
    where
      go : Dec (ps ≡ qs) → ps ≡ qs
      go (yes e) = e
      go (no n) = absurd (asym (before_total costs alphabet) (a.cost, ps) (b.cost, qs) (a.first qs b.cost (λ e. n (sym e)) b.is) (b.first ps a.cost n a.is))

  pub answer_unique : (u : ℕ) (o o' : Option (List Letter)) → Answers u o → Answers u o' → o ≡ o'
  answer_unique u none none a b = refl
  answer_unique u none (some qs) a b = let k = b.best qs refl in absurd (none-ne-some k.cost (sym (a.no_path refl qs) ∙ k.is))
  answer_unique u (some ps) none a b = let k = a.best ps refl in absurd (none-ne-some k.cost (sym (b.no_path refl ps) ∙ k.is))
  answer_unique u (some ps) (some qs) a b = ap {B = Option (List Letter)} some (best_unique u ps qs (a.best ps refl) (b.best qs refl))

  -- where every edge costs something
  module _ (costly : Costly G) where
    pub cheapest_distinct_of : (u : ℕ) (ps : List Letter) → IsCheapest u ps → Distinct (nodes G u ps)
    cheapest_distinct_of u ps a = go (cut_of G costly (cost→run G u ps a.cost a.is))
      where
        go : Distinct (nodes G u ps) ⊎ Cheaper G u (length ps) a.cost → Distinct (nodes G u ps)
        go (inl k) = k
        go (inr k) = absurd (a.none_cheaper k.letters k.cost (run→cost G k.run) k.cheaper)

    module _ {N : ℕ} (W : Within G N) (u : ℕ) (b : u < N) where
      pub cheapest_short_of : (ps : List Letter) → IsCheapest u ps → length ps < N
      cheapest_short_of ps a = distinct_short G W u ps a.cost b a.is (cheapest_distinct_of u ps a)

      pub best_below→best_of : (ps : List Letter) → IsBestBelow N u ps → IsBest u ps
      best_below→best_of ps a = record { cost = a.cost; is = a.is; first = first }
        where
          first : (qs : List Letter) (d : Cost) → qs ≢ ps → path_cost G u qs ≡ some d → Before costs alphabet (a.cost, ps) (d, qs)
          first qs d n h = go k.better (same? (lex_total ◌◃◌ letters-total) k.letters ps)
            where
              k : Short G N u qs d
              k = shortened_of G costly W u b qs d (cost→run G u qs d h)

              is : path_cost G u k.letters ≡ some k.cost
              is = run→cost G k.run

              go : (k.cost ≺ d) ⊎ ((k.cost ≡ d) × (k.letters ≡ qs)) → Dec (k.letters ≡ ps) → Before costs alphabet (a.cost, ps) (d, qs)
              go (inl l) (yes e) = let q : k.cost ≡ a.cost = cc (is, a.is, e) in inl (rw q at l)
              go (inl l) (no m) = (before_total costs alphabet).trans (a.cost, ps) (k.cost, k.letters) (d, qs) (a.first k.letters k.cost k.fewer m is) (inl l)
              go (inr l) (yes e) = absurd (n (sym l.1 ∙ e))
              go (inr l) (no m) = rw (l.0, l.1) at (a.first k.letters k.cost k.fewer m is)

      pub none_below→none_of : ((ps : List Letter) → length ps < N → path_cost G u ps ≡ none) → (ps : List Letter) → path_cost G u ps ≡ none
      none_below→none_of f ps = go (path_cost G u ps) refl
        where
          go : (o : Option Cost) → path_cost G u ps ≡ o → o ≡ none
          go none h = refl
          go (some c) h =
              let k = shortened_of G costly W u b ps c (cost→run G u ps c h) in
              absurd (none-ne-some k.cost (sym (f k.letters k.fewer) ∙ run→cost G k.run))

      pub answer_below_of : (o : Option (List Letter)) → ((ps : List Letter) → o ≡ some ps → IsBestBelow N u ps) → (o ≡ none → (ps : List Letter) → length ps < N → path_cost G u ps ≡ none) → Answers u o
      answer_below_of o f g = record { best = λ ps e. best_below→best_of ps (f ps e); no_path = λ e. none_below→none_of (g e) }

  open G use {positive}

  -- ---- a cheapest path passes no node twice: it would be cut to a cheaper one

  pub cheapest_distinct : (u : ℕ) (ps : List Letter) → IsCheapest u ps → Distinct (nodes G u ps)
  cheapest_distinct u ps a = cheapest_distinct_of positive u ps a

  module _ {N : ℕ} (W : Within G N) (u : ℕ) (b : u < N) where
    -- so it has fewer than N letters
    pub cheapest_short : (ps : List Letter) → IsCheapest u ps → length ps < N
    cheapest_short ps a = cheapest_short_of positive W u b ps a

    -- ---- Theorem 4, for the best: the best of the paths of fewer than N letters is the best of all

    pub best_below→best : (ps : List Letter) → IsBestBelow N u ps → IsBest u ps
    best_below→best ps a = best_below→best_of positive W u b ps a

    -- and where no list of fewer than N letters is a path, none is
    pub none_below→none : ((ps : List Letter) → length ps < N → path_cost G u ps ≡ none) → (ps : List Letter) → path_cost G u ps ≡ none
    none_below→none f ps = none_below→none_of positive W u b f ps

    -- both together: an answer among the lists of fewer than N letters is the answer
    pub answer_below : (o : Option (List Letter)) → ((ps : List Letter) → o ≡ some ps → IsBestBelow N u ps) → (o ≡ none → (ps : List Letter) → length ps < N → path_cost G u ps ≡ none) → Answers u o
    answer_below o f g = answer_below_of positive W u b o f g
