-- A ranked graph as the stage of one constraint sees it: of each cost the marks of the constraint k and the number of letters, and no more.
use Rattle.std.specs.Prelude.{◌≡◌, ◌≤◌, ◌<◌}
use Rattle.basics.specs.Words.{refl, sym, ◌∙◌, ap, List, Option, some, Option·map, map-eq-some_iff, inl, inr, ℕ, suc, arith}
use Rattle.paths.specs.Total.{Upto}
use Rattle.paths.specs.Costs.{Labels, AtMost}
use Rattle.paths.specs.Ranked.{Ranked, add, Less, letter_count, count_at, ranked_costs, letter_count_add, count_at_add}
use Rattle.paths.specs.RankedGraph.{one_letter_positive, ranked_sized, ranked_counts}
use Rattle.paths.specs.Graph.{Alphabet, Edge, Graph, path_cost, Within, Run, run→cost, cost→run}
use Rattle.paths.specs.Labels.{Closed, Attained, run_lower_bound, held→run}
use Rattle.paths.specs.Bounds.{Sized, BoundedCount}
use Rattle.cull.specs.Laws.FirstPlaces.{SameOn, same_next, fewer_less, less_whole, letters_less, letters_same}
use Rattle.cull.specs.Cull.{Way, Fewest}

abbrev pub price : (K k : ℕ) → Ranked K → Ranked 1
price K k c = (count_at K k c, letter_count K c)

abbrev pub priced_edge : (K k : ℕ) → Edge (Ranked K) → Edge (Ranked 1)
priced_edge K k e = record { target = e.target; cost = price K k e.cost }

price_add : (K k : ℕ) (a b : Ranked K) → price K k (add K a b) ≡ add 1 (price K k a) (price K k b)
price_add K k a b i = (count_at_add K k a b i, letter_count_add K a b i)

-- among costs with the same marks of the constraints above k, with none below it, the price decides
module _ (K k : ℕ) (lowest : K ≤ suc k) (c d : Ranked K) (a : SameOn (count_at K) k c d) where
  all_same : count_at K k c ≡ count_at K k d → SameOn (count_at K) K c d
  all_same e i l = same_next (count_at K) a e i (omega arith)

  pub price_less : Less 1 (price K k c) (price K k d) → Less K c d
  price_less (inl h) = less_whole K (suc k) c d (fewer_less (count_at K) a h)
  price_less (inr h) = letters_less K c d (all_same h.0) h.1

  pub price_same : price K k c ≡ price K k d → c ≡ d
  price_same e = letters_same K c d (all_same (ap (λ (x : Ranked 1). x.0) e)) (ap (λ (x : Ranked 1). x.1) e)

-- of a label the marks
abbrev pub stage_marks : Option (Ranked 1) → Option ℕ
stage_marks = Option·map (λ x. x.0)

pub first_upto : {x y : Ranked 1} → Upto (Less 1) x y → Upto ◌<◌ x.0 y.0
first_upto (inl (inl h)) = inl h
first_upto (inl (inr h)) = inr h.0
first_upto (inr e) = inr (ap (λ (x : Ranked 1). x.0) e)

module _ (K k : ℕ) {alphabet : Alphabet} (G : Graph (ranked_costs K) alphabet) where
  open alphabet use {Letter}

  -- a label tells the fewest marks of the constraint k on the ways from its node to an end, and the fewest letters of those ways
  pub record LeastPrices (L : Labels (ranked_costs 1)) : Type 0 where
    pub least : (u : ℕ) (ps : List Letter) (c : Ranked K) → path_cost G u ps ≡ some c → AtMost (Less 1) (L u) (price K k c)
    pub attained : (u : ℕ) (x : Ranked 1) → L u ≡ some x → (ps : List Letter) × (c : Ranked K) × (path_cost G u ps ≡ some c) × (price K k c ≡ x)

  pub least_fewest : {L : Labels (ranked_costs 1)} → LeastPrices L → (fewest : ℕ → Option ℕ) → ((u : ℕ) → fewest u ≡ stage_marks (L u)) → Fewest G (count_at K k) fewest
  least_fewest {L} M fewest told = record { least = least; attained = attained }
    where
      least : (u : ℕ) (ps : List Letter) (c : Ranked K) → path_cost G u ps ≡ some c → AtMost ◌<◌ (fewest u) (count_at K k c)
      least u ps c h =
          let m = M.least u ps c h in
          record { val = m.val.0; is = told u ∙ ap stage_marks m.is; upto = first_upto m.upto }

      attained : (u m : ℕ) → fewest u ≡ some m → Way G (count_at K k) u m
      attained u m h =
          let x = (map-eq-some_iff (λ x. x.0) (L u)).0 (sym (told u) ∙ h) in
          let w = M.attained u x.0 x.1 in
          record { letters = w.0; cost = w.1; is = w.2; has = ap (λ (y : Ranked 1). y.0) w.3 ∙ x.2 }

module _ (K k : ℕ) {alphabet : Alphabet} (G : Graph (ranked_costs K) alphabet) (Z : Sized G (letter_count K)) where
  open alphabet use {Letter}

  -- an edge is one letter
  pub one_letter : (u : ℕ) (p : Letter) (x : Edge (Ranked 1)) → Option·map (priced_edge K k) (G.edge u p) ≡ some x → letter_count 1 x.cost ≡ 1
  one_letter u p x h =
      let e = (map-eq-some_iff (priced_edge K k) (G.edge u p)).0 h in
      let c = e.0.cost in
      rw (← e.2) (omega (arith, Z.at_edge u p e.0 e.1 c, letter_count_add K c c))

  abbrev pub by_constraint : Graph (ranked_costs 1) alphabet
  by_constraint = record {
    edge = λ u p. Option·map (priced_edge K k) (G.edge u p);
    ending = λ u. Option·map (price K k) (G.ending u);
    positive = λ u p x h. one_letter_positive 1 x.cost (one_letter u p x h);
  }

  -- ---- the ways are the same

  pub run_seen : {u : ℕ} {ps : List Letter} {c : Ranked K} → Run G u ps c → Run by_constraint u ps (price K k c)
  run_seen (Run.halt h) = Run.halt (ap (Option·map (price K k)) h)
  run_seen (Run.step e d h r q) = Run.step (priced_edge K k e) (price K k d) (ap (Option·map (priced_edge K k)) h) (run_seen r) (ap (price K k) q ∙ price_add K k e.cost d)

  pub seen_run : {u : ℕ} {ps : List Letter} {x : Ranked 1} → Run by_constraint u ps x → (c : Ranked K) × Run G u ps c × (price K k c ≡ x)
  seen_run (Run.halt {u} h) = let c = (map-eq-some_iff (price K k) (G.ending u)).0 h in (c.0, Run.halt c.1, c.2)
  seen_run (Run.step {u} {p} {ps} x d h r q) =
      let e = (map-eq-some_iff (priced_edge K k) (G.edge u p)).0 h in
      let y = seen_run r in
      let t : e.0.target ≡ x.target = ap (λ (z : Edge (Ranked 1)). z.target) e.2 in
      let s : Run G e.0.target ps y.0 = rw t y.1 in
      (add K e.0.cost y.0, Run.step e.0 y.0 e.1 s refl, price_add K k e.0.cost y.0 ∙ (λ i. add 1 (e.2 i).cost (y.2 i)) ∙ sym q)

  -- ---- closed and attained labels are the least

  pub labels_least : {L : Labels (ranked_costs 1)} → Closed by_constraint L → Attained by_constraint L → LeastPrices K k G L
  labels_least C A = record {
    least = λ u ps c h. run_lower_bound by_constraint C (run_seen (cost→run G u ps c h));
    attained = λ u x h. let a = A u x h in let r = seen_run (held→run by_constraint a.held) in (a.letters, r.0, run→cost G r.1, r.2);
  }

  -- ---- what carries over

  pub seen_within : {N : ℕ} → Within G N → Within by_constraint N
  seen_within W u p x h = let e = (map-eq-some_iff (priced_edge K k) (G.edge u p)).0 h in rw (← e.2) (W u p e.0 e.1)

  pub seen_sized : Sized by_constraint (letter_count 1)
  seen_sized = ranked_sized 1 by_constraint one_letter (λ u x h. let c = (map-eq-some_iff (price K k) (G.ending u)).0 h in ap (letter_count 1) (sym c.2) ∙ Z.at_end u c.0 c.1)

  pub seen_count : {most last : ℕ} → BoundedCount G (count_at K k) most last → BoundedCount by_constraint (count_at 1 0) most last
  seen_count {most} {last} B = ranked_counts 1 by_constraint 0 most last at_edge at_end
    where
      at_edge : (u : ℕ) (p : Letter) (x : Edge (Ranked 1)) → Option·map (priced_edge K k) (G.edge u p) ≡ some x → count_at 1 0 x.cost ≤ most
      at_edge u p x h =
          let e = (map-eq-some_iff (priced_edge K k) (G.edge u p)).0 h in
          let c = e.0.cost in
          rw (← e.2) (omega (arith, B.at_edge u p e.0 e.1 c, count_at_add K k c c))

      at_end : (u : ℕ) (x : Ranked 1) → Option·map (price K k) (G.ending u) ≡ some x → count_at 1 0 x ≤ last
      at_end u x h =
          let c = (map-eq-some_iff (price K k) (G.ending u)).0 h in
          omega (arith, B.at_end u c.0 c.1, ap (count_at 1 0) c.2)
