-- A constraint of which no way has a mark: for its stage the labels of the stage before do, with no marks in them.
use Rattle.std.specs.Prelude.{◌≡◌, ◌↔◌}
use Rattle.basics.specs.Words.{sym, ◌∙◌, ap, List, Option, some, Option·map, map-eq-some_iff, inl, inr, ℕ, suc, arith}
use Rattle.paths.specs.Total.{Upto}
use Rattle.paths.specs.Costs.{Labels, AtMost}
use Rattle.paths.specs.Ranked.{Ranked, Less, count_at, ranked_costs, count_at_add}
use Rattle.paths.specs.Graph.{Alphabet, Graph, path_cost}
use Rattle.cull.specs.Cull.{left, FewestBelow, cull_ways, survivors}
use Rattle.cull.specs.OneConstraint.{price, stage_marks, LeastPrices, least_fewest}

-- of a label the letters
abbrev pub unmarked : Ranked 1 → Ranked 1
unmarked x = (0, x.1)

module _ (K k : ℕ) {alphabet : Alphabet} (G : Graph (ranked_costs K) alphabet) (fewest : ℕ → ℕ → Option ℕ) (F : FewestBelow G (count_at K) fewest k) {L : Labels (ranked_costs 1)}
    (M : LeastPrices K k (left G (count_at K) fewest k) L) (told : (u : ℕ) → fewest k u ≡ stage_marks (L u))
    (unmarked-ways : (u : ℕ) (ps : List alphabet.Letter) (c : Ranked K) → path_cost G u ps ≡ some c → count_at K (suc k) c ≡ 0) where
  open alphabet use {Letter}

  abbrev H : Graph (ranked_costs K) alphabet
  H = left G (count_at K) fewest k

  ways : (u : ℕ) (ps : List Letter) (c : Ranked K) → (path_cost (left G (count_at K) fewest (suc k)) u ps ≡ some c) ↔ ((path_cost H u ps ≡ some c) × (fewest k u ≡ some (count_at K k c)))
  ways = cull_ways H (count_at K k) (fewest k) (count_at_add K k) (least_fewest K k H M (fewest k) told)

  no_mark : (u : ℕ) (ps : List Letter) (c : Ranked K) → path_cost H u ps ≡ some c → count_at K (suc k) c ≡ 0
  no_mark u ps c h = unmarked-ways u ps c ((survivors G (count_at K) fewest (count_at_add K) k F u ps c).0 h).0

  letters_upto : (x : Ranked 1) (c : Ranked K) → x.0 ≡ count_at K k c → count_at K (suc k) c ≡ 0 → Upto (Less 1) x (price K k c) → Upto (Less 1) (unmarked x) (price K (suc k) c)
  letters_upto x c e z (inl (inl h)) = absurd (omega (arith, e, h))
  letters_upto x c e z (inl (inr h)) = inl (inr (sym z, h.1))
  letters_upto x c e z (inr q) = let l = ap (λ (y : Ranked 1). y.1) q in inr (λ j. (sym z j, l j))

  pub idle_stage : {N : Labels (ranked_costs 1)} → ((u : ℕ) → N u ≡ Option·map unmarked (L u)) → LeastPrices K (suc k) (left G (count_at K) fewest (suc k)) N
  idle_stage {N} same = record { least = least; attained = attained }
    where
      least : (u : ℕ) (ps : List Letter) (c : Ranked K) → path_cost (left G (count_at K) fewest (suc k)) u ps ≡ some c → AtMost (Less 1) (N u) (price K (suc k) c)
      least u ps c h =
          let w = (ways u ps c).0 h in
          let m = M.least u ps c w.0 in
          let e : m.val.0 ≡ count_at K k c = cc (told u ∙ ap stage_marks m.is, w.1) in
          record { val = unmarked m.val; is = same u ∙ ap (Option·map unmarked) m.is; upto = letters_upto m.val c e (no_mark u ps c w.0) m.upto }

      attained : (u : ℕ) (x : Ranked 1) → N u ≡ some x → (ps : List Letter) × (c : Ranked K) × (path_cost (left G (count_at K) fewest (suc k)) u ps ≡ some c) × (price K (suc k) c ≡ x)
      attained u x h =
          let y = (map-eq-some_iff unmarked (L u)).0 (sym (same u) ∙ h) in
          let w = M.attained u y.0 y.1 in
          let z = no_mark u w.0 w.1 w.2 in
          let l = ap (λ (r : Ranked 1). r.1) w.3 in
          (w.0, w.1, (ways u w.0 w.1).1 (w.2, told u ∙ ap stage_marks y.1 ∙ ap some (sym (ap (λ (r : Ranked 1). r.0) w.3))), (λ j. (z j, l j)) ∙ y.2)
