-- A small graph, to see that what the theorems ask for can be met: closed and attained labels, and the walk along them.
-- The letters are numbers, and a cost is one count and the number of letters. From 0 the letter 0 leads back to 0, 1 leads to the end at 1
-- with a count of one, and 2 leads to 2, from where both 1 and 2 lead to the end with a count of none.
use Rattle.std.specs.Prelude.{◌≡◌, refl, [], ◌∷◌, ℕ, zero, suc, ◌+◌, ◌<◌}
use Rattle.std.proofs.Common.{ap, inl, inr, arith}
use Rattle.std.proofs.Math.Option.{Option, none, some, none-ne-some}
use Rattle.paths.specs.Total.{Upto, ℕ-total}
use Rattle.paths.specs.Costs.{AtMost, atmost_is}
use Rattle.paths.specs.Ranked.{Ranked, Less, ranked_costs, letter_count}
use Rattle.paths.specs.Graph.{Alphabet, Edge, Graph, nodes}
use Rattle.paths.specs.RankedGraph.{one_letter_positive, ranked_sized}
use Rattle.paths.specs.Labels.{Closed, Attained, Held}
use Rattle.paths.specs.Bounds.{Sized}
use Rattle.paths.specs.Best.{IsBest}
use Rattle.paths.specs.Walk.{Tight, LeastTight, done, next, tight_sum, no_edge_not_tight, sized_labels, walk_best}

abbrev numbers : Alphabet
numbers = record { Letter = ℕ; ◌◃◌ = ◌<◌; total = ℕ-total }

abbrev to : ℕ → ℕ → Option (Edge (Ranked 1))
to v count = some (record { target = v; cost = (count, 1) })

abbrev edge_of : ℕ → ℕ → Option (Edge (Ranked 1))
edge_of zero zero = to 0 0
edge_of zero (suc zero) = to 1 1
edge_of zero (suc (suc zero)) = to 2 0
edge_of zero (suc (suc (suc p))) = none
edge_of (suc zero) p = none
edge_of (suc (suc zero)) zero = none
edge_of (suc (suc zero)) (suc zero) = to 1 0
edge_of (suc (suc zero)) (suc (suc zero)) = to 1 0
edge_of (suc (suc zero)) (suc (suc (suc p))) = none
edge_of (suc (suc (suc u))) p = none

abbrev end_of : ℕ → Option (Ranked 1)
end_of zero = none
end_of (suc zero) = some (0, 0)
end_of (suc (suc u)) = none

one_letter : (u p : ℕ) (e : Edge (Ranked 1)) → edge_of u p ≡ some e → letter_count 1 e.cost ≡ 1
one_letter zero zero e h = cc
one_letter zero (suc zero) e h = cc
one_letter zero (suc (suc zero)) e h = cc
one_letter zero (suc (suc (suc p))) e h = absurd (none-ne-some e h)
one_letter (suc zero) p e h = absurd (none-ne-some e h)
one_letter (suc (suc zero)) zero e h = absurd (none-ne-some e h)
one_letter (suc (suc zero)) (suc zero) e h = cc
one_letter (suc (suc zero)) (suc (suc zero)) e h = cc
one_letter (suc (suc zero)) (suc (suc (suc p))) e h = absurd (none-ne-some e h)
one_letter (suc (suc (suc u))) p e h = absurd (none-ne-some e h)

no_letter : (u : ℕ) (c : Ranked 1) → end_of u ≡ some c → letter_count 1 c ≡ 0
no_letter zero c h = absurd (none-ne-some c h)
no_letter (suc zero) c h = cc
no_letter (suc (suc u)) c h = absurd (none-ne-some c h)

abbrev small : Graph (ranked_costs 1) numbers
small = record { edge = edge_of; ending = end_of; positive = λ u p e h. one_letter_positive 1 e.cost (one_letter u p e h) }

sized : Sized small (letter_count 1)
sized = ranked_sized 1 small one_letter no_letter

abbrev labels : ℕ → Option (Ranked 1)
labels zero = some (0, 2)
labels (suc zero) = some (0, 0)
labels (suc (suc zero)) = some (0, 1)
labels (suc (suc (suc u))) = none

-- ---- the labels are closed

edge_closed : (u v n : ℕ) {e : Edge (Ranked 1)} {d : Ranked 1} {x y : Ranked 1} → to v n ≡ some e → labels e.target ≡ some d → labels v ≡ some x → labels u ≡ some y
    → Upto (Less 1) y (n + x.0, 1 + x.1) → AtMost (Less 1) (labels u) (e.cost.0 + d.0, e.cost.1 + d.1)
edge_closed u v n {e} {d} {x} {y} h l k m z =
    let q : ◌≡◌ {A = Edge (Ranked 1)} (record { target = v; cost = (n, 1) }) e = cc in
    let r : x ≡ d = cc in
    rw (← q, ← r) (record { val = y; is = m; upto = z })

edges_closed : (u p : ℕ) (e : Edge (Ranked 1)) (d : Ranked 1) → edge_of u p ≡ some e → labels e.target ≡ some d → AtMost (Less 1) (labels u) (e.cost.0 + d.0, e.cost.1 + d.1)
edges_closed zero zero e d h l = edge_closed 0 0 0 h l refl refl (inl (inr (refl, omega arith)))
edges_closed zero (suc zero) e d h l = edge_closed 0 1 1 h l refl refl (inl (inl (omega arith)))
edges_closed zero (suc (suc zero)) e d h l = edge_closed 0 2 0 h l refl refl (inr refl)
edges_closed zero (suc (suc (suc p))) e d h l = absurd (none-ne-some e h)
edges_closed (suc zero) p e d h l = absurd (none-ne-some e h)
edges_closed (suc (suc zero)) zero e d h l = absurd (none-ne-some e h)
edges_closed (suc (suc zero)) (suc zero) e d h l = edge_closed 2 1 0 h l refl refl (inr refl)
edges_closed (suc (suc zero)) (suc (suc zero)) e d h l = edge_closed 2 1 0 h l refl refl (inr refl)
edges_closed (suc (suc zero)) (suc (suc (suc p))) e d h l = absurd (none-ne-some e h)
edges_closed (suc (suc (suc u))) p e d h l = absurd (none-ne-some e h)

ends_closed : (u : ℕ) (c : Ranked 1) → end_of u ≡ some c → AtMost (Less 1) (labels u) c
ends_closed zero c h = absurd (none-ne-some c h)
ends_closed (suc zero) c h = record { val = c; is = h; upto = inr refl }
ends_closed (suc (suc u)) c h = absurd (none-ne-some c h)

closed : Closed small labels
closed u = record { ends = ends_closed u; edges = edges_closed u }

-- ---- and attained

edge_to : ℕ → ℕ → Edge (Ranked 1)
edge_to v n = record { target = v; cost = (n, 1) }

held_1 : Held small labels 1 [] (0, 0)
held_1 = Held.halt refl (atmost_is refl)

held_2 : Held small labels 2 (1 ∷ []) (0, 1)
unfolding edge_to
held_2 = Held.step (edge_to 1 0) (0, 0) refl held_1 refl (atmost_is refl)

held_0 : Held small labels 0 (2 ∷ 1 ∷ []) (0, 2)
unfolding edge_to
held_0 = Held.step (edge_to 2 0) (0, 1) refl held_2 refl (atmost_is refl)

attained : Attained small labels
unfolding nodes
attained zero c l = let q : (0, 2) ≡ c = cc in rw (← q) (record { letters = 2 ∷ 1 ∷ []; held = held_0; distinct = (omega arith) })
attained (suc zero) c l = let q : (0, 0) ≡ c = cc in rw (← q) (record { letters = []; held = held_1; distinct = (tt, tt) })
attained (suc (suc zero)) c l = let q : (0, 1) ≡ c = cc in rw (← q) (record { letters = 1 ∷ []; held = held_2; distinct = (omega arith) })
attained (suc (suc (suc u))) c l = absurd (none-ne-some c l)

-- ---- so the walk from 0 is the best path: 2 and 1, neither 1 alone, which counts one, nor 2 and 2, which comes later

no_lesser_0 : (q : ℕ) → q < 2 → ¬ (Tight small labels 0 q)
no_lesser_0 zero h t = let z : ◌≡◌ {A = Ranked 1} (0, 2) (0, 3) = tight_sum small labels {e = record { target = 0; cost = (0, 1) }} {d = (0, 2)} refl refl refl t in omega (arith, ap (λ (c : Ranked 1). c.1) z)
no_lesser_0 (suc zero) h t = let z : ◌≡◌ {A = Ranked 1} (0, 2) (1, 1) = tight_sum small labels {e = record { target = 1; cost = (1, 1) }} {d = (0, 0)} refl refl refl t in omega (arith, ap (λ (c : Ranked 1). c.0) z)
no_lesser_0 (suc (suc q)) h t = omega arith

no_lesser_2 : (q : ℕ) → q < 1 → ¬ (Tight small labels 2 q)
no_lesser_2 zero h t = no_edge_not_tight small labels refl t
no_lesser_2 (suc q) h t = omega arith

first_0 : LeastTight small labels 0 2
first_0 = record { tight = record { to = record { target = 2; cost = (0, 1) }; rest = (0, 1); edge_is = refl; rest_is = refl; label_is = refl }; least = no_lesser_0 }

first_2 : LeastTight small labels 2 1
first_2 = record { tight = record { to = record { target = 1; cost = (0, 1) }; rest = (0, 0); edge_is = refl; rest_is = refl; label_is = refl }; least = no_lesser_2 }

best : IsBest small 0 (2 ∷ 1 ∷ [])
unfolding first_0 first_2
best = walk_best small labels (sized_labels small labels sized) closed attained 0 (0, 2) (2 ∷ 1 ∷ []) refl (next first_0 (next first_2 done))
