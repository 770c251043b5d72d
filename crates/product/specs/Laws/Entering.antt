-- Entering a position of a graph over a card's nodes and a list of sets: at the last one its endings are looked at, node by node; at another one the
-- pairs that leave it, a symbol of the set after the other, for each symbol node by node, for each node out by out.
use Rattle.std.specs.Prelude.{◌≡◌, ◌&&◌, ◌⊎◌, ◌≢◌, ◌+◌, ◌*◌, ◌<◌}
use Rattle.basics.proofs.Words.{refl, sym, ◌∙◌, ap, Bool, true, false, not, List, some, none, Option·none-ne-some, inl, inr, ℕ, suc, arith, length, get_or, eqb, dec_lt, ℕ_discrete, member, clash, no_member}
use Rattle.std.proofs.Common.{eqb-true}
use Rattle.machine.specs.declared.Pair.{Pair}
use Rattle.machine.specs.Symbols.{empty_symbol}
use Rattle.machine.specs.Laws.SetLoops.{with_true}
use Rattle.card.specs.Layout.{symbol_count}
use Rattle.paths.specs.Costs.{Costs, Labels}
use Rattle.paths.specs.Graph.{Edge, Graph}
use Rattle.paths.specs.Improvement.{Improves}
use Rattle.paths.specs.Positions.{Done, Entering, Entered, MoreLeaving, entering_start, entering_skip, entering_end, entering_done}
use Rattle.product.specs.ProductGraph.{pairs}
use Rattle.product.specs.Setting.{position_of, Setting}
use Rattle.product.specs.Laws.Setting.{node_position, node_low, node_high}
use Rattle.product.specs.Laws.Letters.{LetterAt, OverSets, letter_at, over_positioned}

-- the pairs whose in is not left were looked at
abbrev pub NotLeft : ℕ → ℕ → Pair → Type 0
NotLeft left w p = member left p.input ≡ false

-- and with the in x all of the nodes below u, and those of u with an output below y
abbrev pub TriedBefore : ℕ → ℕ → ℕ → ℕ → ℕ → Pair → Type 0
TriedBefore left x u y w p = (member left p.input ≡ false) ⊎ ((p.input ≡ x) × ((w < u) ⊎ ((w ≡ u) × (p.output < y))))

module _ {costs : Costs} {G : Graph costs pairs} {card sets : List ℕ} {P : ℕ} (s : Setting card sets P) (O : OverSets G card sets) where
  -- ---- the pairs that leave a position

  -- one pair more
  pub one_more : (i left x z y : ℕ) → MoreLeaving G (position_of card) i (TriedBefore left x (i * P + z) y) (TriedBefore left x (i * P + z) (y + 1)) (λ w q f. (w ≡ i * P + z) × (q ≡ record { input = x; output = y }))
  one_more i left x z y w q f a b (inl t) e = inl (inl t)
  one_more i left x z y w q f a b (inr t) e = node t.1
    where
      here : w ≡ i * P + z → q.output < y + 1 → Dec (q.output < y) → TriedBefore left x (i * P + z) y w q ⊎ ((w ≡ i * P + z) × (q ≡ record { input = x; output = y }))
      here n o (yes d) = inl (inr (t.0, inr (n, d)))
      here n o (no d) = let r : q.output ≡ y = omega arith in inr (n, λ j. record { input = t.0 j; output = r j })

      node : (w < i * P + z) ⊎ ((w ≡ i * P + z) × (q.output < y + 1)) → TriedBefore left x (i * P + z) y w q ⊎ ((w ≡ i * P + z) × (q ≡ record { input = x; output = y }))
      node (inl l) = inl (inr (t.0, inl l))
      node (inr m) = here m.0 m.1 (dec_lt q.output y)

  module _ {K L : Labels costs} (i left : ℕ) where
    -- every pair of the node
    pub node_tried : (x z y : ℕ) → symbol_count card < y → Entering G (position_of card) K L i (λ _. ⊥) (TriedBefore left x (i * P + z) y) → Entering G (position_of card) K L i (λ _. ⊥) (TriedBefore left x (i * P + (z + 1)) 0)
    node_tried x z y past S = entering_skip G (position_of card) S (λ _. ⊥) (TriedBefore left x (i * P + (z + 1)) 0) (λ u c a t e. t) (λ w q f c a b t e l. go w q f a e t)
      where
        go : (w : ℕ) (q : Pair) (f : Edge costs.Cost) → position_of card w ≡ i → G.edge w q ≡ some f → TriedBefore left x (i * P + (z + 1)) 0 w q → TriedBefore left x (i * P + z) y w q
        go w q f a e (inl t) = inl t
        go w q f a e (inr t) = node t.1
          where
            at : w < i * P + (z + 1) → Dec (w < i * P + z) → TriedBefore left x (i * P + z) y w q
            at h (yes d) = inr (t.0, inl d)
            at h (no d) = inr (t.0, inr (omega arith, omega (arith, past, (letter_at O w q f i a e).pair.output_there)))

            node : (w < i * P + (z + 1)) ⊎ ((w ≡ i * P + (z + 1)) × (q.output < 0)) → TriedBefore left x (i * P + z) y w q
            node (inl h) = at h (dec_lt w (i * P + z))
            node (inr h) = absurd (omega (arith, h.1))

    pub symbol_tried : (x after : ℕ) → ((n : ℕ) → member after n ≡ (member left n && not (eqb n x))) → Entering G (position_of card) K L i (λ _. ⊥) (TriedBefore left x (i * P + P) 0) → Entering G (position_of card) K L i (λ _. ⊥) (NotLeft after)
    symbol_tried x after f S = entering_skip G (position_of card) S (λ _. ⊥) (NotLeft after) (λ u c a t e. t) (λ w q g c a b t e l. last w q a t)
      where
        last : (w : ℕ) (q : Pair) → position_of card w ≡ i → member after q.input ≡ false → TriedBefore left x (i * P + P) 0 w q
        last w q a t = go (eqb q.input x) refl
          where
            go : (b : Bool) → eqb q.input x ≡ b → TriedBefore left x (i * P + P) 0 w q
            go true e = inr (eqb-true q.input x e, inl (node_high s w i a))
            go false e = inl (sym (f q.input ∙ ap (λ (b : Bool). member left q.input && not b) e ∙ with_true (member left q.input)) ∙ t)

  -- all symbols of the set
  pub symbols_begun : {K : Labels costs} {i : ℕ} → Done G (position_of card) K (suc i) → Entering G (position_of card) K K i (λ _. ⊥) (NotLeft (get_or sets i 0))
  symbols_begun {i = i} d = entering_skip G (position_of card) (entering_start G (position_of card) d) (λ _. ⊥) (NotLeft (get_or sets i 0)) (λ u c a t e. t) (λ w q f c a b t e l. go q f b t (letter_at O w q f i a e) (letter_at O w q f i a e).pair.input_there)
    where
      go : (q : Pair) (f : Edge costs.Cost) → position_of card f.target ≢ i → member (get_or sets i 0) q.input ≡ false → LetterAt card sets i q f.target → (q.input ≡ empty_symbol) ⊎ ((q.input ≢ empty_symbol) × (member (get_or sets i 0) q.input ≡ true)) → ⊥
      go q f b t l (inl e) = b (l.stays e).1
      go q f b t l (inr n) = clash n.1 t

  pub symbols_entered : {K L : Labels costs} {i : ℕ} → i < length sets → Done G (position_of card) K (suc i) → Entering G (position_of card) K L i (λ _. ⊥) (NotLeft 0) → Entered G (position_of card) L i
  symbols_entered h d S = entering_done G (position_of card) (over_positioned O) d S (λ u c a e. omega (arith, O.ends u c e)) (λ u p e a b g. no_member p.input)

  -- ---- the endings of the last position

  pub endings_begun : {K : Labels costs} → Done G (position_of card) K (suc (length sets)) → Entering G (position_of card) K K (length sets) (λ w. w < length sets * P) (λ _ _. ⊥)
  endings_begun d = entering_skip G (position_of card) (entering_start G (position_of card) d) (λ w. w < length sets * P) (λ _ _. ⊥) (λ u c a x e. omega (arith, node_low s u (length sets) a)) (λ w q f c a b x e l. x)

  module _ {K L : Labels costs} {z : ℕ} (k : z < P) (S : Entering G (position_of card) K L (length sets) (λ w. w < length sets * P + z) (λ _ _. ⊥)) where
    pub no_ending_tried : G.ending (length sets * P + z) ≡ none → Entering G (position_of card) K L (length sets) (λ w. w < length sets * P + (z + 1)) (λ _ _. ⊥)
    no_ending_tried n = entering_skip G (position_of card) S (λ w. w < length sets * P + (z + 1)) (λ _ _. ⊥) (λ w c a x h. go w c x h (ℕ_discrete w (length sets * P + z))) (λ w q f c a b x e l. x)
      where
        go : (w : ℕ) (c : costs.Cost) → w < length sets * P + (z + 1) → G.ending w ≡ some c → Dec (w ≡ length sets * P + z) → w < length sets * P + z
        go w c x h (no n) = omega arith
        go w c x h (yes q) = let e : G.ending (length sets * P + z) ≡ some c = rw (← q) h in absurd (Option·none-ne-some c (sym n ∙ e))

    pub ending_tried : {M : Labels costs} (c : costs.Cost) → G.ending (length sets * P + z) ≡ some c → Improves costs.◌≺◌ L (length sets * P + z) c M → Entering G (position_of card) K M (length sets) (λ w. w < length sets * P + (z + 1)) (λ _ _. ⊥)
    ending_tried c e I = entering_end G (position_of card) S (λ w. w < length sets * P + (z + 1)) (length sets * P + z) c (node_position s (length sets) z k) e I (λ w x. at w x (ℕ_discrete w (length sets * P + z)))
      where
        at : (w : ℕ) → w < length sets * P + (z + 1) → Dec (w ≡ length sets * P + z) → (w < length sets * P + z) ⊎ (w ≡ length sets * P + z)
        at w x (yes q) = inr q
        at w x (no n) = inl (omega arith)

  pub endings_entered : {K L : Labels costs} → Done G (position_of card) K (suc (length sets)) → Entering G (position_of card) K L (length sets) (λ w. w < length sets * P + P) (λ _ _. ⊥) → Entered G (position_of card) L (length sets)
  endings_entered d S =
      entering_done G (position_of card) (over_positioned O) d S (λ u c a e. node_high s u (length sets) a)
      (λ u p e a b g. leaves b (letter_at O u p e (length sets) a g) (letter_at O u p e (length sets) a g).pair.input_there)
    where
      leaves : {p : Pair} {v : ℕ} → position_of card v ≢ length sets → LetterAt card sets (length sets) p v → (p.input ≡ empty_symbol) ⊎ ((p.input ≢ empty_symbol) × (member (get_or sets (length sets) 0) p.input ≡ true)) → ⊥
      leaves b l (inl e) = b (l.stays e).1
      leaves b l (inr n) = omega (arith, (l.leaves n.0).0)
