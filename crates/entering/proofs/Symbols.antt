-- Entering a position, a symbol of its set after the other.
use Rattle.std.specs.Prelude.{◌≡◌, ◌&&◌, ◌+◌, ◌-◌, ◌*◌, ◌<◌, ◌≤◌}
use Rattle.basics.proofs.Words.{refl, sym, ◌∙◌, ap, subst, true, not, List, none, ℕ, suc, arith, length, get_or, eqb, dec_lt, member, left as left-passes}
use Rattle.card.specs.Card.{card_refusal}
use Rattle.paths.specs.Costs.{Labels}
use Rattle.paths.specs.Ranked.{ranked_costs}
use Rattle.paths.specs.Positions.{Done, Entering, Entered}
use Rattle.product.specs.Nodes.{product}
use Rattle.product.specs.Setting.{position_of, Setting}
use Rattle.product.specs.Laws.Setting.{node_inside}
use Rattle.product.specs.Laws.Letters.{OverSets, priced_over}
use Rattle.product.specs.Laws.Entering.{NotLeft, symbol_tried, symbols_begun, symbols_entered}
use Rattle.cells.specs.declared.Cell.{Cell}
use Rattle.cells.specs.declared.Groups.{Groups}
use Rattle.cells.specs.Labels.{no_label, cell_at, OwnCell, next_cell}
use Rattle.cells.specs.Trying.{label_from, cell_price}
use Rattle.cells.specs.Laws.Trying.{label_none}
use Rattle.cells.specs.Laws.Position.{placed, placed_in, placed_before, placed_after}
use Rattle.entering.specs.Entering.{cell_graph, Blank, Ready, Position, SymbolsEntered}
use Rattle.entering.specs.Symbols.{codes, Ahead, EnteringBy, InputTried}

-- ---- a blank position

no_label_own : {x : Cell} → x ≡ record { high = no_label; low = 0 } → OwnCell x
no_label_own e = record { last = rw e refl; most = rw e (omega arith); empty = λ _. rw e refl }

pub blank_position : {own : List ℕ} {P : ℕ} → length own ≡ 256 → Blank own P → Position own P
blank_position e b = record { size = e; labels = λ c h. no_label_own (b c h) }

-- what is asked, by what entering is given
module _ {card counts ws own steps : List ℕ} {W : ℕ} {g : Groups} (R : Ready card counts ws own steps W g) where
  pub still_ready : {own' steps' : List ℕ} → length own' ≡ 256 → length steps' ≡ length steps → Ready card counts ws own' steps' W g
  still_ready e f = record { accepted = R.accepted; counts_are = R.counts_are; width = R.width; weights = R.weights; groups = R.groups; few = R.few; room = omega (arith, R.room); size = e }

  pub blank_codes : Blank own (product counts) → Blank own (codes card)
  blank_codes b = subst (λ (l : List ℕ). Blank own (product l)) R.counts_are b

-- its labels are those at hand
blank_same : (own : List ℕ) {P : ℕ} (base : ℕ) (L : Labels (ranked_costs 1)) → Blank own P → ((w : ℕ) → base ≤ w → w < base + P → L w ≡ none) → L ≡ placed base P L (cell_at own)
blank_same own {P} base L b f = λ i w. go w (dec_lt w base) (dec_lt w (base + P)) i
  where
    go : (w : ℕ) → Dec (w < base) → Dec (w < base + P) → L w ≡ placed base P L (cell_at own) w
    go w (yes a) d = sym (placed_before base P L (cell_at own) w a)
    go w (no a) (no d) = sym (placed_after base P L (cell_at own) w (omega arith))
    go w (no a) (yes d) =
        let e : base + (w - base) ≡ w = omega arith in
        let q : (cell_at own (w - base)).high ≡ no_label = ap (λ (x : Cell). x.high) (b (w - base) (omega arith)) in
        let z : placed base P L (cell_at own) w ≡ none = rw e at (placed_in base P L (cell_at own) (w - base) (omega arith) ∙ label_none (cell_at own (w - base)) (omega arith)) in
        f w (omega arith) d ∙ sym z

-- ---- the symbols of a set

-- own became own' by the pairs of the symbols that are not left
pub record SymbolsTried (card ws own own' next : List ℕ) (symbols left : ℕ) : Type 0 where
  pub position : Position own' (codes card)
  pub inside : (x : ℕ) → member left x ≡ true → member symbols x ≡ true
  pub enters : (sets : List ℕ) (K L : Labels (ranked_costs 1)) (i : ℕ) → Ahead card sets next i L → get_or sets i 0 ≡ symbols
      → EnteringBy card ws sets own K L i (NotLeft symbols) → EnteringBy card ws sets own' K L i (NotLeft left)

pub symbols_start : {card ws own next : List ℕ} {symbols : ℕ} → Position own (codes card) → SymbolsTried card ws own own next symbols symbols
symbols_start O = record { position = O; inside = λ x t. t; enters = λ sets K L i B e S. S }

module _ (card : List ℕ) (ok : card_refusal card ≡ 0) where
  over : (ws sets : List ℕ) → OverSets (cell_graph ws card sets) card sets
  over ws sets = priced_over (cell_price ws) card sets ok

  pub symbols_next : {ws next own own₁ own₂ : List ℕ} {symbols left after x : ℕ} → member left x ≡ true → ((n : ℕ) → member after n ≡ (member left n && not (eqb n x)))
      → SymbolsTried card ws own own₁ next symbols left → InputTried card ws own₁ own₂ next x → SymbolsTried card ws own own₂ next symbols after
  symbols_next {ws} {symbols = symbols} {left} {after} {x} t f A T = record {
    position = T.position;
    inside = λ n k. A.inside n (left-passes (member left n) (not (eqb n x)) (sym (f n) ∙ k));
    enters = λ sets K L i B e S. symbol_tried B.setting (over ws sets) i left x after f (T.enters sets K L i left B (rw e (A.inside x t)) (A.enters sets K L i B e S));
  }

  pub symbols_end : {ws next own own' : List ℕ} {symbols left : ℕ} → left ≤ 0 → Blank own (codes card) → SymbolsTried card ws own own' next symbols left → SymbolsEntered card ws own' next symbols
  symbols_end {ws} {next} {own} {own'} {symbols} {left} z b A = record { position = A.position; entered = entered }
    where
      at_codes : (sets : List ℕ) (i : ℕ) (L : Labels (ranked_costs 1)) → Ahead card sets next i L → get_or sets i 0 ≡ symbols → Done (cell_graph ws card sets) (position_of card) L (suc i)
          → Entered (cell_graph ws card sets) (position_of card) (placed (i * codes card) (codes card) L (cell_at own')) i
      at_codes sets i L B e d =
          let l : left ≡ 0 = omega arith in
          let S = symbols_begun B.setting (over ws sets) d in
          let q = blank_same own (i * codes card) L b (λ w h k. d.blank w (omega (arith, node_inside B.setting w i h k))) in
          let U : EnteringBy card ws sets own L L i (NotLeft symbols) = subst (λ (M : Labels (ranked_costs 1)). Entering (cell_graph ws card sets) (position_of card) L M i (λ _. ⊥) (NotLeft symbols)) q (rw e at S) in
          symbols_entered B.setting (over ws sets) B.below d (rw l at (A.enters sets L L i B e U))

      entered : (sets : List ℕ) (P i : ℕ) (L : Labels (ranked_costs 1)) → Setting card sets P → i < length sets → get_or sets i 0 ≡ symbols → Done (cell_graph ws card sets) (position_of card) L (suc i)
          → ((t : ℕ) → t < P → L ((i + 1) * P + t) ≡ label_from (next_cell next t)) → Entered (cell_graph ws card sets) (position_of card) (placed (i * P) P L (cell_at own')) i
      entered sets P i L s h e d n =
          subst (λ (k : ℕ). Entered (cell_graph ws card sets) (position_of card) (placed (i * k) k L (cell_at own')) i) (sym s.states)
          (at_codes sets i L (record {
            setting = record { accepted = s.accepted; few = s.few; symbols = s.symbols; states = refl };
            below = h;
            nexts = subst (λ (k : ℕ). (t : ℕ) → t < k → L ((i + 1) * k + t) ≡ label_from (next_cell next t)) s.states n;
          }) e d)
