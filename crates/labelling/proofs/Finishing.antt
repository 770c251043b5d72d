-- A position that was entered, settled and closed: one position more is labelled.
use Rattle.std.specs.Prelude.{◌≡◌, ◌+◌, ◌*◌, ◌/◌, ◌%◌, ◌<◌, ◌≤◌}
use Rattle.basics.proofs.Words.{sym, ◌∙◌, subst, Bool, List, ℕ, suc, arith, length, suc-mul, mul-le-mul_right, eq-eqb, ne_eqb}
use Rattle.machine.specs.Symbols.{empty_symbol}
use Rattle.card.specs.Card.{machines_of}
use Rattle.paths.specs.Costs.{Labels}
use Rattle.paths.specs.Ranked.{ranked_costs}
use Rattle.paths.specs.Positions.{Done, Entered}
use Rattle.product.specs.Setting.{position_of, Setting}
use Rattle.product.specs.Laws.Setting.{few_codes, node_below}
use Rattle.settling.specs.Insertions.{lists_of}
use Rattle.settling.specs.Settling.{SettlePre, Settled}
use Rattle.settling.proofs.PositionDone.{Tied}
use Rattle.cells.specs.Cells.{nowhere}
use Rattle.cells.specs.Labels.{cell_at, NextFits}
use Rattle.cells.specs.Laws.Position.{placed, placed_in}
use Rattle.cells.specs.Laws.Trying.{label_there}
use Rattle.columns.specs.Prepared.{Prepared}
use Rattle.insertions.specs.Listed.{Listed}
use Rattle.entering.specs.Entering.{cell_graph, Blank, Position, NextRoom}
use Rattle.labelling.specs.Kinds.{in_counts}
use Rattle.closing.specs.Closing.{ClosePre, ClosedAt}
use Rattle.labelling.specs.Labelling.{KeptShort, OrderPre, Room, Labelled, FinishPre, Finished}
use Rattle.labelling.specs.Laws.Settled.{number_graph, settled_last, settled_position}
use Rattle.labelling.specs.Laws.Tied.{tied, settle_ready, settle_fits}
use Rattle.labelling.proofs.Labelled.{Followed, labelled_next}

-- what holds when the position i is closed
pub record PositionClosed (card ws sets ranked sums own next : List ℕ) (K P i : ℕ) : Type 0 where
  pub labels : Labels (ranked_costs 1)
  pub labelled : Labelled card ws sets ranked sums i labels
  pub followed : Followed next P i labels
  pub room : NextRoom next ws K P
  pub blank : Blank own P
  pub own_size : length own ≡ 256
  pub next_size : length next ≡ 256

module _ {card ws hs marks sets steps entries ends : List ℕ} {P W kept : ℕ} {counts : Bool} (s : Setting card sets P) (O : OrderPre counts card sets ws hs marks P) (X : Prepared (machines_of card) empty_symbol W steps kept)
    (Y : Listed (machines_of card) O.order kept entries ends) {i : ℕ} (within : i ≤ length sets)
    {own : List ℕ} (L : Labels (ranked_costs 1)) (A : Position own P) (E : Entered (cell_graph ws card sets) (position_of card) (placed (i * P) P L (cell_at own)) i) where
  ties : Tied (number_graph ws card sets) (position_of card) i (lists_of entries ends hs counts) (i * P) P
  ties = tied s i within ws counts O.weights O.same X Y

  its_node : (c : ℕ) → c < P → i * P + c < (length sets + 1) * P
  its_node c b = node_below s i (i * P + c) within (omega arith)

  settle_pre : SettlePre (lists_of entries ends hs counts) own P
  settle_pre =
      settle_ready counts (few_codes s) A Y s.states O.highs_few O.if_ranked
      (settle_fits counts (few_codes s) A entries ends {top = nowhere} (omega arith) (λ c x b l. (O.short E.attained (i * P + c) x (its_node c b) (placed_in (i * P) P L (cell_at own) c b ∙ l)).room))

  module _ {ys : List ℕ} (S : Settled (lists_of entries ends hs counts) own ys) where
    done : Done (cell_graph ws card sets) (position_of card) (placed (i * P) P L (cell_at ys)) i
    done = settled_position ws s ties A S.size S L E

    last : (c : ℕ) → c < P → (cell_at ys c).high < nowhere → (cell_at ys c).high % 256 ≡ 255
    last = settled_last ws s ties A S.size S

    short : (c : ℕ) → c < P → (cell_at ys c).high < nowhere → KeptShort counts hs ((cell_at ys c).high / 256, (cell_at ys c).low)
    short c b h = O.short done.attained (i * P + c) ((cell_at ys c).high / 256, (cell_at ys c).low) (its_node c b) (placed_in (i * P) P L (cell_at ys) c b ∙ label_there (cell_at ys c) h)

    close_ready : {ranked sums next : List ℕ} → counts ≡ in_counts sums → Room ranked sums ((length sets + 1) * P) → length next ≡ 256 → ClosePre ranked sums ys next (i * P) P
    close_ready {sums = sums} kind R e =
        let m : suc i * P ≤ (length sets + 1) * P = mul-le-mul_right P (omega arith) in
        record {
          counts = λ z. record { nodes = omega (arith, R.counts z, suc-mul i P); high = λ c b h. omega (arith, (short c b h).in_counts_lem (kind ∙ eq-eqb (length sums) 0 z)) };
          in_sums = λ z. record {
            nodes = omega (arith, R.in_sums z, suc-mul i P);
            few = λ c b h. let k = (short c b h).in_sum (kind ∙ ne_eqb (length sums) 0 z) in (omega (arith, k.0), k.1);
          };
          pass = record { few = few_codes s; own_size = S.size; next_size = e; last = last; low = λ c b h. omega (arith, (short c b h).room.low) };
        }

    closed_next : {ranked ranked' sums sums' own' next next' : List ℕ} (K : ℕ) → K ≤ 6 → Labelled card ws sets ranked sums (suc i) L → NextFits next → ClosedAt ranked ranked' sums sums' ys own' next next' (i * P) P
        → PositionClosed card ws sets ranked' sums' own' next' K P i
    closed_next K six B N C =
        let N' = C.passed in
        record {
          labels = placed (i * P) P L (cell_at ys);
          labelled = labelled_next s B done C;
          followed = record { labels = λ t h. placed_in (i * P) P L (cell_at ys) t h ∙ sym (N'.same t h) };
          room = record {
            labels = N'.labels;
            fits = N'.fits N;
            room = λ t b h.
                let q = N'.high_same t b h in
                let k : (cell_at ys t).high < nowhere = omega arith in
                omega (arith, (short t b k).room.high, last t b k, O.most K six);
          };
          blank = N'.blank;
          own_size = N'.own_size;
          next_size = N'.next_size;
        }

  module _ {ranked sums : List ℕ} (kind : counts ≡ in_counts sums) where
    pub finish_ready : {next : List ℕ} → Room ranked sums ((length sets + 1) * P) → length next ≡ 256 → FinishPre ranked sums hs own next entries ends (i * P) P
    finish_ready R e = record {
      settle = subst (λ (k : Bool). SettlePre (lists_of entries ends hs k) own P) kind settle_pre;
      close = λ ys S. close_ready (subst (λ (k : Bool). Settled (lists_of entries ends hs k) own ys) (sym kind) S) kind R e;
    }

    pub finished : {ranked' sums' own' next next' : List ℕ} (K : ℕ) → K ≤ 6 → Labelled card ws sets ranked sums (suc i) L → NextFits next
        → Finished ranked ranked' sums sums' hs own own' next next' entries ends (i * P) P → PositionClosed card ws sets ranked' sums' own' next' K P i
    finished K six B N F = closed_next (subst (λ (k : Bool). Settled (lists_of entries ends hs k) own F.labels) (sym kind) F.settled) K six B N F.closed
