-- The insertions of a card in lists: what listing them needs, and what it gives.
use Rattle.std.specs.Prelude.{◌≤◌}
use Rattle.basics.specs.Words.{refl, List, ℕ}
use Rattle.machine.specs.Symbols.{empty_symbol}
use Rattle.card.specs.Layout.{symbol_count}
use Rattle.card.specs.Card.{machines_of}
use Rattle.product.specs.Nodes.{product}
use Rattle.tables.specs.Places.{six_places, SixPlaces}
use Rattle.tables.specs.Laws.Cards.{card_machines}
use Rattle.cells.specs.declared.Groups.{Groups}
use Rattle.columns.specs.Prepared.{Prepared}
use Rattle.insertions.specs.RankedWeights.{RankedWeights}
use Rattle.insertions.specs.Listing.{InsertionColumns, ListedBy}
use Rattle.insertions.specs.Listing as listing
use Rattle.stage_entering.specs.Tables.{ListPre, ListsOf}

module _ {card counts ws steps : List ℕ} {g : Groups} (Q : ListPre card counts ws steps g) where
  pub codes_few : product counts ≤ 128
  codes_few = rw Q.counts_are (card_machines card Q.accepted).joint_states

  module _ {steps' : List ℕ} {W kept : ℕ} (X : Prepared (machines_of card) empty_symbol W steps' kept) where
    columns_are : InsertionColumns (symbol_count card) (machines_of card) steps' counts W
    columns_are = record { machines = card_machines card Q.accepted; counts_are = Q.counts_are; columns = X.columns }

    pub count_ready : listing.ListPre steps' counts ws W kept g
    count_ready = record { symbols = symbol_count card; machines = machines_of card; of = columns_are; weights = Q.weights; groups = Q.groups; few = Q.few; no_pair = X.no_pair refl }

    pub listed_of : {entries ends : List ℕ} → ListedBy steps' counts ws W kept entries ends → (ranking : List ℕ) → RankedWeights (six_places ranking) ws → SixPlaces (six_places ranking) → ListsOf card ranking entries ends
    listed_of L ranking R six = record { kept = kept; width = W; steps = steps'; prepared = X; listed = L (symbol_count card) (machines_of card) (six_places ranking) columns_are six R }
