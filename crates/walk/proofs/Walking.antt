-- What the walk's requires says, for every node on the way. Assumes nothing.
use Rattle.std.specs.Prelude.{◌≡◌, ◌+◌, ◌*◌, ◌<◌, ◌≤◌}
use Rattle.basics.specs.Words.{sym, ◌∙◌, ap, subst, List, ℕ, arith, length, take, replicate, length-replicate, length-take-le, mul-le-mul_right}
use Rattle.ranking.specs.declared.Profile.{Profile}
use Rattle.ranking.specs.Profiles.{zero_profile}
use Rattle.machine.specs.Symbols.{empty_symbol}
use Rattle.machine.specs.Machine.{Machine, start_state}
use Rattle.card.specs.Card.{machines_of}
use Rattle.paths.specs.Costs.{Labels}
use Rattle.paths.specs.Ranked.{ranked_costs}
use Rattle.product.specs.Nodes.{state_counts}
use Rattle.product.specs.ProductGraph.{start_node, card_start}
use Rattle.product.specs.Laws.Setting.{few_nodes, node_below}
use Rattle.tables.specs.Tables.{CountsOfSome}
use Rattle.tables.specs.Laws.Cards.{card_machines, card_counts, start_below}
use Rattle.tables.proofs.Machines.{counts_length}
use Rattle.cells.specs.declared.Cell.{Cell}
use Rattle.cells.specs.Cells.{places}
use Rattle.columns.specs.Filling.{FillPre}
use Rattle.columns.specs.Laws.Places.{places_few, places_small}
use Rattle.tight.specs.Labels.{cell_of, HasLabel}
use Rattle.walk.specs.WalkLabels.{WalkLabels, WalkPre}
use Rattle.walk.proofs.Nodes.{Ground, Reached}
use Rattle.walk.proofs.Ends.{starts_reached}

module _ {ranked sums card counts ws sets : List ℕ} {size room : ℕ} (pre : WalkPre ranked sums card counts ws sets size room) where
  pub ground : {L : Labels (ranked_costs 1)} → WalkLabels ranked sums card counts ws sets room L → Ground ranked sums card ws sets size L
  ground {L} K = subst (λ (s : ℕ). Ground ranked sums card ws sets s L) (sym pre.size_is) (record { labelled = K.labelled; stored = K.stored; own = K.own; fits = K.fits })

  -- the labels that are there
  pub ground_there : Ground ranked sums card ws sets size pre.labels
  ground_there = ground pre.walk_labels

  pub counts_ok : CountsOfSome counts
  counts_ok = card_counts card ground_there.labelled.setting.accepted pre.counts_are

  pub places_of_few : size ≤ 16 → places counts ≤ 21
  places_of_few h = places_small counts_ok (omega (arith, pre.size_is))

  pub places_of_any : places counts ≤ 40
  places_of_any = places_few counts_ok

  -- one to six machines
  pub machines_are : length counts ≡ length (machines_of card)
  machines_are = ap length pre.counts_are ∙ counts_length (machines_of card)

  pub machines_few : length counts ≤ 6
  machines_few = omega (arith, machines_are, (card_machines card ground_there.labelled.setting.accepted).machines)

  -- those of six numbers
  pub machines_of_lem : (six : List ℕ) → length six ≡ 6 → length counts ≡ length (take (length counts) six)
  machines_of_lem six e = sym (length-take-le (length counts) six (omega (arith, machines_few)))

  pub machines_within : (six : List ℕ) → length six ≡ 6 → length counts ≤ length six
  machines_within six e = omega (arith, machines_few)

  pub insertions_fill : (W : ℕ) → W ≡ places counts → (steps : List ℕ) → 65 * places counts ≤ length steps → FillPre card counts steps W empty_symbol
  insertions_fill W w steps h = record { accepted = ground_there.labelled.setting.accepted; counts_are = pre.counts_are; input = omega arith; width = w; room = omega arith }

  pub nodes : (u : ℕ) → u < (length sets + 1) * size → HasLabel ranked sums u
  nodes u h = pre.nodes u (omega (arith, ap (λ (s : ℕ). (length sets + 1) * s) pre.size_is))

  -- the nodes of a position start at a small number
  pub base_few : (i : ℕ) → i ≤ length sets → i * size ≤ 3200
  base_few i h = let m : i * size ≤ (length sets + 1) * size = mul-le-mul_right size (omega arith) in omega (arith, few_nodes ground_there.labelled.setting)

  pub sets_few : length sets ≤ 24
  sets_few = ground_there.labelled.setting.few

  -- the start is a node
  start_node_lem : card_start card < (length sets + 1) * size
  start_node_lem =
      let s = ground_there.labelled.setting in
      node_below s 0 (card_start card) (omega arith) (omega (arith, start_below card s.accepted, s.states))

  module _ {code : ℕ} (is : (ms : List Machine) → counts ≡ state_counts ms → code ≡ start_node ms) where
    first : code ≡ card_start card
    first = is (machines_of card) pre.counts_are

    pub start_there : HasLabel ranked sums code × (code < 3200)
    start_there = (subst (HasLabel ranked sums) (sym first) (nodes (card_start card) start_node_lem), omega (arith, first, start_node_lem, few_nodes ground_there.labelled.setting))

    -- every labels in the slices have the same at the start
    pub starts_walk : {L : Labels (ranked_costs 1)} → Ground ranked sums card ws sets size L → {state : ℕ} → state ≡ start_state → {label : Cell} → label ≡ cell_of ranked sums code → {profile : Profile} → profile ≡ zero_profile → (before : List ℕ) → length before ≡ room
        → Reached card ws sets before before size L (record { position = 0; code = code; states = replicate 6 state; label = label; pairs = 0; passed = profile.counts })
    starts_walk {L} G {state} initial {label} its none before e =
        let K = pre.walk_labels in
        subst (λ (p : Profile). Reached card ws sets before before size L (record { position = 0; code = code; states = replicate 6 state; label = label; pairs = 0; passed = p.counts })) (sym none) (starts_reached G first initial its before K.cost (G.stored (card_start card) start_node_lem ∙ sym (ground_there.stored (card_start card) start_node_lem) ∙ K.cost_is) (omega (arith, K.answer_fits_lem)))

-- the front of a new array for columns
pub front_length : (room n : ℕ) → n ≤ room → n ≡ length {A = ℕ} (take n (replicate room 65535))
front_length room n h = sym (length-take-le n (replicate room 65535) (rw (length-replicate {A = ℕ} room 65535) h))

pub front_room : (room : ℕ) (counts : List ℕ) (W n : ℕ) → W ≡ places counts → n ≤ room → n ≡ 65 * W → 65 * places counts ≤ length {A = ℕ} (take n (replicate room 65535))
front_room room counts W n w h e = omega (arith, front_length room n h)
