-- The loops over the positions of a stage, and over the stages.
use Rattle.std.specs.Prelude.{◌≡◌, ◌&&◌, ◌≢◌, ◌+◌, ◌*◌, ◌-◌, ◌≤◌, ◌<◌}
use Rattle.basics.proofs.Words.{refl, sym, ◌∙◌, ap, subst, true, not, List, Option, none, some, Option·map, inr, ℕ, zero, suc, arith, length, get_or, set, length-set, length-map, List·getD-eq-default, eqb, get_or-set_same, get_or-set_other, ℕ_discrete, dec_lt, member, left as left-passes}
use Rattle.card.specs.Card.{machines_of}
use Rattle.tables.specs.Work.{state_of}
use Rattle.paths.specs.Labels.{Closed}
use Rattle.paths.specs.Costs.{Labels}
use Rattle.paths.specs.Graph.{Graph}
use Rattle.paths.specs.Ranked.{Ranked, count_at, ranked_costs}
use Rattle.paths.specs.Positions.{Done, Entering, done_start}
use Rattle.product.specs.Nodes.{state_count_of}
use Rattle.tables.specs.Laws.Cards.{card_machines}
use Rattle.product.specs.ProductGraph.{pairs}
use Rattle.product.specs.Setting.{position_of, Setting}
use Rattle.product.specs.Laws.Setting.{symbols_few, few_nodes}
use Rattle.cells.specs.declared.Groups.{Groups}
use Rattle.product.specs.Laws.Letters.{over_positioned}
use Rattle.product.specs.Laws.Entering.{NotLeft, symbols_begun, symbols_entered}
use Rattle.tables.specs.Engine.{engine_graph}
use Rattle.cull.specs.Cull.{FewestBelow}
use Rattle.cull.specs.Left.{left_same, fewest_same}
use Rattle.cull.specs.OneConstraint.{stage_marks, LeastPrices}
use Rattle.cull.specs.Idle.{unmarked, idle_stage}
use Rattle.cull.specs.Stages.{cull_start}
use Rattle.stage.specs.StageLabels.{count_of, pair_count_of, stage_label}
use Rattle.cull.specs.FewestTold.{fewest_in}
use Rattle.stage_entering.specs.declared.Site.{Site}
use Rattle.stage_entering.specs.Entering.{codes_at, NodesPre, AheadOf}
use Rattle.stage_entering.specs.Tables.{ListPre}
use Rattle.stage_entering.specs.Inputs.{InputPre, InputTried}
use Rattle.stage_settling.specs.Settling.{SettlePre, SettledBy}
use Rattle.cull.specs.Culling.{pairs_counted, stage_graph, left_by, Culled, StageAt, CullPre, LentTables, SymbolsAt, SymbolsPre, PositionEntered, SymbolsEntered, EndsTried, LastPre, LastTried, StagePre, StageDone, Blanked, PlaceCleared}
use Rattle.cull.specs.Ways.{StagesDone}
use Rattle.cull.specs.Survivors.{counts_fewest, stage_leaves}
use Rattle.stage.proofs.StageWork.{stage_labelled, stage_unlabelled, stage_alike, spaced}
use Rattle.cull.proofs.Positions.{culled_kept, stage_over, position_there, symbol_nodes, insertion_ready, symbol_entering, position_settled}
use Rattle.stage_entering.proofs.Front.{ahead_kept}
use Rattle.cull.proofs.Ending.{ends_entered}
use Rattle.cull.proofs.Unused.{ways_unmarked}
use Rattle.cull.proofs.NextStage.{stage_count_told, fewest_told, least_told, last_closed, last_attained}

-- ---- taking the labels of the stage before

pub blank_next : {xs ys : List ℕ} {n : ℕ} → n * 8 < length ys → Blanked xs ys n → Blanked xs (set ys (n * 8) 0) (n + 1)
blank_next {xs} {ys} {n} r B = record {
  size = length-set ys (n * 8) 0 ∙ B.size;
  states = λ u h. state u h (ℕ_discrete u n);
  counts = λ i w h. get_or-set_other ys (n * 8) (w * 8 + 1 + i) 0 0 (λ e. spaced w n (1 + i) 0 (omega arith) (omega arith) (inr (omega arith)) (omega (arith, e))) ∙ B.counts i w h;
}
  where
    state : (u : ℕ) → u < n + 1 → Dec (u ≡ n) → state_of (set ys (n * 8) 0) u ≡ 0
    state u h (yes q) = rw q (get_or-set_same ys (n * 8) 0 0 r)
    state u h (no d) = get_or-set_other ys (n * 8) (u * 8) 0 0 (λ e. d (omega (arith, e))) ∙ B.states u (omega arith)

-- ---- what is lent stays

pub tables_kept : {card counts ws steps steps' : List ℕ} {g : Groups} → length steps' ≡ length steps → ListPre card counts ws steps g → ListPre card counts ws steps' g
tables_kept e T = record { accepted = T.accepted; counts_are = T.counts_are; weights = T.weights; groups = T.groups; few = T.few; room = omega (arith, e, T.room) }

pub lent_kept : {card counts ws steps steps' high high' low low' : List ℕ} {g : Groups} {P : ℕ} → LentTables card counts ws steps high low g P → length steps' ≡ length steps → length high' ≡ length high → length low' ≡ length low
    → LentTables card counts ws steps' high' low' g P
lent_kept L a b c = record { tables = tables_kept a L.tables; codes = L.codes; high_size = b ∙ L.high_size; low_size = c ∙ L.low_size }

-- ---- one symbol of the set at a position after the other

-- those that are not left were tried
pub record SymbolsTried (card ws xs ys : List ℕ) (set left : ℕ) (at : Site) : Type 0 where
  pub size : length ys ≡ length xs
  pub counts : (j w : ℕ) → j < at.stage → count_of ys j w ≡ count_of xs j w
  pub inside : (x : ℕ) → member left x ≡ true → member set x ≡ true
  pub enters : (ranking sets : List ℕ) (i : ℕ) (A : SymbolsAt card ranking sets ws xs set i at)
      → Entering (stage_graph card ranking sets A.later.fewest at.stage) (position_of card) (stage_label xs at.stage) (stage_label ys at.stage) i (λ _. ⊥) (NotLeft left)

pub symbols_start : {card ws xs : List ℕ} {set : ℕ} {at : Site} → SymbolsTried card ws xs xs set set at
symbols_start {card} {ws} {xs} {set} {at} = record {
  size = refl;
  counts = λ j w h. refl;
  inside = λ x m. m;
  enters = λ ranking sets i A.
      subst (λ (n : ℕ). Entering (stage_graph card ranking sets A.later.fewest at.stage) (position_of card) (stage_label xs at.stage) (stage_label xs at.stage) i (λ _. ⊥) (NotLeft n)) (sym A.set_is)
      (symbols_begun A.setting (stage_over A.setting ranking A.later.fewest at.stage A.later.culled) A.later.done);
}

module _ {card ranking sets ws xs ys : List ℕ} {set i left : ℕ} {at : Site} (A : SymbolsAt card ranking sets ws xs set i at) (T : SymbolsTried card ws xs ys set left at) where
  pub nodes_there : NodesPre ys at.base (codes_at at) at.stage
  nodes_there =
      subst (λ (b : ℕ). NodesPre ys b (codes_at at) at.stage) (sym A.base_is)
      (symbol_nodes A.setting ranking A.later.fewest at.stage A.stage (T.size ∙ A.room) (culled_kept T.counts A.later.culled) i A.within (T.enters ranking sets i A).attained)

  in_set : (x : ℕ) → member left x ≡ true → member (get_or sets i 0) x ≡ true
  in_set x m = subst (λ (n : ℕ). member n x ≡ true) A.set_is (T.inside x m)

  module _ {x : ℕ} (m : member left x ≡ true) where
    pub symbol_reads : 1 ≤ x
    symbol_reads = (A.setting.symbols i x (in_set x m)).0

    pub input_pre : {ahead counts steps high low : List ℕ} → ListPre card counts ws steps at.groups → length high ≡ 264 → length low ≡ 264 → AheadOf ys at.stage (at.base + codes_at at) (codes_at at) ahead → InputPre ys ahead card counts ws steps high low at x
    input_pre B eh el H = record {
      given = nodes_there;
      ahead_is = H;
      tables = B;
      ranking = ranking;
      order = A.order;
      input = omega (arith, symbols_few A.setting, A.setting.symbols i x (in_set x m));
      high_size = eh;
      low_size = el;
    }

pub symbols_next : {card ws xs ys zs : List ℕ} {set left after x : ℕ} {at : Site} → SymbolsTried card ws xs ys set left at → member left x ≡ true → ((n : ℕ) → member after n ≡ (member left n && not (eqb n x)))
    → InputTried card ws ys zs x at.base (codes_at at) at.stage → SymbolsTried card ws xs zs set after at
symbols_next {card} {ws} {xs} {ys} {zs} {set} {left} {after} {x} {at} T m f R = record {
  size = R.size ∙ T.size;
  counts = λ j w h. R.counts j w h ∙ T.counts j w h;
  inside = λ n z. T.inside n (left-passes (member left n) (not (eqb n x)) (sym (f n) ∙ z));
  enters = λ ranking sets i A. symbol_entering A.setting ranking A.later.fewest at.stage A.stage (T.size ∙ A.room) (culled_kept T.counts A.later.culled) i left after x (in_set A T x m) A.order f
      (subst (λ (b : ℕ). InputTried card ws ys zs x b (codes_at at) at.stage) A.base_is R) (T.enters ranking sets i A);
}

pub ahead_stays : {card ws ys zs ahead : List ℕ} {x : ℕ} (at : Site) → InputTried card ws ys zs x at.base (codes_at at) at.stage → AheadOf ys at.stage (at.base + codes_at at) (codes_at at) ahead → AheadOf zs at.stage (at.base + codes_at at) (codes_at at) ahead
ahead_stays at R H = ahead_kept R.counts (λ w l. R.others w (inr l)) H

pub symbols_end : {card ws xs ys : List ℕ} {set left : ℕ} {at : Site} → SymbolsTried card ws xs ys set left at → left ≤ 0 → SymbolsEntered card ws xs ys set at
symbols_end {card} {ws} {xs} {ys} {set} {left} {at} T z = record {
  enters = λ ranking sets i A. record {
    size = T.size;
    fewest = A.later.fewest;
    culled = culled_kept T.counts A.later.culled;
    entered = symbols_entered A.setting (stage_over A.setting ranking A.later.fewest at.stage A.later.culled) A.within A.later.done
        (subst (λ (n : ℕ). Entering (stage_graph card ranking sets A.later.fewest at.stage) (position_of card) (stage_label xs at.stage) (stage_label ys at.stage) i (λ _. ⊥) (NotLeft n)) none_left (T.enters ranking sets i A));
  };
}
  where
    none_left : left ≡ 0
    none_left = omega arith

-- ---- a position

-- the position i, past which the positions are done
pub record PositionPre (card ranking sets cs ws entries ends xs : List ℕ) (P i k : ℕ) : Type 0 where
  pub given : CullPre card ranking sets cs ws entries ends xs P k
  pub within : i ≤ length sets
  pub later : StageAt card ranking sets xs k (suc i)

pub record PositionDone (card ranking sets xs ys : List ℕ) (i k : ℕ) : Type 0 where
  pub size : length ys ≡ length xs
  pub done : StageAt card ranking sets ys k i

-- the last position
module _ {card ranking sets cs ws entries ends xs steps high low : List ℕ} {g : Groups} {P k : ℕ} (Q : PositionPre card ranking sets cs ws entries ends xs P (length sets) k) (L : LentTables card cs ws steps high low g P) where
  abbrev last : Site
  last = record { groups = g; base = length sets * P; stage = k }

  pub last_pre : LastPre xs card cs ws steps high low last
  last_pre =
      let t = position_there Q.given.setting (length sets) (omega arith) in
      let p : length sets * P + g.size ≡ length sets * P + P = ap (λ (n : ℕ). length sets * P + n) (sym L.codes) in
      record {
        nodes = omega (arith, Q.given.room, t, p);
        few_nodes = omega (arith, t, p, few_nodes Q.given.setting);
        stage = Q.given.stage;
        tables = L.tables;
        high_size = L.high_size;
        low_size = L.low_size;
      }

  pub last_entered : {ys : List ℕ} → LastTried card ws xs ys last → PositionEntered card ranking sets xs ys (length sets) k
  last_entered {ys} R = record {
    size = T.size;
    fewest = Q.later.fewest;
    culled = culled_kept T.counts Q.later.culled;
    entered = ends_entered Q.given.setting ranking Q.later.fewest Q.later.culled Q.later.done T;
  }
    where
      T : EndsTried card ranking sets xs ys k (length sets * P) (length sets * P + P)
      T = R.ends ranking sets P Q.given.setting L.codes refl Q.given.order

-- a position before the last one
module _ {card ranking sets cs ws entries ends xs steps high low : List ℕ} {g : Groups} {P i k : ℕ} (Q : PositionPre card ranking sets cs ws entries ends xs P i k) (L : LentTables card cs ws steps high low g P) (h : i < length sets) where
  abbrev here : Site
  here = record { groups = g; base = i * P; stage = k }

  symbols_at : SymbolsAt card ranking sets ws xs (get_or sets i 0) i here
  symbols_at = record {
    setting = subst (λ (n : ℕ). Setting card sets n) L.codes Q.given.setting;
    order = Q.given.order;
    within = h;
    set_is = refl;
    base_is = ap (λ (n : ℕ). i * n) L.codes;
    room = Q.given.room ∙ ap (λ (n : ℕ). (length sets + 1) * n * 8) L.codes;
    stage = Q.given.stage;
    later = Q.later;
  }

  pub symbols_pre : SymbolsPre xs card cs ws steps high low (get_or sets i 0) here
  symbols_pre = record { ranking = ranking; sets = sets; position = i; given = symbols_at; tables = L.tables; high_size = L.high_size; low_size = L.low_size }

  pub position_entered : {ys : List ℕ} → SymbolsEntered card ws xs ys (get_or sets i 0) here → PositionEntered card ranking sets xs ys i k
  position_entered E = E.enters ranking sets i symbols_at

module _ {card ranking sets cs ws entries ends xs : List ℕ} {P i k : ℕ} (Q : PositionPre card ranking sets cs ws entries ends xs P i k) where
  module _ {ys : List ℕ} (E : PositionEntered card ranking sets xs ys i k) where
    pub settle_ready : SettlePre ys entries ends k (i * P) P
    settle_ready = insertion_ready Q.given.setting ranking E.fewest k Q.given.stage (E.size ∙ Q.given.room) E.culled i Q.within Q.given.lists E.entered.attained

    pub position_labelled : {zs : List ℕ} → SettledBy ys zs entries ends k (i * P) P → PositionDone card ranking sets xs zs i k
    position_labelled {zs} D = record {
      size = D.size ∙ E.size;
      done = record {
        fewest = E.fewest;
        culled = culled_kept D.counts E.culled;
        done = position_settled Q.given.setting ranking E.fewest k Q.given.stage (E.size ∙ Q.given.room) E.culled i Q.within Q.given.lists D E.entered;
      };
    }

-- ---- a stage

pub stage_given : {card ranking sets cs ws entries ends xs ys : List ℕ} {P j k : ℕ} → length ys ≡ length xs → k < 6 → CullPre card ranking sets cs ws entries ends xs P j → CullPre card ranking sets cs ws entries ends ys P k
stage_given e h Q = record { setting = Q.setting; counts_are = Q.counts_are; order = Q.order; lists = Q.lists; room = e ∙ Q.room; ranked = Q.ranked; stage = h }

given_next : {card ranking sets cs ws entries ends xs ys : List ℕ} {P k : ℕ} → length ys ≡ length xs → CullPre card ranking sets cs ws entries ends xs P k → CullPre card ranking sets cs ws entries ends ys P k
given_next e Q = stage_given e Q.stage Q

pub position_passed : {card ranking sets xs ys zs : List ℕ} {i k : ℕ} → length ys ≡ length xs → PositionDone card ranking sets ys zs i k → PositionDone card ranking sets xs zs i k
position_passed e D = record { size = D.size ∙ e; done = D.done }

module _ {card ranking sets cs ws entries ends xs : List ℕ} {P k : ℕ} (Q : StagePre card ranking sets cs ws entries ends xs P k) where
  -- no label is there: the last position is the first to be labelled
  pub last_ready : {ys : List ℕ} → Blanked xs ys ((length sets + 1) * P) → PositionPre card ranking sets cs ws entries ends ys P (length sets) k
  last_ready {ys} B = record {
    given = given_next B.size Q.given;
    within = omega arith;
    later = record { fewest = fewest_in xs; culled = culled_kept (λ i w h. B.counts i w (omega (arith, Q.given.stage))) culled; done = nothing };
  }
    where
      culled : Culled card ranking sets (fewest_in xs) xs k
      culled = record { below = Q.before; told = λ i u m h e. stage_count_told xs i u m e }

      unlabelled : (u : ℕ) → Dec (u < (length sets + 1) * P) → stage_label ys k u ≡ none
      unlabelled u (yes h) = stage_unlabelled ys k u (B.states u h)
      unlabelled u (no h) = stage_unlabelled ys k u (List·getD-eq-default ys 0 (omega (arith, B.size, Q.given.room)))

      nothing : Done (stage_graph card ranking sets (fewest_in xs) k) (position_of card) (stage_label ys k) (suc (length sets))
      nothing = done_start (stage_graph card ranking sets (fewest_in xs) k) (position_of card) (over_positioned (stage_over Q.given.setting ranking (fewest_in xs) k culled)) (stage_label ys k) (λ u. unlabelled u (dec_lt u ((length sets + 1) * P)))

  pub last_labelled : {ys zs vs steps high low : List ℕ} {g : Groups} → LentTables card cs ws steps high low g P → Blanked xs ys ((length sets + 1) * P)
      → LastTried card ws ys zs (record { groups = g; base = length sets * P; stage = k }) → SettledBy zs vs entries ends k (length sets * P) P → PositionDone card ranking sets xs vs (length sets) k
  last_labelled L B T D =
      let q = last_ready B in
      position_passed B.size (position_labelled q (last_entered q L T) D)

  pub position_ready : {ys : List ℕ} (i : ℕ) → 0 < i → i ≤ length sets → PositionDone card ranking sets xs ys i k → PositionPre card ranking sets cs ws entries ends ys P (i - 1) k
  position_ready i a b D = let q : suc (i - 1) ≡ i = omega arith in record { given = given_next D.size Q.given; within = omega arith; later = rw q D.done }

-- all positions are done: so is the stage
pub stage_end : {card ranking sets xs ys : List ℕ} {i k : ℕ} → PositionDone card ranking sets xs ys i k → i ≤ 0 → StageDone card ranking sets xs ys k
stage_end {card} {ranking} {sets} {xs} {ys} {i} {k} D h = record {
  size = D.size;
  before = fewest_told (engine_graph (machines_of card) ranking sets) (pairs_counted card ranking sets) A.fewest k A.culled.below ys A.culled.told closed A.done.attained;
  labels = least_told (engine_graph (machines_of card) ranking sets) (pairs_counted card ranking sets) A.fewest k A.culled.below ys A.culled.told closed A.done.attained;
}
  where
    A : StageAt card ranking sets ys k i
    A = D.done

    closed : Closed (stage_graph card ranking sets A.fewest k) (stage_label ys k)
    closed u = A.done.closed u (omega arith)

-- ---- the stages

-- after the first k stages
pub record StagesGone (card ranking sets xs ys : List ℕ) (k : ℕ) : Type 0 where
  pub size : length ys ≡ length xs
  pub before : FewestBelow (engine_graph (machines_of card) ranking sets) (count_at 6) (fewest_in ys) k
  pub last : (j : ℕ) → k ≡ suc j → StageDone card ranking sets xs ys j

pub stages_start : {card ranking sets xs : List ℕ} → StagesGone card ranking sets xs xs 0
stages_start {card} {ranking} {sets} {xs} = record { size = refl; before = cull_start 6 (engine_graph (machines_of card) ranking sets) (fewest_in xs); last = λ j e. absurd (omega arith) }

-- the stage k is done
stages_done : {card ranking sets xs ys : List ℕ} {k : ℕ} → StageDone card ranking sets xs ys k → StagesGone card ranking sets xs ys (k + 1)
stages_done {k = k} D = let q : k + 1 ≡ suc k = omega arith in rw q (record { size = D.size; before = counts_fewest D; last = λ j e. let z : j ≡ k = omega arith in rw z D })

pub stages_next : {card ranking sets xs ys zs : List ℕ} {k : ℕ} → StagesGone card ranking sets xs ys k → StageDone card ranking sets ys zs k → StagesGone card ranking sets xs zs (k + 1)
stages_next A D = stages_done (record { size = D.size ∙ A.size; before = D.before; labels = D.labels })

-- ---- the places past the last machine

machines_few : {card sets : List ℕ} {P : ℕ} → Setting card sets P → length (machines_of card) ≤ 6
machines_few {card} s = (card_machines card s.accepted).machines

module _ {card ranking sets cs ws entries ends xs : List ℕ} {P j : ℕ} (Q : CullPre card ranking sets cs ws entries ends xs P j) where
  counts_length : length cs ≡ length (machines_of card)
  counts_length = ap length Q.counts_are ∙ length-map (machines_of card) state_count_of

  counts_some : 1 ≤ length cs
  counts_some = omega (arith, counts_length, (card_machines card Q.setting.accepted).some_machine)

  pub counts_few : length cs ≤ 6
  counts_few = omega (arith, counts_length, machines_few Q.setting)

pub clear_next : {xs ys : List ℕ} {n k : ℕ} → k < 6 → n * 8 + 1 + k < length ys → PlaceCleared xs ys n k → PlaceCleared xs (set ys (n * 8 + 1 + k) 0) (n + 1) k
clear_next {xs} {ys} {n} {k} few r B = record {
  size = length-set ys (n * 8 + 1 + k) 0 ∙ B.size;
  states = λ w. let q : w * 8 + 0 ≡ w * 8 = omega arith in (rw q at (other w 0 (omega arith) (omega arith))) ∙ B.states w;
  pair_counts = λ w. other w 7 (omega arith) (omega arith) ∙ B.pair_counts w;
  counts = λ i w h. let q : w * 8 + (1 + i) ≡ w * 8 + 1 + i = omega arith in (rw q at (other w (1 + i) (omega arith) (omega arith))) ∙ B.counts i w h;
  cleared = λ w h. count w h (ℕ_discrete w n);
}
  where
    other : (w j : ℕ) → j < 8 → j ≢ 1 + k → get_or (set ys (n * 8 + 1 + k) 0) (w * 8 + j) 0 ≡ get_or ys (w * 8 + j) 0
    other w j h d = get_or-set_other ys (n * 8 + 1 + k) (w * 8 + j) 0 0 (λ e. spaced w n j (1 + k) h (omega arith) (inr d) (omega (arith, e)))

    count : (w : ℕ) → w < n + 1 → Dec (w ≡ n) → count_of (set ys (n * 8 + 1 + k) 0) k w ≡ 0
    count w h (yes q) = rw q (get_or-set_same ys (n * 8 + 1 + k) 0 0 r)
    count w h (no d) = get_or-set_other ys (n * 8 + 1 + k) (w * 8 + 1 + k) 0 0 (λ e. d (omega (arith, e))) ∙ B.cleared w (omega arith)

-- the labels that a stage rests on are the same in another slice
done_carried : {card ranking sets xs ys zs : List ℕ} {k : ℕ} → length zs ≡ length ys → ((i : ℕ) → i < suc k → stage_label ys i ≡ stage_label zs i) → StageDone card ranking sets xs ys k → StageDone card ranking sets xs zs k
done_carried {card} {ranking} {sets} {xs} {ys} {zs} {k} e same D = record {
  size = e ∙ D.size;
  before = fewest_same (engine_graph (machines_of card) ranking sets) (count_at 6) (fewest_in ys) (fewest_in zs) k fewest D.before;
  labels = subst (λ (L : Labels (ranked_costs 1)). LeastPrices 6 k (left_by card ranking sets zs k) L) (same k (omega arith))
      (subst (λ (B : Graph (ranked_costs 6) pairs). LeastPrices 6 k B (stage_label ys k)) (left_same (engine_graph (machines_of card) ranking sets) (count_at 6) (fewest_in ys) (fewest_in zs) k fewest) D.labels);
}
  where
    fewest : (i : ℕ) → i < k → fewest_in ys i ≡ fewest_in zs i
    fewest i l = let q = same i (omega arith) in λ j u. stage_marks (q j u)

-- a constraint that the machines do not have: its place is cleared, and its stage is done
pub stages_idle : {card ranking sets xs ys zs vs cs ws entries ends : List ℕ} {P j k : ℕ} → CullPre card ranking sets cs ws entries ends vs P j → length ys ≡ length vs → length cs ≤ k → k < 6 → StagesGone card ranking sets xs ys k → PlaceCleared ys zs ((length sets + 1) * P) k
    → StagesGone card ranking sets xs zs (k + 1)
stages_idle {card} {ranking} {sets} {xs} {ys} {zs} {cs = cs} {P = P} {k = zero} Q room past few A C = absurd (omega (arith, past, counts_some Q))
stages_idle {card} {ranking} {sets} {xs} {ys} {zs} {cs = cs} {P = P} {k = suc j} Q room past few A C = stages_done (record {
  size = D.size;
  before = counts_fewest D;
  labels = idle_stage 6 j (engine_graph (machines_of card) ranking sets) (fewest_in zs) D.before D.labels (λ u. refl) (ways_unmarked card ranking sets (machines_few Q.setting) (suc j) few (omega (arith, past, Q.ranked))) (λ u. label u (ℕ_discrete (state_of zs u) 0));
})
  where
    D : StageDone card ranking sets xs zs j
    D = done_carried C.size (λ i l. λ h w. stage_alike zs i w ys (sym (C.states w)) (sym (C.counts i w (omega arith))) (sym (C.pair_counts w)) h) (A.last j refl)

    no_marks : (u : ℕ) → state_of zs u ≢ 0 → Dec (u < (length sets + 1) * P) → count_of zs (suc j) u ≡ 0
    no_marks u n (yes h) = C.cleared u h
    no_marks u n (no h) = absurd (n (List·getD-eq-default zs 0 (omega (arith, C.size, room, Q.room))))

    label : (u : ℕ) → Dec (state_of zs u ≡ 0) → stage_label zs (suc j) u ≡ Option·map unmarked (stage_label zs j u)
    label u (yes e) = stage_unlabelled zs (suc j) u e ∙ sym (ap (Option·map unmarked) (stage_unlabelled zs j u e))
    label u (no n) = stage_labelled zs (suc j) u n ∙ ap {B = Option (Ranked 1)} (λ (m : ℕ). some (m, pair_count_of zs u)) (no_marks u n (dec_lt u ((length sets + 1) * P))) ∙ sym (ap (Option·map unmarked) (stage_labelled zs j u n))

pub stages_end : {card ranking sets cs ws entries ends xs ys : List ℕ} {P j k : ℕ} → CullPre card ranking sets cs ws entries ends xs P j → StagesGone card ranking sets xs ys k → k ≡ 6 → StagesDone card ranking sets xs ys
stages_end {card} {ranking} {sets} {ys = ys} Q A q =
    let D = A.last 5 q in
    record {
      stages = λ i h. stage_leaves card ranking Q.setting.accepted (Q.ranked ∙ counts_length Q) sets ys i h (λ m l. A.before m (omega (arith, q, h, l, machines_few Q.setting)));
      labels = record {
        size = A.size;
        done = record {
          attained = last_attained (engine_graph (machines_of card) ranking sets) ys D.before D.labels;
          closed = λ u h. last_closed (engine_graph (machines_of card) ranking sets) ys D.before D.labels u;
          blank = λ u h. absurd (omega arith);
        };
      };
    }
