-- What listing the insertions and the stages are given.
use Rattle.std.specs.Prelude.{◌≡◌, ◌+◌, ◌*◌}
use Rattle.basics.specs.Words.{refl, sym, ◌∙◌, ap, subst, List, ℕ, arith, length, length-map}
use Rattle.ranking.specs.Lemmas.Rankings.{ranking_facts}
use Rattle.card.specs.Layout.{machine_count}
use Rattle.card.specs.Card.{machines_of}
use Rattle.product.specs.Nodes.{state_count_of}
use Rattle.product.specs.Setting.{Setting}
use Rattle.product.specs.Laws.Accepted.{accepted_machines}
use Rattle.tables.specs.Places.{six_places, SixPlaces}
use Rattle.tables.proofs.Prefix.{places_six}
use Rattle.cells.specs.declared.Groups.{Groups}
use Rattle.cull.specs.Tables.{TablesPre, RankedBy}
use Rattle.stage_entering.specs.Tables.{ListPre, ListsOf}
use Rattle.cull.specs.Culling.{CullPre, LentTables}

module _ {work card counts ws sets steps : List ℕ} {g : Groups} (Q : TablesPre work card counts ws sets steps g) where
  pub list_ready : ListPre card counts ws steps g
  list_ready = record { accepted = Q.setting.accepted; counts_are = Q.counts_are; weights = Q.weights; groups = Q.groups; few = Q.few; room = Q.columns }

  pub cull_ready : (ranking : List ℕ) {entries ends : List ℕ} → RankedBy card ranking ws → (SixPlaces (six_places ranking) → ListsOf card ranking entries ends) → CullPre card ranking sets counts ws entries ends work g.size 0
  cull_ready ranking R N = record {
    setting = subst (λ (n : ℕ). Setting card sets n) (sym Q.groups.size_is) Q.setting;
    counts_are = Q.counts_are;
    order = record { ranked = R.weights; six = six };
    lists = N six;
    room = Q.room ∙ ap (λ (n : ℕ). (length sets + 1) * n * 8) (sym Q.groups.size_is);
    ranked = (ranking_facts (machine_count card) ranking R.ranks).places ∙ sym (accepted_machines card Q.setting.accepted).count ∙ sym (ap length Q.counts_are ∙ length-map (machines_of card) state_count_of);
    stage = omega arith;
  }
    where
      six : SixPlaces (six_places ranking)
      six = places_six card Q.setting.accepted ranking refl R.ranks

  pub lent_ready : {steps' high low : List ℕ} → length steps' ≡ length steps → length high ≡ 264 → length low ≡ 264 → LentTables card counts ws steps' high low g g.size
  lent_ready e eh el = record {
    tables = record { accepted = Q.setting.accepted; counts_are = Q.counts_are; weights = Q.weights; groups = Q.groups; few = Q.few; room = omega (arith, e, Q.columns) };
    codes = refl;
    high_size = eh;
    low_size = el;
  }
