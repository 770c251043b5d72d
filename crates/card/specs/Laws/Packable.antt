-- What the checks of packing tell of its input. Assumes nothing.
use Rattle.std.specs.Prelude.{◌≡◌, ◌∷◌, ◌≤◌}
use Rattle.basics.specs.Words.{true, List, [], map, ℕ, length, length-map, eqb, leb, lit<, joined, product}
use Rattle.std.proofs.Common.{leb-true, eqb-true, le-leb, eq-eqb}
use Rattle.refusals.specs.Refusals.{refuse}
use Rattle.refusals.proofs.Refusals.{passed}
use Rattle.machine.specs.Part.{state_count}
use Rattle.card.specs.Layout.{sound_counts}
use Rattle.card.specs.Card.{parts_refusal, few_states, machines_refusal}
use Rattle.card.specs.Packing.{total, split, packed, packing_refusal}
use Rattle.card.specs.Laws.Search.{first_passed, rest_passed}
use Rattle.card.specs.Laws.Parts.{joined_split, joined_total}
use Rattle.card.specs.Laws.Layout.{Counted, counts_hold}

-- what an accepted packing input is known to be
pub record Packable (S : ℕ) (lengths bytes : List ℕ) (room : ℕ) : Type 0 where
  pub counts : sound_counts (length lengths) S ≡ true
  pub sum : total lengths ≡ length bytes
  pub parts : parts_refusal S (split lengths bytes) ≡ 0
  pub states : few_states (split lengths bytes) ≡ true
  pub fits : length (packed S lengths bytes) ≤ room

pub packable : (S : ℕ) (lengths bytes : List ℕ) (room : ℕ) → packing_refusal S lengths bytes room ≡ 0 → Packable S lengths bytes room
unfolding packing_refusal
packable S lengths bytes room e =
    let a = sound_counts (length lengths) S in
    let b = eqb (total lengths) (length bytes) in
    let p = parts_refusal S (split lengths bytes) in
    let d = few_states (split lengths bytes) in
    let m = machines_refusal S (split lengths bytes) in
    let f = leb (length (packed S lengths bytes)) room in
    let eb = rest_passed (refuse 1 a) (refuse 17 b ∷ m ∷ refuse 18 f ∷ []) e in
    let em = rest_passed (refuse 17 b) (m ∷ refuse 18 f ∷ []) eb in
    let ep = first_passed m (refuse 18 f ∷ []) em in
    let ed = rest_passed p (refuse 6 d ∷ []) ep in
    let ef = rest_passed m (refuse 18 f ∷ []) em in
    record {
      counts = passed 1 a (lit< tt) (first_passed (refuse 1 a) (refuse 17 b ∷ m ∷ refuse 18 f ∷ []) e);
      sum = eqb-true (total lengths) (length bytes) (passed 17 b (lit< tt) (first_passed (refuse 17 b) (m ∷ refuse 18 f ∷ []) eb));
      parts = first_passed p (refuse 6 d ∷ []) ep;
      states = passed 6 d (lit< tt) (first_passed (refuse 6 d) [] ed);
      fits = leb-true (length (packed S lengths bytes)) room (passed 18 f (lit< tt) (first_passed (refuse 18 f) [] ef));
    }

pub packs : (S : ℕ) (lengths bytes : List ℕ) (room : ℕ) → Packable S lengths bytes room → packing_refusal S lengths bytes room ≡ 0
unfolding packing_refusal
packs S lengths bytes room p =
    rw (p.counts, eq-eqb (total lengths) (length bytes) p.sum, p.parts, p.states, le-leb (length (packed S lengths bytes)) room p.fits)

-- parts that make a card of S symbols that is accepted
pub record PartsPass (S : ℕ) (ps : List (List ℕ)) : Type 0 where
  pub counts : Counted (length ps) S
  pub each : parts_refusal S ps ≡ 0
  pub states : product (map state_count ps) ≤ 128

pub parts_pack : (S : ℕ) (ps : List (List ℕ)) → PartsPass S ps → (room : ℕ) → length (packed S (map length ps) (joined (λ part. part) ps)) ≤ room
    → packing_refusal S (map length ps) (joined (λ part. part) ps) room ≡ 0
parts_pack S ps p room h =
    packs S (map length ps) (joined (λ part. part) ps) room
    (record {
      counts = rw (length-map ps length) (counts_hold (length ps) S p.counts);
      sum = joined_total ps;
      parts = rw (joined_split ps) p.each;
      states = rw (joined_split ps) (le-leb (product (map state_count ps)) 128 p.states);
      fits = h;
    })
