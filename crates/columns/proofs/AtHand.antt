-- Filling the columns of the states at hand: one arc more, and machine by machine. Assumes nothing.
use Rattle.std.specs.Prelude.{◌≡◌, ◌&&◌, ◌∷◌, ◌⊎◌, ◌+◌, ◌*◌, ◌<◌, ◌≤◌}
use Rattle.basics.proofs.Words.{refl, sym, ◌∙◌, ap, subst, Bool, true, false, cond, List, some, none, inl, inr, ℕ, suc, arith, length, get_or, drop, replicate, get_or-replicate, length-replicate, drop-cons, drop-length, ℕ_discrete, member, ne_eqb, left_fails, right_fails, no_member, member_or, member_and}
use lib.Bits.{bit_and, bit_or}
use Rattle.machine.specs.declared.Arc.{Arc}
use Rattle.machine.specs.Symbols.{empty_symbol}
use Rattle.machine.specs.Machine.{takes, takes_from, step_among, step_of}
use Rattle.machine.specs.Part.{state_count, arc_count, arcs_of, machine_of}
use Rattle.machine.specs.Accepted.{shape_facts, accepted as part_accepted, sound_facts}
use Rattle.card.specs.Layout.{machine_count, symbol_count, part_of}
use Rattle.card.specs.Card.{machines_of}
use Rattle.card.specs.Accepted.{accepted}
use Rattle.card.specs.Laws.Machines.{length_machines}
use Rattle.tables.specs.StepTable.{step_code, machine_at}
use Rattle.product.specs.Nodes.{state_counts}
use Rattle.tables.specs.Laws.Cards.{machine_states}
use Rattle.tables.proofs.Machines.{count_at_lem, counts_length}
use Rattle.cells.specs.Cells.{step_at}
use Rattle.cells.specs.Laws.Numbers.{column_in}
use Rattle.columns.specs.Filling.{Small, FirstSet}
use Rattle.columns.proofs.Arcs.{arc_sound}
use Rattle.columns.proofs.Filling.{small_blank}
use Rattle.columns.specs.AtHand.{AtHandPre, FromPre, FromEntered, StatePre, StateFilled, Stuck, FilledAtHand}

-- an arc of another state writes nothing
pub from_another : {xs : List ℕ} {W place : ℕ} (arc : Arc) (s x : ℕ) → (arc.from ≡ s → ⊥) → FromEntered xs xs W place arc s x 0
from_another {xs} {W} {place} arc s x n = record {
  size = refl;
  here = λ y. rw (ne_eqb arc.from s n);
  others = λ y p h k. refl;
  small = λ f. f;
  taken = λ y. no_member y ∙ sym (ap (λ (b : Bool). b && takes arc (record { input = x; output = y })) (ne_eqb arc.from s n));
}

-- an arc of the state writes what it writes from its own
pub from_state : {xs ys : List ℕ} {W place outputs : ℕ} (arc : Arc) (s x : ℕ) → arc.from ≡ s → FromEntered xs ys W place arc arc.from x outputs → FromEntered xs ys W place arc s x outputs
from_state {xs} {ys} {W} {place} {outputs} arc s x z E = subst (λ (n : ℕ). FromEntered xs ys W place arc n x outputs) z E

-- an arc of a machine's part
pub arc_of : {xs part : List ℕ} {W place : ℕ} → StatePre xs part W place → (ys : List ℕ) → length ys ≡ length xs → (i : ℕ) → i < arc_count part → (a : Arc) → get_or (arcs_of part) i a ≡ a → FromPre ys W place a
arc_of {part = part} pre ys e i h a g =
    let S = pre.accepted.0 in
    let b = sound_facts S (state_count part) a (arc_sound part pre.accepted i h a g) in
    let q = shape_facts part (part_accepted S part pre.accepted.1).shape in
    record { width = pre.width; room = omega (arith, pre.room); there = pre.there; to = omega (arith, b, q); marks = b.marks }

-- the steps from the state s by the arcs from i on are in the place
pub record StateIn (xs zs : List ℕ) (arcs : List Arc) (s W place x i taken : ℕ) : Type 0 where
  pub size : length zs ≡ length xs
  pub here : (y : ℕ) → y ≤ 64 → step_at zs W y place ≡ step_code (step_among (drop i arcs) s (record { input = x; output = y }))
  pub others : (y p : ℕ) → p < W → (p ≡ place → ⊥) → step_at zs W y p ≡ step_at xs W y p
  pub small : Small xs → Small zs
  pub untaken : (y : ℕ) → member taken y ≡ false → step_among (drop i arcs) s (record { input = x; output = y }) ≡ none

module _ (xs : List ℕ) (arcs : List Arc) (s W place x : ℕ) where
  -- none, where the place is blank
  pub state_none : (i : ℕ) → i ≡ length arcs → ((y : ℕ) → y ≤ 64 → step_at xs W y place ≡ 65535) → StateIn xs xs arcs s W place x i 0
  unfolding step_among
  state_none i q blank = record {
    size = refl;
    here = λ y l. rw (q, drop-length arcs) (blank y l);
    others = λ y p h n. refl;
    small = λ f. f;
    untaken = λ y t. rw (q, drop-length arcs);
  }

  -- one arc more
  pub state_next : {zs ws : List ℕ} (i j : ℕ) (a : Arc) (taken outputs : ℕ) → j ≡ suc i → i < length arcs → get_or arcs i a ≡ a
      → StateIn xs zs arcs s W place x j taken → FromEntered zs ws W place a s x outputs → StateIn xs ws arcs s W place x i (bit_or taken outputs)
  unfolding step_among
  state_next {zs} {ws} i j a taken outputs q h g p w = record {
    size = w.size ∙ p.size;
    here = λ y l. w.here y ∙ at y (p.here y l) (takes_from a s (record { input = x; output = y })) refl;
    others = λ y k l n. w.others y k l n ∙ p.others y k l n;
    small = λ f. w.small (p.small f);
    untaken = λ y t.
        let u = sym (member_or taken outputs y) ∙ t in
        none_there y (p.untaken y (left_fails (member taken y) (member outputs y) u)) (sym (w.taken y) ∙ right_fails (member taken y) (member outputs y) u);
  }
    where
      front : drop i arcs ≡ a ∷ drop j arcs
      front = drop-cons arcs i a h ∙ ap (λ (b : Arc). b ∷ drop (suc i) arcs) g ∙ ap (λ (n : ℕ). a ∷ drop n arcs) (sym q)

      at : (y : ℕ) → step_at zs W y place ≡ step_code (step_among (drop j arcs) s (record { input = x; output = y })) → (b : Bool) → takes_from a s (record { input = x; output = y }) ≡ b
          → cond (takes_from a s (record { input = x; output = y })) (step_code (some (a.to, a.marks))) (step_at zs W y place) ≡ step_code (step_among (drop i arcs) s (record { input = x; output = y }))
      at y r true t = rw (front, t, step_among)
      at y r false t = rw (front, t, step_among) r

      none_there : (y : ℕ) → step_among (drop j arcs) s (record { input = x; output = y }) ≡ none → takes_from a s (record { input = x; output = y }) ≡ false
          → step_among (drop i arcs) s (record { input = x; output = y }) ≡ none
      none_there y r t = rw (front, t, step_among) r

-- all of them
pub state_all : (xs part : List ℕ) (s W place x : ℕ) {zs : List ℕ} {i taken : ℕ} → i ≤ 0 → StateIn xs zs (arcs_of part) s W place x i taken → StateFilled (machine_of part) s x W place xs zs taken
unfolding machine_of
state_all xs part s W place x {zs} {i} {taken} h p = record {
  size = p.size;
  step = λ y l. p.here y l ∙ ap (λ (n : ℕ). step_code (step_among (drop n (arcs_of part)) s (record { input = x; output = y }))) z;
  others = p.others;
  small = p.small;
  untaken = λ y m. ap (λ (n : ℕ). step_among (drop n (arcs_of part)) s (record { input = x; output = y })) (sym z) ∙ p.untaken y m;
}
  where
    z : i ≡ 0
    z = omega arith

-- the steps of the first m machines are in the columns, and the other places are blank
pub record AtHandTo (card states steps : List ℕ) (x m taken : ℕ) : Type 0 where
  pub within : m ≤ length states
  pub room : 65 * length states ≤ length steps
  pub small : Small steps
  pub step : (j y : ℕ) → j < m → y ≤ 64 → step_at steps (length states) y j ≡ step_code (step_of (machine_at (machines_of card) j) (get_or states j 0) (record { input = x; output = y }))
  pub blank : (y p : ℕ) → m ≤ p → p < length states → y ≤ 64 → step_at steps (length states) y p ≡ 65535
  pub missing : (y : ℕ) → y < 64 → member taken y ≡ false → ((x ≡ empty_symbol) × (y ≡ empty_symbol)) ⊎ Stuck (machines_of card) states x y
  pub no_pair : x ≡ empty_symbol → member taken empty_symbol ≡ false

module _ {card counts states xs : List ℕ} {x : ℕ} (pre : AtHandPre card states xs x) (are : counts ≡ state_counts (machines_of card)) where
  pub counts_long : length counts ≡ length states
  counts_long = ap length are ∙ counts_length (machines_of card) ∙ sym pre.size

  machines_are : length states ≡ machine_count card
  machines_are = pre.size ∙ length_machines card

  few : length states ≤ 40
  few = omega (arith, machines_are, (accepted card pre.accepted).head)

  pub hand_start : {ys : List ℕ} (n taken : ℕ) → ys ≡ replicate n 65535 → n ≡ length xs → FirstSet x taken → AtHandTo card states ys x 0 taken
  hand_start {ys} n taken e l F = record {
    within = omega arith;
    room = omega (arith, ap length e, length-replicate {A = ℕ} n 65535, pre.room);
    small = λ i. rw e (small_blank n i);
    step = λ j y h. absurd (omega arith);
    blank = λ y p a b c. rw e (get_or-replicate {A = ℕ} n (y * length states + p) 65535 0 (column_in y (length states) p n c b (omega (arith, pre.room))));
    missing = λ y h t. inl (F.missing y h t);
    no_pair = F.no_pair;
  }

  module _ {steps : List ℕ} {m taken : ℕ} (F : AtHandTo card states steps x m taken) (h : m < length states) where
    pub machine_there : m < machine_count card
    machine_there = omega (arith, machines_are)

    -- what filling the machine's place asks
    pub state_pre : {part : List ℕ} {q : ℕ} → part ≡ part_of card m → q ≡ get_or counts m 0 → StatePre steps part (length states) m × (q ≡ state_count part)
    state_pre ep eq = (
      rw ep (record {
        accepted = (symbol_count card, (accepted card pre.accepted).part m machine_there);
        width = few;
        room = F.room;
        there = h;
        blank = λ y l. F.blank y m (omega arith) h l;
      }),
      eq ∙ ap (λ (l : List ℕ). get_or l m 0) are ∙ count_at_lem (machines_of card) m ∙ machine_states card pre.accepted m machine_there ∙ ap state_count (sym ep),
    )

    pub hand_next : {zs : List ℕ} (outputs : ℕ) → StateFilled (machine_at (machines_of card) m) (get_or states m 0) x (length states) m steps zs outputs → AtHandTo card states zs x (m + 1) (bit_and taken outputs)
    hand_next {zs} outputs G = record {
      within = omega arith;
      room = omega (arith, F.room, G.size);
      small = G.small F.small;
      step = λ j y l hy. at j y l hy (ℕ_discrete j m);
      blank = λ y p a b c. G.others y p b (λ (e : p ≡ m). omega arith) ∙ F.blank y p (omega arith) b c;
      missing = λ y l t. gone y l (member taken y) refl (sym (member_and taken outputs y) ∙ t);
      no_pair = λ z. member_and taken outputs empty_symbol ∙ ap (λ (b : Bool). b && member outputs empty_symbol) (F.no_pair z);
    }
      where
        at : (j y : ℕ) → j < m + 1 → y ≤ 64 → Dec (j ≡ m)
            → step_at zs (length states) y j ≡ step_code (step_of (machine_at (machines_of card) j) (get_or states j 0) (record { input = x; output = y }))
        at j y l hy (yes z) = rw z (G.step y hy)
        at j y l hy (no z) = G.others y j (omega arith) z ∙ F.step j y (omega arith) hy

        gone : (y : ℕ) → y < 64 → (b : Bool) → member taken y ≡ b → (member taken y && member outputs y) ≡ false → ((x ≡ empty_symbol) × (y ≡ empty_symbol)) ⊎ Stuck (machines_of card) states x y
        gone y l false t k = F.missing y l t
        gone y l true t k =
            let u : member outputs y ≡ false = sym (ap (λ (b : Bool). b && member outputs y) t) ∙ k in
            inr (record { machine = m; there = omega (arith, pre.size); stuck = G.untaken y u })

  pub hand_end : {steps : List ℕ} {m taken : ℕ} → AtHandTo card states steps x m taken → length states ≤ m → FilledAtHand (machines_of card) states x steps taken
  hand_end {steps} F h = record {
    step = λ j y l hy. ap (λ (n : ℕ). step_at steps n y j) (sym pre.size) ∙ F.step j y (omega (arith, pre.size)) hy;
    small = F.small;
    missing = F.missing;
    no_pair = F.no_pair;
  }
