use Rattle.std.specs.Prelude.{◌≡◌, ◌&&◌, ◌≢◌, ◌+◌, ◌%◌, ◌<◌}
use Rattle.basics.specs.Words.{refl, sym, ◌∙◌, ap, subst, true, not, ℕ, arith, length, length-set, eqb, member}
use Rattle.product.specs.Laws.LeastPair.{some_left}
use Rattle.walk.proofs.Nodes.{At, reached_same, pairs_written}
use Rattle.walk.proofs.Passing.{states_are, states_count, hand_pre, symbol_within, symbol_way, places_pre, insertion_way, ways_start, way_least, way_none, way_go, way_falls, way_next}
use Rattle.walk.proofs.Ends.{ends_pre, walked_end}
use Rattle.walk.proofs.Walking.{ground, ground_there, counts_ok, machines_are, machines_few, machines_of_lem, machines_within, nodes, base_few, sets_few, start_there, starts_walk}
use Rattle.walk.proofs.walk_by.Goals as goal
use Rattle.walk.proofs.walk_by.Goals.{then-input-eq-EMPTY+in_default, else-input-eq-EMPTY+in_default-least_tight}

pub width_of-width-requires : goal.width_of-width-requires
width_of-width-requires c =
    counts_ok c.requires.0

pub label_at-label-requires : goal.label_at-label-requires
label_at-label-requires c =
    start_there c.requires.0 c.start_node-code.ensures

pub loop-low-init : goal.loop-low-init
loop-low-init c =
    (λ L G. starts_walk c.requires.0 c.start_node-code.ensures G c.start-state.ensures c.label_at-label.ensures c.zero.ensures _ refl, refl, refl)

pub places_of-requires : goal.places_of-requires
places_of-requires c =
    let G = ground_there c.requires.0 in
    places_pre G (c.loop-low.invariant.0 _ G) c.requires.0.counts_are refl

pub least-init : goal.least-init
least-init c =
    let some : c.loop-low.low % 65536 ≢ 0 = omega arith in
    (λ L G code before R. ways_start G R some _ c.inputs_at-left.ensures, refl, λ code. refl, c.loop-low.invariant.1)

pub least-input-requires : goal.least-input-requires
least-input-requires c =
    let G = ground_there c.requires.0 in
    some_left (c.least.invariant.0 _ G _ _ (c.loop-low.invariant.0 _ G))

pub overflow_mul-position : goal.overflow_mul-position
overflow_mul-position c =
    let G = ground_there c.requires.0 in
    omega (arith, base_few c.requires.0 c.loop-low.position (c.loop-low.invariant.0 _ G).position)

pub slice_bounds-places-end : goal.slice_bounds-places-end
slice_bounds-places-end c =
    machines_within c.requires.0 c.places_of.new.places c.places_of.ensures.size

pub slice_bounds-least_tight-end : goal.slice_bounds-least_tight-end
slice_bounds-least_tight-end c =
    machines_of_lem c.requires.0 _ c.places_of.ensures.size

pub least_tight-requires : goal.least_tight-requires
least_tight-requires c =
    let G = ground_there c.requires.0 in
    let O = c.loop-low.invariant.0 _ G in
    let R = reached_same c.least.invariant.1 (c.least.invariant.2 _) O in
    way_least G R (insertion_way G O c.requires.0.counts_are refl c.places_of.ensures c.prepare-kept.ensures c.if-input-eq-EMPTY.true) (nodes c.requires.0)

pub slice_bounds-places-end-in-Some : goal.slice_bounds-places-end-in-Some
slice_bounds-places-end-in-Some c =
    machines_within c.requires.0 c.places_of.new.places c.places_of.ensures.size

pub slice_bounds-go_on-end-in-Some-2 : goal.slice_bounds-go_on-end-in-Some-2
slice_bounds-go_on-end-in-Some-2 c =
    machines_of_lem c.requires.0 _ c.places_of.ensures.size

pub go_on-requires : goal.go_on-requires
go_on-requires c =
    let G = ground_there c.requires.0 in
    let O = c.loop-low.invariant.0 _ G in
    let R = reached_same c.least.invariant.1 (c.least.invariant.2 _) O in
    way_go G R (insertion_way G O c.requires.0.counts_are refl c.places_of.ensures c.prepare-kept.ensures c.if-input-eq-EMPTY.true) (c.least.invariant.0 _ G _ _ O) c.in-Some.ensures c.least-input.ensures.0

pub overflow_add-written : goal.overflow_add-written
overflow_add-written c =
    let G = ground_there c.requires.0 in
    let O = c.loop-low.invariant.0 _ G in
    let R = reached_same c.least.invariant.1 (c.least.invariant.2 _) O in
    omega (arith, pairs_written G R)

pub overflow_add-next : goal.overflow_add-next
overflow_add-next c =
    let G = ground_there c.requires.0 in
    omega (arith, sets_few c.requires.0, (c.loop-low.invariant.0 _ G).position)

pub slice_bounds-states-end : goal.slice_bounds-states-end
slice_bounds-states-end c =
    let G = ground_there c.requires.0 in
    let O = c.loop-low.invariant.0 _ G in
    let R = reached_same c.least.invariant.1 (c.least.invariant.2 _) O in
    machines_within c.requires.0 c.least.states R.states_size

pub slice_bounds-fill_at-end-else-input-eq-EMPTY : goal.slice_bounds-fill_at-end-else-input-eq-EMPTY
slice_bounds-fill_at-end-else-input-eq-EMPTY c =
    let G = ground_there c.requires.0 in
    let O = c.loop-low.invariant.0 _ G in
    let R = reached_same c.least.invariant.1 (c.least.invariant.2 _) O in
    machines_of_lem c.requires.0 _ R.states_size

pub fill_at-outputs-requires : goal.fill_at-outputs-requires
fill_at-outputs-requires c =
    let G = ground_there c.requires.0 in
    let O = c.loop-low.invariant.0 _ G in
    let R = reached_same c.least.invariant.1 (c.least.invariant.2 _) O in
    (hand_pre G R (machines_are c.requires.0) c.least-input.ensures.1 c.least.invariant.3, c.requires.0.counts_are)

pub overflow_mul-next : goal.overflow_mul-next
overflow_mul-next c =
    let G = ground_there c.requires.0 in
    let O = c.loop-low.invariant.0 _ G in
    omega (arith, base_few c.requires.0 (c.loop-low.position + 1) (symbol_within G O (machines_are c.requires.0) (c.least.invariant.0 _ G _ _ O) c.least-input.ensures.2 c.if-input-eq-EMPTY.false))

pub slice_bounds-hand-end : goal.slice_bounds-hand-end
slice_bounds-hand-end c =
    machines_few c.requires.0

pub slice_bounds-least_tight-end-else-input-eq-EMPTY-2 : goal.slice_bounds-least_tight-end-else-input-eq-EMPTY-2
slice_bounds-least_tight-end-else-input-eq-EMPTY-2 c =
    machines_of_lem c.requires.0 _ refl

pub least_tight-requires-else-input-eq-EMPTY : goal.least_tight-requires-else-input-eq-EMPTY
least_tight-requires-else-input-eq-EMPTY c =
    let G = ground_there c.requires.0 in
    let O = c.loop-low.invariant.0 _ G in
    let R = reached_same c.least.invariant.1 (c.least.invariant.2 _) O in
    let T = c.least.invariant.0 _ G _ _ O in
    way_least G R (symbol_way G R (machines_are c.requires.0) (c.fill_at-outputs.auto.steps ∙ c.least.invariant.3) c.fill_at-outputs.ensures T c.least-input.ensures.2 c.if-input-eq-EMPTY.false) (nodes c.requires.0)

pub slice_bounds-hand-end-in-Some-least_tight : goal.slice_bounds-hand-end-in-Some-least_tight
slice_bounds-hand-end-in-Some-least_tight c =
    machines_few c.requires.0

pub slice_bounds-go_on-end-in-Some-least_tight-4 : goal.slice_bounds-go_on-end-in-Some-least_tight-4
slice_bounds-go_on-end-in-Some-least_tight-4 c =
    machines_of_lem c.requires.0 _ refl

pub go_on-requires-in-Some-least_tight : goal.go_on-requires-in-Some-least_tight
go_on-requires-in-Some-least_tight c =
    let G = ground_there c.requires.0 in
    let O = c.loop-low.invariant.0 _ G in
    let R = reached_same c.least.invariant.1 (c.least.invariant.2 _) O in
    let T = c.least.invariant.0 _ G _ _ O in
    way_go G R (symbol_way G R (machines_are c.requires.0) (c.fill_at-outputs.auto.steps ∙ c.least.invariant.3) c.fill_at-outputs.ensures T c.least-input.ensures.2 c.if-input-eq-EMPTY.false) T c.in-Some-least_tight.ensures c.least-input.ensures.0

pub overflow_add-written-in-Some-least_tight : goal.overflow_add-written-in-Some-least_tight
overflow_add-written-in-Some-least_tight c =
    let G = ground_there c.requires.0 in
    let O = c.loop-low.invariant.0 _ G in
    let R = reached_same c.least.invariant.1 (c.least.invariant.2 _) O in
    omega (arith, pairs_written G R)

pub least-preserved : goal.least-preserved
least-preserved c =
    let x = c.least-input.ensures in
    let C = c.requires.0.counts_are in
    let e = machines_are c.requires.0 in
    let after : (n : ℕ) → member c.without_least-left.result n ≡ (member c.least.left n && not (eqb n c.least-input.result)) = λ n. c.without_least-left.ensures.1 n ∙ ap (λ (i : ℕ). member c.least.left n && not (eqb n i)) (sym x.0) in (
      λ L G code before O.
          let R = reached_same c.least.invariant.1 (c.least.invariant.2 code) O in
          let T = c.least.invariant.0 L G code before O in
          (elim c.if-input-eq-EMPTY.branch [ then-input-eq-EMPTY+in_default w ↦ way_none G R (insertion_way G O C refl c.places_of.ensures c.prepare-kept.ensures w.if-input-eq-EMPTY.true) T w.in_default.ensures _ after | else-input-eq-EMPTY+in_default-least_tight w ↦ way_none G R (symbol_way G R e (w.fill_at-outputs.auto.steps ∙ c.least.invariant.3) w.fill_at-outputs.ensures T x.2 w.if-input-eq-EMPTY.false) T w.in_default-least_tight.ensures _ after ]),
      c.least.invariant.1,
      c.least.invariant.2,
      (elim c.if-input-eq-EMPTY.branch [ then-input-eq-EMPTY+in_default w ↦ ap length w.steps-is ∙ c.least.invariant.3 | else-input-eq-EMPTY+in_default-least_tight w ↦ ap length w.steps-is ∙ w.fill_at-outputs.auto.steps ∙ c.least.invariant.3 ]),
    )

pub loop-low-smaller-in-Some : goal.loop-low-smaller-in-Some
loop-low-smaller-in-Some c =
    let G = ground_there c.requires.0 in
    let O = c.loop-low.invariant.0 _ G in
    let R = reached_same c.least.invariant.1 (c.least.invariant.2 _) O in
    let T = c.least.invariant.0 _ G _ _ O in
    let same : c.least.low ≡ c.loop-low.low = ap (λ (a : At). a.label.low) (c.least.invariant.2 0) in
    subst (λ (n : ℕ). c.in-Some.least.low < n) same (way_falls G R (insertion_way G O c.requires.0.counts_are refl c.places_of.ensures c.prepare-kept.ensures c.if-input-eq-EMPTY.true) T c.in-Some.ensures)

pub loop-low-preserved-in-Some : goal.loop-low-preserved-in-Some
loop-low-preserved-in-Some c = (
  λ L G.
      let O = c.loop-low.invariant.0 L G in
      let R = reached_same c.least.invariant.1 (c.least.invariant.2 _) O in
      let T = c.least.invariant.0 L G _ _ O in
      way_next G R (insertion_way G O c.requires.0.counts_are refl c.places_of.ensures c.prepare-kept.ensures c.if-input-eq-EMPTY.true) T c.in-Some.ensures c.least-input.ensures.0 c.go_on.ensures,
  c.least.invariant.3,
  ap length c.go_on.ensures.bytes ∙ simp length-set (ap length c.least.invariant.1 ∙ c.loop-low.invariant.2),
)

pub loop-low-smaller : goal.loop-low-smaller
loop-low-smaller c =
    let G = ground_there c.requires.0 in
    let O = c.loop-low.invariant.0 _ G in
    let R = reached_same c.least.invariant.1 (c.least.invariant.2 _) O in
    let T = c.least.invariant.0 _ G _ _ O in
    let same : c.least.low ≡ c.loop-low.low = ap (λ (a : At). a.label.low) (c.least.invariant.2 0) in
    subst (λ (n : ℕ). c.in-Some-least_tight.least.low < n) same (way_falls G R (symbol_way G R (machines_are c.requires.0) (c.fill_at-outputs.auto.steps ∙ c.least.invariant.3) c.fill_at-outputs.ensures T c.least-input.ensures.2 c.if-input-eq-EMPTY.false) T c.in-Some-least_tight.ensures)

pub loop-low-preserved : goal.loop-low-preserved
loop-low-preserved c = (
  λ L G.
      let O = c.loop-low.invariant.0 L G in
      let R = reached_same c.least.invariant.1 (c.least.invariant.2 _) O in
      let T = c.least.invariant.0 L G _ _ O in
      way_next G R (symbol_way G R (machines_are c.requires.0) (c.fill_at-outputs.auto.steps ∙ c.least.invariant.3) c.fill_at-outputs.ensures T c.least-input.ensures.2 c.if-input-eq-EMPTY.false) T c.in-Some-least_tight.ensures c.least-input.ensures.0 c.go_on-in-Some-least_tight.ensures,
  c.fill_at-outputs.auto.steps ∙ c.least.invariant.3,
  ap length c.go_on-in-Some-least_tight.ensures.bytes ∙ simp length-set (ap length c.least.invariant.1 ∙ c.loop-low.invariant.2),
)

pub slice_bounds-states-end-2 : goal.slice_bounds-states-end-2
slice_bounds-states-end-2 c =
    machines_within c.requires.0 c.loop-low.states (c.loop-low.invariant.0 _ (ground_there c.requires.0)).states_size

pub slice_bounds-with_ending-end : goal.slice_bounds-with_ending-end
slice_bounds-with_ending-end c =
    machines_of_lem c.requires.0 _ (c.loop-low.invariant.0 _ (ground_there c.requires.0)).states_size

pub with_ending-profile-requires : goal.with_ending-profile-requires
with_ending-profile-requires c =
    let G = ground_there c.requires.0 in
    let R = c.loop-low.invariant.0 _ G in
    ends_pre G R (machines_are c.requires.0) (states_count G R (machines_are c.requires.0))

pub returns : goal.returns
returns c =
    λ L K.
    let G = ground c.requires.0 K in
    let R = c.loop-low.invariant.0 L G in
    let none : c.loop-low.low % 65536 ≡ 0 = omega arith in
    walked_end G R none _ refl _ (states_are G R (machines_are c.requires.0)) c.with_ending-profile.ensures
