-- Refusal 5, a state at a time: the pairs noted, and what the checks of all states say of all arcs. Assumes nothing.
use Rattle.std.specs.Prelude.{◌≡◌, ◌&&◌, ◌||◌, ◌∷◌, ◌+◌, ◌*◌, ◌^◌, ◌<◌, ◌≤◌}
use Rattle.basics.proofs.Words.{refl, sym, ap, ◌∙◌, subst, Bool, true, false, not, cond, and-true, and-false, and_assoc, or-false, List, [], ℕ, zero, suc, arith, length, get_or, set, drop, replicate, get_or-replicate, drop_of_length-le, eqb, ltb, drop-cons, get_or-set_same, get_or-set_other, ℕ_discrete, all_of, pairwise, member, eqb-true, eq-eqb, ne_eqb, lt-ltb, ltb-true, clash as never, both, left, right, fails, left_fails, right_fails, pairwise_next, pairwise_fails, no_member, its_member, member_and, member_or}
use lib.Bits.{bit_and, bit_or}
use Rattle.machine.specs.declared.Arc.{Arc}
use Rattle.machine.specs.declared.Pair.{Pair}
use Rattle.machine.specs.Symbols.{empty_symbol, is_pair}
use Rattle.machine.specs.Machine.{of_kind, takes, takes_from, take_one_pair, clash}
use Rattle.machine.specs.Part.{state_count, arc_count, arc_at, arcs_of, sound_arc, sound_arcs, clash_free}
use Rattle.machine.specs.Accepted.{sound_facts}
use Rattle.machine.specs.CommonPair.{common_pair}
use Rattle.machine.specs.Steps.{clash_at}
use Rattle.machine.specs.SymbolSets.{without_empty}
use Rattle.part_check.specs.Clashes.{LeavesStates, clash_free_from, pairs_with, noted, taken_from, Taken, PairsNoted}
use Rattle.machine.specs.Laws.Partners.{without_empty_lem, in_partners}
use Rattle.machine.specs.Laws.SetLoops.{Passed, with_true, passed_none, still_old, passed_next, passed_all}
use Rattle.machine.specs.Laws.Arcs.{leaves, leaves_other, arc_at_lem, arcs_count}

-- the inputs that make a pair of a kind with an output
pub pairs_member : (kind w : ℕ) (p : Pair) → member (pairs_with kind w p.output) p.input ≡ (is_pair p && (member w p.input && of_kind kind p))
pairs_member kind w p =
    in_partners kind (cond (eqb p.output empty_symbol) (without_empty w) w) p.output p.input
    ∙ ap (λ (b : Bool). b && of_kind kind p) (go (eqb p.output empty_symbol) refl)
    ∙ and_assoc (is_pair p) (member w p.input) (of_kind kind p)
  where
    go : (b : Bool) → eqb p.output empty_symbol ≡ b
        → member (cond (eqb p.output empty_symbol) (without_empty w) w) p.input ≡ (not (eqb p.input empty_symbol && eqb p.output empty_symbol) && member w p.input)
    go true e = rw (e, and-true (eqb p.input empty_symbol)) (without_empty_lem w p.input)
    go false e = rw (e, and-false (eqb p.input empty_symbol))

-- in and out are in the sets, and the pair is of the kind
abbrev pub in_sets : ℕ → ℕ → ℕ → Pair → Bool
in_sets kind inputs outputs p = member inputs p.input && member outputs p.output && of_kind kind p

-- the pairs of an arc: the outputs gone through are noted, and were not
pub record PairsPassed (before now : List ℕ) (kind inputs outputs left : ℕ) : Type 0 where
  pub passed : Passed (λ k. get_or before k 0) (λ k. bit_or (get_or before k 0) (pairs_with kind inputs k)) (λ k. get_or now k 0) outputs left
  pub clean : (k : ℕ) → member outputs k ≡ true → member left k ≡ false → bit_and (get_or before k 0) (pairs_with kind inputs k) ≡ 0

module _ (before : List ℕ) (kind inputs outputs : ℕ) where
  pub pairs_none : PairsPassed before before kind inputs outputs outputs
  pairs_none = record {
    passed = passed_none (λ k. get_or before k 0) (λ k. bit_or (get_or before k 0) (pairs_with kind inputs k)) outputs;
    clean = λ k t f. absurd (never t f);
  }

  -- a pair with the output y was noted
  pub pair_found : (after : List ℕ) (y : ℕ) → y < 64 → member outputs y ≡ true → bit_and (get_or before y 0) (pairs_with kind inputs y) < 2 ^ 64
      → (bit_and (get_or before y 0) (pairs_with kind inputs y) ≡ 0 → ⊥) → PairsNoted (in_sets kind inputs outputs) before after true
  pair_found after y h t b n =
      let w = bit_and (get_or before y 0) (pairs_with kind inputs y) in
      let q = its_member 64 w b (omega arith) in
      let p : Pair = record { input = q.0; output = y } in
      let m : (noted before p && member (pairs_with kind inputs y) q.0) ≡ true = sym (member_and (get_or before y 0) (pairs_with kind inputs y) q.0) ∙ q.2 in
      let k = of_kind kind p in
      let i : (is_pair p && (member inputs q.0 && k)) ≡ true = sym (pairs_member kind inputs p) ∙ right (noted before p) (member (pairs_with kind inputs y) q.0) m in
      let t2 : (member inputs q.0 && k) ≡ true = right (is_pair p) (member inputs q.0 && k) i in
      record {
        found = λ e. (
          p,
          q.1,
          h,
          left (is_pair p) (member inputs q.0 && k) i,
          both (both (left (member inputs q.0) k t2) t) (right (member inputs q.0) k t2),
          left (noted before p) (member (pairs_with kind inputs y) q.0) m,
        );
        clean = λ e. absurd (never refl e);
        after_is = λ e. absurd (never refl e);
      }

  module _ (now : List ℕ) (rest : ℕ) (P : PairsPassed before now kind inputs outputs rest) where
    -- what is noted at an output that is left
    pub not_yet : (y : ℕ) → member rest y ≡ true → get_or now y 0 ≡ get_or before y 0
    not_yet = still_old (λ k. get_or before k 0) (λ k. bit_or (get_or before k 0) (pairs_with kind inputs k)) outputs (λ k. get_or now k 0) rest P.passed

    -- the pairs with the output y are noted
    pub pairs_next : (y after v : ℕ) → y < length now → member rest y ≡ true → ((k : ℕ) → member after k ≡ (member rest k && not (eqb k y)))
        → bit_and (get_or before y 0) (pairs_with kind inputs y) ≡ 0 → v ≡ bit_or (get_or before y 0) (pairs_with kind inputs y) → PairsPassed before (set now y v) kind inputs outputs after
    pairs_next y after v h t f z e = record {
      passed =
          passed_next (λ k. get_or before k 0) (λ k. bit_or (get_or before k 0) (pairs_with kind inputs k)) outputs (λ k. get_or now k 0) rest P.passed (λ k. get_or (set now y v) k 0) after y t f
          (get_or-set_same now y v 0 h ∙ e) (λ k n. get_or-set_other now y k v 0 n);
      clean = λ k o l. at k o l (ℕ_discrete k y);
    }
      where
        at : (k : ℕ) → member outputs k ≡ true → member after k ≡ false → Dec (k ≡ y) → bit_and (get_or before k 0) (pairs_with kind inputs k) ≡ 0
        at k o l (yes q) = rw q z
        at k o l (no q) = P.clean k o (sym (f k ∙ ap (λ (b : Bool). member rest k && not b) (ne_eqb k y q) ∙ with_true (member rest k)) ∙ l)

    -- all of them are noted
    pub pairs_end : rest ≤ 0 → PairsNoted (in_sets kind inputs outputs) before now false
    pairs_end h = record { found = λ e. absurd (never e refl); clean = λ e p b i t. unmet p i t; after_is = λ e p b. at p (member outputs p.output) refl }
      where
        none : rest ≡ 0
        none = omega arith

        unmet : (p : Pair) → is_pair p ≡ true → in_sets kind inputs outputs p ≡ true → noted before p ≡ false
        unmet p i t =
            let x = member inputs p.input in
            let y = member outputs p.output in
            let k = of_kind kind p in
            let xy : (x && y) ≡ true = left (x && y) k t in
            let z = P.clean p.output (right x y xy) (rw none (no_member p.output)) in
            let m : member (pairs_with kind inputs p.output) p.input ≡ true = pairs_member kind inputs p ∙ both i (both (left x y xy) (right (x && y) k t)) in
            let e : (noted before p && member (pairs_with kind inputs p.output) p.input) ≡ false =
            sym (member_and (get_or before p.output 0) (pairs_with kind inputs p.output) p.input) ∙ (rw z (no_member p.input)) in
            fails (noted before p) (λ q. never (both q m) e)

        at : (p : Pair) (b : Bool) → member outputs p.output ≡ b → noted now p ≡ (noted before p || (is_pair p && in_sets kind inputs outputs p))
        at p b o = ap (λ (n : ℕ). member n p.input) (passed_all (λ k. get_or before k 0) (λ k. bit_or (get_or before k 0) (pairs_with kind inputs k)) outputs (λ k. get_or now k 0) rest P.passed h p.output) ∙ go b o
          where
            go : (b : Bool) → member outputs p.output ≡ b
                → member (cond (member outputs p.output) (bit_or (get_or before p.output 0) (pairs_with kind inputs p.output)) (get_or before p.output 0)) p.input
                ≡ (noted before p || (is_pair p && in_sets kind inputs outputs p))
            go true o =
                rw (o, and-true (member inputs p.input))
                (member_or (get_or before p.output 0) (pairs_with kind inputs p.output) p.input ∙ ap (λ (c : Bool). noted before p || c) (pairs_member kind inputs p))
            go false o = rw (o, and-false (member inputs p.input), and-false (is_pair p)) (sym (or-false (noted before p)))

-- the arc of one state
module _ (arc : Arc) (s : ℕ) where
  pub other_arc : (before : List ℕ) → (arc.from ≡ s → ⊥) → PairsNoted (takes_from arc s) before before false
  other_arc before n = record {
    found = λ e. absurd (never e refl);
    clean = λ e p b i t. absurd (never t (leaves_other arc s p n));
    after_is = λ e p b. rw (leaves_other arc s p n, and-false (is_pair p)) (sym (or-false (noted before p)));
  }

  pub this_arc : (before after : List ℕ) (met : Bool) → arc.from ≡ s → PairsNoted (takes arc) before after met → PairsNoted (takes_from arc s) before after met
  this_arc before after met e N = let q : takes arc ≡ takes_from arc s = λ i p. sym (leaves arc s p e) i in subst (λ (f : Pair → Bool). PairsNoted f before after met) q N

-- the arcs of one state, one more
pub taken_none : (s : ℕ) → Taken s [] (replicate 64 0)
unfolding taken_from
taken_none s = record { pairs = λ p h. ap (λ (n : ℕ). member n p.input) (get_or-replicate 64 p.output 0 0 h) ∙ no_member p.input ∙ sym (and-false (is_pair p)) }

module _ (s : ℕ) (a : Arc) where
  -- no arc of the rest takes a pair that this one takes
  free_all : (rest : List Arc) → ((p : Pair) → p.output < 64 → is_pair p ≡ true → takes_from a s p ≡ true → taken_from s rest p ≡ false) → all_of (clash_free_from s a) rest ≡ true
  unfolding taken_from all_of clash
  free_all [] h = refl
  free_all (b ∷ rest) h =
      both (go (eqb a.from s) refl (clash a b) refl) (free_all rest (λ p l i t. right_fails (takes_from b s p) (taken_from s rest p) (h p l i t)))
    where
      go : (e : Bool) → eqb a.from s ≡ e → (d : Bool) → clash a b ≡ d → not (eqb a.from s && clash a b) ≡ true
      go false e d f = rw e
      go true e false f = rw (e, f)
      go true e true f =
          let same = eqb-true a.from b.from (left (eqb a.from b.from) (take_one_pair a b) f) in
          let c = common_pair a b (right (eqb a.from b.from) (take_one_pair a b) f) in
          let p = c.pair in
          let tb : takes_from b s p ≡ true = both (eq-eqb b.from s (sym same ∙ eqb-true a.from s e)) c.second in
          absurd (never tb (left_fails (takes_from b s p) (taken_from s rest p) (h p c.output c.is_pair_lem (both e c.first))))

  -- an arc of the rest takes a pair that this one takes
  free_fails : (rest : List Arc) (p : Pair) → p.input < 64 → p.output < 64 → is_pair p ≡ true → takes_from a s p ≡ true → taken_from s rest p ≡ true → all_of (clash_free_from s a) rest ≡ false
  unfolding taken_from all_of
  free_fails [] p x y i t u = absurd (never u refl)
  free_fails (b ∷ rest) p x y i t u = go (takes_from b s p) refl (free_fails rest p x y i t)
    where
      leaves_s : eqb a.from s ≡ true
      leaves_s = left (eqb a.from s) (takes a p) t

      go : (d : Bool) → takes_from b s p ≡ d → (taken_from s rest p ≡ true → all_of (clash_free_from s a) rest ≡ false) → (clash_free_from s a b && all_of (clash_free_from s a) rest) ≡ false
      go true e r = rw (leaves_s, clash_at a b s p x y i t e)
      go false e r = ap (λ (d : Bool). clash_free_from s a b && d) (r (rw e at u)) ∙ and-false (clash_free_from s a b)

  module _ {rest : List Arc} {before after : List ℕ} (T : Taken s rest before) where
    pub taken_next : PairsNoted (takes_from a s) before after false → Taken s (a ∷ rest) after
    unfolding taken_from
    taken_next N = record { pairs = λ p h. N.after_is refl p h ∙ ap (λ (b : Bool). b || (is_pair p && takes_from a s p)) (T.pairs p h) ∙ go (is_pair p) (takes_from a s p) (taken_from s rest p) }
      where
        go : (i t u : Bool) → ((i && u) || (i && t)) ≡ (i && (t || u))
        go false t u = refl
        go true true true = refl
        go true true false = refl
        go true false true = refl
        go true false false = refl

    pub free_next : PairsNoted (takes_from a s) before after false → all_of (clash_free_from s a) rest ≡ true
    free_next N = free_all rest (λ p h i t. fails (taken_from s rest p) (λ u. never (T.pairs p h ∙ both i u) (N.clean refl p h i t)))

    pub free_stop : PairsNoted (takes_from a s) before after true → all_of (clash_free_from s a) rest ≡ false
    free_stop N =
        let w = N.found refl in
        let p = w.0 in
        free_fails rest p w.1 w.2 w.3 w.4 (right (is_pair p) (taken_from s rest p) (sym (T.pairs p w.2) ∙ w.5))

-- all states
all_weaker : (f g : Arc → Bool) → ((a : Arc) → f a ≡ true → g a ≡ true) → (arcs : List Arc) → all_of f arcs ≡ true → all_of g arcs ≡ true
unfolding all_of
all_weaker f g h [] t = refl
all_weaker f g h (a ∷ rest) t = both (h a (left (f a) (all_of f rest) t)) (all_weaker f g h rest (right (f a) (all_of f rest) t))

free_from : (s : ℕ) (a b : Arc) → clash_free a b ≡ true → clash_free_from s a b ≡ true
free_from s a b t = go (eqb a.from s) (clash a b) t
  where
    go : (e d : Bool) → not d ≡ true → not (e && d) ≡ true
    go true d q = q
    go false d q = refl

-- where no two arcs clash, none of a state do
pub state_free : (s : ℕ) (arcs : List Arc) → pairwise clash_free arcs ≡ true → pairwise (clash_free_from s) arcs ≡ true
unfolding pairwise
state_free s [] t = refl
state_free s (a ∷ rest) t =
    both (all_weaker (clash_free a) (clash_free_from s a) (free_from s a) rest (left (all_of (clash_free a) rest) (pairwise clash_free rest) t)) (state_free s rest (right (all_of (clash_free a) rest) (pairwise clash_free rest) t))

pub state_clash : (s : ℕ) (arcs : List Arc) → pairwise (clash_free_from s) arcs ≡ false → pairwise clash_free arcs ≡ false
state_clash s arcs f = fails (pairwise clash_free arcs) (λ t. never (state_free s arcs t) f)

-- where every arc leaves one of Q states, and none of any of these clash, no two do
pub states_free : (Q : ℕ) (arcs : List Arc) → all_of (λ a. ltb a.from Q) arcs ≡ true → ((s : ℕ) → s < Q → pairwise (clash_free_from s) arcs ≡ true) → pairwise clash_free arcs ≡ true
unfolding pairwise all_of
states_free Q [] l h = refl
states_free Q (a ∷ rest) l h =
    let q = ltb-true a.from Q (left (ltb a.from Q) (all_of (λ b. ltb b.from Q) rest) l) in
    both
    (all_weaker (clash_free_from a.from a) (clash_free a) (λ b t. (rw (eq-eqb a.from a.from refl) at t)) rest (left (all_of (clash_free_from a.from a) rest) (pairwise (clash_free_from a.from) rest) (h a.from q)))
    (states_free Q rest (right (ltb a.from Q) (all_of (λ b. ltb b.from Q) rest) l) (λ s k. right (all_of (clash_free_from s a) rest) (pairwise (clash_free_from s) rest) (h s k)))

pub sound_leaves : (S : ℕ) (part : List ℕ) → sound_arcs S part ≡ true → LeavesStates part
sound_leaves S part t =
    all_weaker (sound_arc S (state_count part)) (λ a. ltb a.from (state_count part)) (λ a q. lt-ltb a.from (state_count part) (sound_facts S (state_count part) a q).from) (arcs_of part) t

-- the check of one state has passed the arcs from i on
pub record StateChecked (part : List ℕ) (s : ℕ) (taken : List ℕ) (i : ℕ) : Type 0 where
  pub arcs : i ≤ arc_count part
  pub size : length taken ≡ 64
  pub taken_is : Taken s (drop i (arcs_of part)) taken
  pub free_is : pairwise (clash_free_from s) (drop i (arcs_of part)) ≡ true

pairwise_drop : {A : Type 0} (f : A → A → Bool) (i : ℕ) (l : List A) → pairwise f l ≡ true → pairwise f (drop i l) ≡ true
unfolding pairwise
pairwise_drop f zero l t = t
pairwise_drop f (suc i) [] t = refl
pairwise_drop f (suc i) (x ∷ l) t = pairwise_drop f i l (right (all_of (f x) l) (pairwise f l) t)

module _ (part : List ℕ) (s : ℕ) where
  arcs_left : (i at : ℕ) → i < arc_count part → at ≡ 2 + state_count part + 20 * i → drop i (arcs_of part) ≡ arc_at part at ∷ drop (suc i) (arcs_of part)
  arcs_left i at h e =
      let a = arc_at part at in
      drop-cons (arcs_of part) i a (omega (arith, arcs_count part (2 + state_count part) (arc_count part)))
      ∙ ap (λ (b : Arc). b ∷ drop (suc i) (arcs_of part)) (arc_at_lem part (2 + state_count part) (arc_count part) i h a ∙ ap (arc_at part) (sym e))

  pub state_start : (i : ℕ) → i ≡ arc_count part → StateChecked part s (replicate 64 0) i
  unfolding pairwise
  state_start i e =
      let none : drop i (arcs_of part) ≡ [] = drop_of_length-le (arcs_of part) {i = i} (omega (arith, arcs_count part (2 + state_count part) (arc_count part))) in
      record { arcs = omega arith; size = refl; taken_is = rw none (taken_none s); free_is = rw none }

  module _ {taken : List ℕ} {j : ℕ} (C : StateChecked part s taken j) where
    module _ (i at : ℕ) (more : j ≡ suc i) (place : at ≡ 2 + state_count part + 20 * i) (after : List ℕ) where
      here : drop i (arcs_of part) ≡ arc_at part at ∷ drop j (arcs_of part)
      here = arcs_left i at (omega (arith, C.arcs)) place ∙ ap (λ (n : ℕ). arc_at part at ∷ drop n (arcs_of part)) (sym more)

      pub state_next : length after ≡ 64 → PairsNoted (takes_from (arc_at part at) s) taken after false → StateChecked part s after i
      state_next z N = record {
        arcs = omega (arith, C.arcs);
        size = z;
        taken_is = rw here (taken_next s (arc_at part at) C.taken_is N);
        free_is = sym (pairwise_next (clash_free_from s) here (free_next s (arc_at part at) C.taken_is N)) ∙ C.free_is;
      }

      pub state_stop : PairsNoted (takes_from (arc_at part at) s) taken after true → pairwise (clash_free_from s) (arcs_of part) ≡ false
      state_stop N =
          let f = pairwise_fails (clash_free_from s) here (free_stop s (arc_at part at) C.taken_is N) in
          fails (pairwise (clash_free_from s) (arcs_of part)) (λ t. never (pairwise_drop (clash_free_from s) i (arcs_of part) t) f)

    pub state_end : j ≤ 0 → pairwise (clash_free_from s) (arcs_of part) ≡ true
    state_end h = let z : j ≡ 0 = omega arith in rw z at C.free_is
