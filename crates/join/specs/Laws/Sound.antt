-- The joined machine of two sound machines, one of them without marks, is sound. Assumes nothing.
use Rattle.std.specs.Prelude.{◌≡◌, ◌&&◌, ◌∷◌, ◌++◌, ◌⊎◌, ◌+◌, ◌*◌, ◌^◌, ◌<◌, ◌≤◌}
use Rattle.basics.proofs.Words.{refl, sym, ap, ◌∙◌, Bool, true, false, not, List, [], map, List-as-Memᴰ, List·Memᴰ·head, List·Memᴰ·tail, Option, some, none, inl, inr, ℕ, zero, suc, arith, eqb, ltb, suc-mul, mul-le-mul_right, mul-le-mul, all_of, pairwise, those, joined, member, both, left, right, fails, clash as never, all_member, each_member, all_append, those_member, pairwise_those, joined_member, member_and, has_member}
use Rattle.std.specs.Int.Bits.{bit_and}
use Rattle.std.proofs.lemmas.Nat.{and_le_l}
use Rattle.std.proofs.Common.{eqb-true, ltb-true, leb-true, eq-eqb, ne_eqb, lt-ltb, le-leb}
use Rattle.std.proofs.lemmas.Bool.{not-true}
use Rattle.machine.specs.declared.Arc.{Arc}
use Rattle.machine.specs.Machine.{Machine, state_count_of, of_kind, takes, take_one_pair, clash}
use Rattle.machine.specs.Part.{sound_set, sound_arc, clash_free}
use Rattle.machine.specs.Accepted.{sound_facts}
use Rattle.machine.specs.CommonPair.{take_one, common_pair}
use Rattle.product.specs.Laws.Listing.{map_member}
use Rattle.join.specs.JoinedMachine.{joined_state, joined_kind, joined_arc, arcs_with, joined_arcs, both_marks, crossed, joined_machine, ends_free, markless}
use Rattle.join.specs.Laws.Machines.{few_ending_marks, sound_machine, SoundMachine, sound_machine_lem}
use Rattle.join.specs.Laws.Steps.{joined_takes, same_states}
use Rattle.joined.specs.Laws.Crossed.{joined_states}

-- ---- the arcs of the joined machine

pub record JoinOf (Q : ℕ) (firsts seconds : List Arc) (x : Arc) : Type 0 where
  pub first : Arc
  pub second : Arc
  pub first_is : List-as-Memᴰ first firsts
  pub second_is : List-as-Memᴰ second seconds
  pub one_pair : take_one_pair first second ≡ true
  pub arc : x ≡ joined_arc Q first second

pub join_of : (Q : ℕ) (firsts seconds : List Arc) {x : Arc} → List-as-Memᴰ x (joined_arcs Q firsts seconds) → JoinOf Q firsts seconds x
join_of Q firsts seconds m =
    let u = joined_member (arcs_with Q seconds) firsts m in
    let v = map_member (joined_arc Q u.0) (those (take_one_pair u.0) seconds) u.2 in
    let w = those_member (take_one_pair u.0) seconds v.1 in
    record { first = u.0; second = v.0; first_is = u.1; second_is = w.0; one_pair = w.1; arc = v.2 }

-- ---- their fields

state_below : (P Q s t : ℕ) → s < P → t < Q → joined_state Q s t < P * Q
state_below P Q s t hs ht =
    let m : suc s * Q ≤ P * Q = mul-le-mul_right Q hs in
    omega (arith, suc-mul s Q)

-- two sets with a number in common have a sound intersection
sound_set_lem : (S u v i : ℕ) → u < 2 ^ (S + 1) → member u i ≡ true → member v i ≡ true → sound_set S (bit_and u v) ≡ true
sound_set_lem S u v i h p q =
    let k = has_member (bit_and u v) i (member_and u v i ∙ both p q) in
    let e : eqb (bit_and u v) 0 ≡ false = ne_eqb (bit_and u v) 0 (omega (arith, k)) in
    both (ap not e) (lt-ltb (bit_and u v) (2 ^ (S + 1)) (omega (arith, and_le_l u v)))

few_kinds : (k l : ℕ) → k ≤ 2 → l ≤ 2 → joined_kind k l ≤ 2
few_kinds zero l hk hl = hl
few_kinds (suc k) l hk hl = hk

joined_arc_sound : (S P Q : ℕ) (a b : Arc) → sound_arc S P a ≡ true → sound_arc S Q b ≡ true → a.marks + b.marks ≤ 15 → take_one_pair a b ≡ true → sound_arc S (P * Q) (joined_arc Q a b) ≡ true
unfolding sound_arc takes
joined_arc_sound S P Q a b ha hb m c =
    let f = sound_facts S P a ha in
    let g = sound_facts S Q b hb in
    let k = common_pair a b c in
    let p = k.pair in
    let ai = member a.inputs p.input in
    let ao = member a.outputs p.output in
    let bi = member b.inputs p.input in
    let bo = member b.outputs p.output in
    let sa = left (ai && ao) (of_kind a.kind p) k.first in
    let sb = left (bi && bo) (of_kind b.kind p) k.second in
    both (both (both (both (both
    (lt-ltb (joined_state Q a.from b.from) (P * Q) (state_below P Q a.from b.from f.from g.from))
    (lt-ltb (joined_state Q a.to b.to) (P * Q) (state_below P Q a.to b.to f.to g.to)))
    (le-leb (a.marks + b.marks) 15 m))
    (le-leb (joined_kind a.kind b.kind) 2 (few_kinds a.kind b.kind f.kind g.kind)))
    (sound_set_lem S a.inputs b.inputs p.input f.inputs (left ai ao sa) (left bi bo sb)))
    (sound_set_lem S a.outputs b.outputs p.output f.outputs (right ai ao sa) (right bi bo sb))

-- where one of two machines has no marks, the marks of an arc of each add up to 15 at most
marks_fit : (S P Q : ℕ) (firsts seconds : List Arc) → all_of (sound_arc S P) firsts ≡ true → all_of (sound_arc S Q) seconds ≡ true
    → (all_of (λ a. eqb a.marks 0) firsts ≡ true) ⊎ (all_of (λ a. eqb a.marks 0) seconds ≡ true)
    → {a b : Arc} → List-as-Memᴰ a firsts → List-as-Memᴰ b seconds → a.marks + b.marks ≤ 15
marks_fit S P Q firsts seconds ha hb (inl z) {a} {b} ma mb =
    omega (arith, eqb-true a.marks 0 (all_member (λ a. eqb a.marks 0) z ma), (sound_facts S Q b (all_member (sound_arc S Q) hb mb)).marks)
marks_fit S P Q firsts seconds ha hb (inr z) {a} {b} ma mb =
    omega (arith, eqb-true b.marks 0 (all_member (λ a. eqb a.marks 0) z mb), (sound_facts S P a (all_member (sound_arc S P) ha ma)).marks)

-- and so do those of an ending of each
free_then_few : (x y : Option ℕ) → ends_free x ≡ true → few_ending_marks y ≡ true → few_ending_marks (both_marks x y) ≡ true
free_then_few none y h k = refl
free_then_few (some m) none h k = refl
free_then_few (some m) (some n) h k = le-leb (m + n) 15 (omega (arith, eqb-true m 0 h, leb-true n 15 k))

few_then_free : (x y : Option ℕ) → few_ending_marks x ≡ true → ends_free y ≡ true → few_ending_marks (both_marks x y) ≡ true
few_then_free none y h k = refl
few_then_free (some m) none h k = refl
few_then_free (some m) (some n) h k = le-leb (m + n) 15 (omega (arith, leb-true m 15 h, eqb-true n 0 k))

all_map : {A B : Type 0} (f : A → Bool) (g : B → Bool) (k : A → B) → ((x : A) → f x ≡ true → g (k x) ≡ true) → (xs : List A) → all_of f xs ≡ true → all_of g (map k xs) ≡ true
unfolding all_of
all_map f g k h [] t = refl
all_map f g k h (x ∷ xs) t = both (h x (left (f x) (all_of f xs) t)) (all_map f g k h xs (right (f x) (all_of f xs) t))

all_crossed : {A B C : Type 0} (f : A → Bool) (g : B → Bool) (e : C → Bool) (k : A → B → C) → ((x : A) (y : B) → f x ≡ true → g y ≡ true → e (k x y) ≡ true)
    → (xs : List A) (ys : List B) → all_of f xs ≡ true → all_of g ys ≡ true → all_of e (crossed k xs ys) ≡ true
unfolding all_of joined
all_crossed f g e k h [] ys t u = refl
all_crossed f g e k h (x ∷ xs) ys t u =
    all_append e (map (k x) ys) (crossed k xs ys)
    ∙ both (all_map g e (k x) (λ y v. h x y (left (f x) (all_of f xs) t) v) ys u) (all_crossed f g e k h xs ys (right (f x) (all_of f xs) t) u)

first_free : (xs ys : List (Option ℕ)) → all_of ends_free xs ≡ true → all_of few_ending_marks ys ≡ true → all_of few_ending_marks (crossed both_marks xs ys) ≡ true
first_free = all_crossed ends_free few_ending_marks few_ending_marks both_marks free_then_few

second_free : (xs ys : List (Option ℕ)) → all_of few_ending_marks xs ≡ true → all_of ends_free ys ≡ true → all_of few_ending_marks (crossed both_marks xs ys) ≡ true
second_free = all_crossed few_ending_marks ends_free few_ending_marks both_marks few_then_free

-- ---- no clash arises

-- joined arcs that clash are joined from arcs that are the same or clash
joined_clash : (Q : ℕ) (a b c d : Arc) → take_one_pair a b ≡ true → take_one_pair c d ≡ true → b.from < Q → d.from < Q → clash (joined_arc Q a b) (joined_arc Q c d) ≡ true → (clash a c ≡ true) × (clash b d ≡ true)
unfolding clash
joined_clash Q a b c d ab cd hb hd t =
    let x = joined_arc Q a b in
    let y = joined_arc Q c d in
    let e = same_states Q a.from b.from c.from d.from hb hd (eqb-true x.from y.from (left (eqb x.from y.from) (take_one_pair x y) t)) in
    let k = common_pair x y (right (eqb x.from y.from) (take_one_pair x y) t) in
    let p = k.pair in
    let u = sym (joined_takes Q a b ab p) ∙ k.first in
    let v = sym (joined_takes Q c d cd p) ∙ k.second in (
      both (eq-eqb a.from c.from e.0) (take_one a c p k.input k.output k.is_pair_lem (left (takes a p) (takes b p) u) (left (takes c p) (takes d p) v)),
      both (eq-eqb b.from d.from e.1) (take_one b d p k.input k.output k.is_pair_lem (right (takes a p) (takes b p) u) (right (takes c p) (takes d p) v)),
    )

pairwise_append : {A : Type 0} (f : A → A → Bool) (xs ys : List A) → pairwise f xs ≡ true → pairwise f ys ≡ true
    → ((x y : A) → List-as-Memᴰ x xs → List-as-Memᴰ y ys → f x y ≡ true) → pairwise f (xs ++ ys) ≡ true
unfolding pairwise
pairwise_append f [] ys hx hy h = hy
pairwise_append f (x ∷ xs) ys hx hy h =
    both
    (all_append (f x) xs ys ∙ both (left (all_of (f x) xs) (pairwise f xs) hx) (each_member (f x) ys (λ y m. h x y (List·Memᴰ·head refl) m)))
    (pairwise_append f xs ys (right (all_of (f x) xs) (pairwise f xs) hx) hy (λ u y mu my. h u y (List·Memᴰ·tail mu) my))

pairwise_map : {A B : Type 0} (f : A → A → Bool) (g : B → B → Bool) (h : A → B) (xs : List A)
    → ((x y : A) → List-as-Memᴰ x xs → List-as-Memᴰ y xs → f x y ≡ true → g (h x) (h y) ≡ true) → pairwise f xs ≡ true → pairwise g (map h xs) ≡ true
unfolding pairwise
pairwise_map f g h [] k t = refl
pairwise_map {A} {B} f g h (x ∷ xs) k t =
    both (each_member (g (h x)) (map h xs) first) (pairwise_map f g h xs (λ u v mu mv. k u v (List·Memᴰ·tail mu) (List·Memᴰ·tail mv)) (right (all_of (f x) xs) (pairwise f xs) t))
  where
    first : (y : B) → List-as-Memᴰ y (map h xs) → g (h x) y ≡ true
    first y m =
        let w = map_member h xs m in
        rw w.2 (k x w.0 (List·Memᴰ·head refl) (List·Memᴰ·tail w.1) (all_member (f x) (left (all_of (f x) xs) (pairwise f xs) t) w.1))

no_clash_lem : (Q : ℕ) (firsts seconds : List Arc) → all_of (λ b. ltb b.from Q) seconds ≡ true → pairwise clash_free firsts ≡ true → pairwise clash_free seconds ≡ true → pairwise clash_free (joined_arcs Q firsts seconds) ≡ true
unfolding pairwise joined
no_clash_lem Q [] seconds from ha hb = refl
no_clash_lem Q (a ∷ firsts) seconds from ha hb =
    pairwise_append clash_free (arcs_with Q seconds a) (joined_arcs Q firsts seconds)
    (pairwise_map clash_free clash_free (joined_arc Q a) (those (take_one_pair a) seconds) second (pairwise_those (take_one_pair a) clash_free seconds hb))
    (no_clash_lem Q firsts seconds from (right (all_of (clash_free a) firsts) (pairwise clash_free firsts) ha) hb)
    first
  where
    below : {b : Arc} → List-as-Memᴰ b seconds → b.from < Q
    below {b} m = ltb-true b.from Q (all_member (λ b. ltb b.from Q) from m)

    second : (b d : Arc) → List-as-Memᴰ b (those (take_one_pair a) seconds) → List-as-Memᴰ d (those (take_one_pair a) seconds) → clash_free b d ≡ true → clash_free (joined_arc Q a b) (joined_arc Q a d) ≡ true
    second b d mb md h =
        let kb = those_member (take_one_pair a) seconds mb in
        let kd = those_member (take_one_pair a) seconds md in
        ap not (fails (clash (joined_arc Q a b) (joined_arc Q a d)) (λ t.
        never (joined_clash Q a b a d kb.1 kd.1 (below kb.0) (below kd.0) t).1 (not-true (clash b d) h)))

    first : (x y : Arc) → List-as-Memᴰ x (arcs_with Q seconds a) → List-as-Memᴰ y (joined_arcs Q firsts seconds) → clash_free x y ≡ true
    first x y mx my =
        let u = map_member (joined_arc Q a) (those (take_one_pair a) seconds) mx in
        let k = those_member (take_one_pair a) seconds u.1 in
        let w = join_of Q firsts seconds my in
        rw (u.2, w.arc) (ap not (fails (clash (joined_arc Q a u.0) (joined_arc Q w.first w.second)) (λ t.
        never (joined_clash Q a u.0 w.first w.second k.1 w.one_pair (below k.0) (below w.second_is) t).0
        (not-true (clash a w.first) (all_member (clash_free a) (left (all_of (clash_free a) firsts) (pairwise clash_free firsts) ha) w.first_is)))))

-- ---- so it is sound, with Qa × Qb states

pub joined_sound : (S : ℕ) (a b : Machine) → sound_machine S a ≡ true → sound_machine S b ≡ true → (markless a ≡ true) ⊎ (markless b ≡ true) → sound_machine S (joined_machine a b) ≡ true
unfolding sound_machine joined_machine markless
joined_sound S a b sa sb unmarked =
    both (both (both (le-leb 1 (state_count_of (joined_machine a b)) some_state) endings) arcs) clashes
  where
    fa : SoundMachine S a
    fa = sound_machine_lem S a sa

    fb : SoundMachine S b
    fb = sound_machine_lem S b sb

    Q : ℕ
    Q = state_count_of b

    some_state : 1 ≤ state_count_of (joined_machine a b)
    some_state = omega (arith, joined_states a b, mul-le-mul fa.some_state fb.some_state)

    no_arc_marks : (all_of (λ x. eqb x.marks 0) a.arcs ≡ true) ⊎ (all_of (λ x. eqb x.marks 0) b.arcs ≡ true)
    no_arc_marks = go unmarked
      where
        go : (markless a ≡ true) ⊎ (markless b ≡ true) → (all_of (λ x. eqb x.marks 0) a.arcs ≡ true) ⊎ (all_of (λ x. eqb x.marks 0) b.arcs ≡ true)
        go (inl h) = inl (left (all_of (λ x. eqb x.marks 0) a.arcs) (all_of ends_free a.endings) h)
        go (inr h) = inr (left (all_of (λ x. eqb x.marks 0) b.arcs) (all_of ends_free b.endings) h)

    endings : all_of few_ending_marks (crossed both_marks a.endings b.endings) ≡ true
    endings = go unmarked
      where
        go : (markless a ≡ true) ⊎ (markless b ≡ true) → all_of few_ending_marks (crossed both_marks a.endings b.endings) ≡ true
        go (inl h) = first_free a.endings b.endings (right (all_of (λ x. eqb x.marks 0) a.arcs) (all_of ends_free a.endings) h) fb.endings
        go (inr h) = second_free a.endings b.endings fa.endings (right (all_of (λ x. eqb x.marks 0) b.arcs) (all_of ends_free b.endings) h)

    arcs : all_of (sound_arc S (state_count_of (joined_machine a b))) (joined_arcs Q a.arcs b.arcs) ≡ true
    arcs = each_member (sound_arc S (state_count_of (joined_machine a b))) (joined_arcs Q a.arcs b.arcs) (λ x m.
        let w = join_of Q a.arcs b.arcs m in
        rw (joined_states a b, w.arc) (joined_arc_sound S (state_count_of a) Q w.first w.second
        (all_member (sound_arc S (state_count_of a)) fa.arcs w.first_is)
        (all_member (sound_arc S Q) fb.arcs w.second_is)
        (marks_fit S (state_count_of a) Q a.arcs b.arcs fa.arcs fb.arcs no_arc_marks w.first_is w.second_is)
        w.one_pair))

    clashes : pairwise clash_free (joined_arcs Q a.arcs b.arcs) ≡ true
    clashes = no_clash_lem Q a.arcs b.arcs (each_member (λ b. ltb b.from Q) b.arcs (λ x m. lt-ltb x.from Q (sound_facts S Q x (all_member (sound_arc S Q) fb.arcs m)).from)) fa.clashes fb.clashes
