-- Arcs from before kinds, with 0 in the place of the kind, mean what they meant. Assumes nothing.
use Rattle.std.specs.Prelude.{◌≡◌, ◌&&◌, ◌∷◌}
use Rattle.basics.proofs.Words.{refl, ◌∙◌, ap, ap₂, Bool, true, false, not, and-true, List, [], Option, some, none, ℕ, zero, suc, arith, eqb, ltb, leb, all_of, pairwise, some_below, member, left, right}
use Rattle.std.proofs.Common.{eqb-true}
use Rattle.refusals.specs.Refusals.{refuse, first_of}
use Rattle.machine.specs.declared.Arc.{Arc}
use Rattle.machine.specs.declared.Pair.{Pair}
use Rattle.machine.specs.Symbols.{is_pair, pair_of}
use Rattle.machine.specs.Machine.{of_kind, takes, step_among, take_one_pair, clash}
use Rattle.machine.specs.Part.{state_count, arcs_of, shaped, sound_set, sound_arc, sound_states, sound_arcs, clash_free, no_clash, part_refusal}

-- an arc takes a pair if in and out are in its sets
abbrev pub takes_by_sets : Arc → Pair → Bool
takes_by_sets a p = member a.inputs p.input && member a.outputs p.output

-- the first of the arcs that takes the pair from the state: where it leads, and its marks
unfoldable pub step_by_sets : List Arc → ℕ → Pair → Option (ℕ × ℕ)
step_by_sets [] s p = none
step_by_sets (a ∷ rest) s p = elim (eqb a.from s && takes_by_sets a p) [ true ↦ some (a.to, a.marks) | false ↦ step_by_sets rest s p ]

-- arc states below Q, marks at most 15, the zero byte 0, sound sets
abbrev pub sound_by_sets : ℕ → ℕ → Arc → Bool
sound_by_sets S Q a =
    ltb a.from Q && ltb a.to Q && leb a.marks 15 && eqb a.kind 0 && sound_set S a.inputs && sound_set S a.outputs

-- no two arcs of a state take one pair
abbrev pub free_by_sets : Arc → Arc → Bool
free_by_sets a b =
    not (eqb a.from b.from && some_below (λ x. some_below (λ y. is_pair (pair_of x y) && takes_by_sets a (pair_of x y) && takes_by_sets b (pair_of x y)) 64) 64)

unfoldable pub refusal_by_sets : ℕ → List ℕ → ℕ
refusal_by_sets S part =
    first_of (refuse 3 (shaped part) ∷ refuse 4 (sound_states part) ∷ refuse 4 (all_of (sound_by_sets S (state_count part)) (arcs_of part)) ∷ refuse 5 (pairwise free_by_sets (arcs_of part)) ∷ [])

-- every arc has 0 in the place of the kind
abbrev pub old_arc : Arc → Bool
old_arc a = eqb a.kind 0

abbrev pub old_arcs : List ℕ → Bool
old_arcs part = all_of old_arc (arcs_of part)

any_kind : (k : ℕ) (p : Pair) → k ≡ 0 → of_kind k p ≡ true
unfolding of_kind
any_kind zero p e = refl
any_kind (suc k) p e = absurd (omega arith)

-- such an arc takes the same pairs
pub same_takes : (a : Arc) (p : Pair) → old_arc a ≡ true → takes a p ≡ takes_by_sets a p
unfolding takes
same_takes a p t = ap (λ (b : Bool). takes_by_sets a p && b) (any_kind a.kind p (eqb-true a.kind 0 t)) ∙ and-true (takes_by_sets a p)

-- so steps are the same
pub same_steps : (arcs : List Arc) → all_of old_arc arcs ≡ true → (s : ℕ) (p : Pair) → step_among arcs s p ≡ step_by_sets arcs s p
unfolding all_of step_among step_by_sets
same_steps [] t s p = refl
same_steps (a ∷ rest) t s p =
    ap (λ (b : Bool). elim b as (λ _. Option (ℕ × ℕ)) [ true ↦ some (a.to, a.marks) | false ↦ step_among rest s p ]) (ap (λ (b : Bool). eqb a.from s && b) (same_takes a p (left (old_arc a) (all_of old_arc rest) t)))
    ∙ ap (λ (o : Option (ℕ × ℕ)). elim (eqb a.from s && takes_by_sets a p) as (λ _. Option (ℕ × ℕ)) [ true ↦ some (a.to, a.marks) | false ↦ o ]) (same_steps rest (right (old_arc a) (all_of old_arc rest) t) s p)

all_same : (f g : Arc → Bool) → ((a : Arc) → old_arc a ≡ true → f a ≡ g a) → (arcs : List Arc) → all_of old_arc arcs ≡ true → all_of f arcs ≡ all_of g arcs
unfolding all_of
all_same f g h [] t = refl
all_same f g h (a ∷ rest) t = ap₂ (λ (b d : Bool). b && d) (h a (left (old_arc a) (all_of old_arc rest) t)) (all_same f g h rest (right (old_arc a) (all_of old_arc rest) t))

pairwise_same : (f g : Arc → Arc → Bool) → ((a b : Arc) → old_arc a ≡ true → old_arc b ≡ true → f a b ≡ g a b) → (arcs : List Arc) → all_of old_arc arcs ≡ true → pairwise f arcs ≡ pairwise g arcs
unfolding all_of pairwise
pairwise_same f g h [] t = refl
pairwise_same f g h (a ∷ rest) t =
    let o = left (old_arc a) (all_of old_arc rest) t in
    let r = right (old_arc a) (all_of old_arc rest) t in
    ap₂ (λ (b d : Bool). b && d) (all_same (f a) (g a) (λ b q. h a b o q) rest r) (pairwise_same f g h rest r)

same_sound : (S Q : ℕ) (a : Arc) → old_arc a ≡ true → sound_arc S Q a ≡ sound_by_sets S Q a
unfolding sound_arc
same_sound S Q a t =
    ap (λ (b : Bool). ltb a.from Q && ltb a.to Q && leb a.marks 15 && b && sound_set S a.inputs && sound_set S a.outputs) (go a.kind (eqb-true a.kind 0 t))
  where
    go : (k : ℕ) → k ≡ 0 → leb k 2 ≡ eqb k 0
    go zero e = refl
    go (suc k) e = absurd (omega arith)

same_free : (a b : Arc) → old_arc a ≡ true → old_arc b ≡ true → clash_free a b ≡ free_by_sets a b
unfolding clash take_one_pair
same_free a b s t =
    let p : takes a ≡ takes_by_sets a = λ i q. same_takes a q s i in
    let r : takes b ≡ takes_by_sets b = λ i q. same_takes b q t i in
    ap₂ (λ (f g : Pair → Bool). not (eqb a.from b.from && some_below (λ x. some_below (λ y. is_pair (pair_of x y) && f (pair_of x y) && g (pair_of x y)) 64) 64)) p r

-- and so are the tests of refusals 4 and 5
pub same_sound_arcs : (S : ℕ) (part : List ℕ) → old_arcs part ≡ true → sound_arcs S part ≡ all_of (sound_by_sets S (state_count part)) (arcs_of part)
same_sound_arcs S part t = all_same (sound_arc S (state_count part)) (sound_by_sets S (state_count part)) (same_sound S (state_count part)) (arcs_of part) t

pub same_no_clash : (part : List ℕ) → old_arcs part ≡ true → no_clash part ≡ pairwise free_by_sets (arcs_of part)
same_no_clash part t = pairwise_same clash_free free_by_sets same_free (arcs_of part) t

-- and the part's refusal
pub same_refusal : (S : ℕ) (part : List ℕ) → old_arcs part ≡ true → part_refusal S part ≡ refusal_by_sets S part
unfolding part_refusal refusal_by_sets
same_refusal S part t =
    ap₂ (λ (b d : Bool). first_of (refuse 3 (shaped part) ∷ refuse 4 (sound_states part) ∷ refuse 4 b ∷ refuse 5 d ∷ [])) (same_sound_arcs S part t) (same_no_clash part t)
