-- Parts from before ending marks and kinds, as the base read them: a state byte is 1, final, or 0, not; an arc takes by its sets alone, and its fourth
-- byte is a zero. Assumes nothing.
use Rattle.std.specs.Prelude.{◌≡◌, ◌&&◌, ◌∷◌}
use Rattle.basics.proofs.Words.{refl, sym, ◌∙◌, ap, ap₂, Bool, true, List, [], ℕ, ltb, leb, all_of, pairwise, both, left, right}
use Rattle.refusals.specs.Refusals.{refuse, first_of}
use Rattle.machine.specs.declared.Arc.{Arc}
use Rattle.machine.specs.Part.{state_count, arcs_of, shaped, sound_set, sound_states, part_refusal}
use Rattle.machine.specs.Accepted.{verdict}
use Rattle.machine.specs.OldStates.{old_states, states_pass}
use Rattle.machine.specs.OldArcs.{sound_by_sets, free_by_sets, old_arc, old_arcs, same_sound_arcs, same_no_clash}

-- 0 where the base accepts the part on a card of S symbols, else the first refusal that applies
unfoldable pub base_refusal : ℕ → List ℕ → ℕ
base_refusal S part =
    first_of (refuse 3 (shaped part) ∷ refuse 4 (old_states part) ∷ refuse 4 (all_of (sound_by_sets S (state_count part)) (arcs_of part)) ∷ refuse 5 (pairwise free_by_sets (arcs_of part)) ∷ [])

-- state bytes 0 and 1, and a zero in every arc
abbrev pub base_part : List ℕ → Bool
base_part part = old_states part && old_arcs part

-- such a part is refused or accepted as in the base
pub refused_as_in_base : (S : ℕ) (part : List ℕ) → base_part part ≡ true → part_refusal S part ≡ base_refusal S part
unfolding part_refusal base_refusal
refused_as_in_base S part t =
    let states = left (old_states part) (old_arcs part) t in
    let arcs = right (old_states part) (old_arcs part) t in
    ap₂ (λ (b d : Bool). first_of (refuse 3 (shaped part) ∷ refuse 4 (sound_states part) ∷ refuse 4 b ∷ refuse 5 d ∷ [])) (same_sound_arcs S part arcs) (same_no_clash part arcs)
    ∙ ap (λ (b : Bool). first_of (refuse 3 (shaped part) ∷ refuse 4 b ∷ refuse 4 (all_of (sound_by_sets S (state_count part)) (arcs_of part)) ∷ refuse 5 (pairwise free_by_sets (arcs_of part)) ∷ []))
    (states_pass part states ∙ sym states)

-- and the base accepted no other part
zero_byte : (S Q : ℕ) (a : Arc) → sound_by_sets S Q a ≡ true → old_arc a ≡ true
zero_byte S Q a t =
    let f = ltb a.from Q && ltb a.to Q && leb a.marks 15 in
    right f (old_arc a) (left (f && old_arc a) (sound_set S a.inputs) (left (f && old_arc a && sound_set S a.inputs) (sound_set S a.outputs) t))

zero_bytes : (S Q : ℕ) (arcs : List Arc) → all_of (sound_by_sets S Q) arcs ≡ true → all_of old_arc arcs ≡ true
unfolding all_of
zero_bytes S Q [] t = refl
zero_bytes S Q (a ∷ rest) t =
    both (zero_byte S Q a (left (sound_by_sets S Q a) (all_of (sound_by_sets S Q) rest) t)) (zero_bytes S Q rest (right (sound_by_sets S Q a) (all_of (sound_by_sets S Q) rest) t))

pub accepted_in_base : (S : ℕ) (part : List ℕ) → base_refusal S part ≡ 0 → base_part part ≡ true
unfolding base_refusal
accepted_in_base S part e =
    let v = verdict (shaped part) (old_states part) (all_of (sound_by_sets S (state_count part)) (arcs_of part)) (pairwise free_by_sets (arcs_of part)) e in
    both v.1 (zero_bytes S (state_count part) (arcs_of part) v.2)
