-- Parts from before ending marks, whose state bytes are 0 and 1, as they were read then. Assumes nothing.
use Rattle.std.specs.Prelude.{◌≡◌, ◌∷◌}
use Rattle.basics.proofs.Words.{refl, sym, ◌∙◌, ap, Bool, true, false, List, [], map, Option, some, none, ℕ, zero, suc, arith, get_or, eqb, leb, all_of, both, left, right}
use Rattle.std.proofs.Common.{leb-true, le-leb}
use Rattle.refusals.specs.Refusals.{refuse, first_of}
use Rattle.machine.specs.declared.Arc.{Arc}
use Rattle.machine.specs.Machine.{ending_of}
use Rattle.machine.specs.Part.{state_bytes, arcs_of, ending_byte, machine_of, shaped, sound_states, sound_arcs, no_clash, part_refusal}

-- for each state whether it is final; and the arcs
pub record OldMachine : Type 0 where
  pub finals : List Bool
  pub arcs : List Arc

-- a state byte is 1, final, or 0, not
abbrev pub final_byte : ℕ → Bool
final_byte b = eqb b 1

unfoldable pub old_machine_of : List ℕ → OldMachine
old_machine_of part = record { finals = map final_byte (state_bytes part); arcs = arcs_of part }

-- ending in a final state costs nothing
abbrev pub free_ending : Bool → Option ℕ
free_ending true = some 0
free_ending false = none

unfoldable pub old_ending_of : OldMachine → ℕ → Option ℕ
old_ending_of m s = free_ending (get_or m.finals s false)

-- a state byte over 1 is refused by 4
abbrev pub old_byte : ℕ → Bool
old_byte b = leb b 1

abbrev pub old_states : List ℕ → Bool
old_states part = all_of old_byte (state_bytes part)

unfoldable pub old_part_refusal : ℕ → List ℕ → ℕ
old_part_refusal S part =
    first_of (refuse 3 (shaped part) ∷ refuse 4 (old_states part) ∷ refuse 4 (sound_arcs S part) ∷ refuse 5 (no_clash part) ∷ [])

-- such bytes pass as before
bytes_pass : (bytes : List ℕ) → all_of old_byte bytes ≡ true → all_of (λ b. leb b 16) bytes ≡ true
unfolding all_of
bytes_pass [] t = refl
bytes_pass (b ∷ bs) t =
    let small = leb-true b 1 (left (old_byte b) (all_of old_byte bs) t) in
    both (le-leb b 16 (omega (arith, small))) (bytes_pass bs (right (old_byte b) (all_of old_byte bs) t))

pub states_pass : (part : List ℕ) → old_states part ≡ true → sound_states part ≡ true
states_pass part t = bytes_pass (state_bytes part) t

pub refused_as_before : (S : ℕ) (part : List ℕ) → old_states part ≡ true → part_refusal S part ≡ old_part_refusal S part
unfolding part_refusal old_part_refusal
refused_as_before S part t =
    ap (λ (b : Bool). first_of (refuse 3 (shaped part) ∷ refuse 4 b ∷ refuse 4 (sound_arcs S part) ∷ refuse 5 (no_clash part) ∷ []))
    (states_pass part t ∙ sym t)

-- and say the same of ending
bytes_end : (bytes : List ℕ) → all_of old_byte bytes ≡ true → (s : ℕ) → get_or (map ending_byte bytes) s none ≡ free_ending (get_or (map final_byte bytes) s false)
unfolding all_of
bytes_end [] t s = refl
bytes_end (zero ∷ bs) t zero = refl
bytes_end (suc zero ∷ bs) t zero = refl
bytes_end (suc (suc b) ∷ bs) t zero = absurd (omega (arith, leb-true (suc (suc b)) 1 (left (old_byte (suc (suc b))) (all_of old_byte bs) t)))
bytes_end (b ∷ bs) t (suc s) = bytes_end bs (right (old_byte b) (all_of old_byte bs) t) s

pub ends_as_before : (part : List ℕ) → old_states part ≡ true → (s : ℕ) → ending_of (machine_of part) s ≡ old_ending_of (old_machine_of part) s
unfolding ending_of machine_of old_ending_of old_machine_of
ends_as_before part t s = bytes_end (state_bytes part) t s
