-- A machine part of a card: the machine that its bytes are, and its refusal.
use Rattle.std.specs.Prelude.{◌&&◌, ◌∷◌, ◌+◌, ◌*◌, ◌^◌}
use Rattle.basics.specs.Words.{Bool, not, List, [], map, Option, some, none, ℕ, zero, suc, length, get_or, eqb, ltb, leb, slice, all_of, pairwise}
use Rattle.refusals.specs.Refusals.{refuse, first_of}
use Rattle.machine.specs.declared.Arc.{Arc}
use Rattle.machine.specs.Machine.{Machine, clash}
pub use Rattle.symbols.specs.SymbolSets.{sound_set}

-- Q, states, and A, arcs
abbrev pub state_count : List ℕ → ℕ
state_count part = get_or part 0 0

abbrev pub arc_count : List ℕ → ℕ
arc_count part = get_or part 1 0

-- the little-endian number of four bytes, and of eight
abbrev pub four_bytes_at : List ℕ → ℕ → ℕ
four_bytes_at l at = get_or l at 0 + 256 * (get_or l (at + 1) 0 + 256 * (get_or l (at + 2) 0 + 256 * get_or l (at + 3) 0))

abbrev pub eight_bytes_at : List ℕ → ℕ → ℕ
eight_bytes_at l at = four_bytes_at l at + 2 ^ 32 * four_bytes_at l (at + 4)

-- the arc whose 20 bytes start at a place
unfoldable pub arc_at : List ℕ → ℕ → Arc
arc_at l at =
    record { from = get_or l at 0; to = get_or l (at + 1) 0; marks = get_or l (at + 2) 0; kind = get_or l (at + 3) 0; inputs = eight_bytes_at l (at + 4); outputs = eight_bytes_at l (at + 12) }

-- n arcs from a place
unfoldable pub arcs_at : List ℕ → ℕ → ℕ → List Arc
arcs_at l at zero = []
arcs_at l at (suc n) = arc_at l at ∷ arcs_at l (at + 20) n

-- the state bytes, and the arcs
abbrev pub state_bytes : List ℕ → List ℕ
state_bytes part = slice 2 (2 + state_count part) part

abbrev pub arcs_of : List ℕ → List Arc
arcs_of part = arcs_at part (2 + state_count part) (arc_count part)

-- what a state byte says of ending there: 0 is not final, 1 to 16 final with that many less one marks
abbrev pub ending_byte : ℕ → Option ℕ
ending_byte zero = none
ending_byte (suc marks) = some marks

-- the machine that a part's bytes are
unfoldable pub machine_of : List ℕ → Machine
machine_of part = record { endings = map ending_byte (state_bytes part); arcs = arcs_of part }

-- not refusal 3: at least 2 bytes, Q is 1 to 32, the length is 2 + Q + 20A
unfoldable pub shaped : List ℕ → Bool
shaped part =
    leb 2 (length part) && leb 1 (state_count part) && leb (state_count part) 32 && eqb (length part) (2 + state_count part + 20 * arc_count part)

-- arc states below Q, marks at most 15, the kind at most 2, sound sets
unfoldable pub sound_arc : ℕ → ℕ → Arc → Bool
sound_arc S Q a =
    ltb a.from Q && ltb a.to Q && leb a.marks 15 && leb a.kind 2 && sound_set S a.inputs && sound_set S a.outputs

-- not refusal 4: no state byte over 16, and every arc sound
abbrev pub sound_states : List ℕ → Bool
sound_states part = all_of (λ b. leb b 16) (state_bytes part)

abbrev pub sound_arcs : ℕ → List ℕ → Bool
sound_arcs S part = all_of (sound_arc S (state_count part)) (arcs_of part)

-- not refusal 5: no two arcs of a state take one pair
abbrev pub clash_free : Arc → Arc → Bool
clash_free a b = not (clash a b)

abbrev pub no_clash : List ℕ → Bool
no_clash part = pairwise clash_free (arcs_of part)

-- 0 where the part is accepted on a card of S symbols, else the first refusal that applies
unfoldable pub part_refusal : ℕ → List ℕ → ℕ
part_refusal S part =
    first_of (refuse 3 (shaped part) ∷ refuse 4 (sound_states part) ∷ refuse 4 (sound_arcs S part) ∷ refuse 5 (no_clash part) ∷ [])
