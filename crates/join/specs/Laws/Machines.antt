-- Sound machines: what the checks of a part promise of its machine. Assumes nothing.
use Rattle.std.specs.Prelude.{◌≡◌, ◌&&◌, ◌≤◌}
use Rattle.basics.proofs.Words.{Bool, true, Option, some, none, ℕ, leb, all_of, pairwise, left, right}
use Rattle.std.proofs.Common.{leb-true}
use Rattle.machine.specs.Machine.{Machine, state_count_of}
use Rattle.machine.specs.Part.{sound_arc, clash_free}

-- ending there costs at most 15 marks
abbrev pub few_ending_marks : Option ℕ → Bool
few_ending_marks none = true
few_ending_marks (some m) = leb m 15

-- a machine that the checks of a part accept on a card of S symbols, but for its size: it has a state, its endings and arcs are sound, none clash
unfoldable pub sound_machine : ℕ → Machine → Bool
sound_machine S m = leb 1 (state_count_of m) && all_of few_ending_marks m.endings && all_of (sound_arc S (state_count_of m)) m.arcs && pairwise clash_free m.arcs

pub record SoundMachine (S : ℕ) (m : Machine) : Type 0 where
  pub some_state : 1 ≤ state_count_of m
  pub endings : all_of few_ending_marks m.endings ≡ true
  pub arcs : all_of (sound_arc S (state_count_of m)) m.arcs ≡ true
  pub clashes : pairwise clash_free m.arcs ≡ true

pub sound_machine_lem : (S : ℕ) (m : Machine) → sound_machine S m ≡ true → SoundMachine S m
unfolding sound_machine
sound_machine_lem S m t =
    let a = leb 1 (state_count_of m) in
    let e = all_of few_ending_marks m.endings in
    let b = all_of (sound_arc S (state_count_of m)) m.arcs in
    let p = pairwise clash_free m.arcs in
    let aeb = left (a && e && b) p t in
    let ae = left (a && e) b aeb in
    record { some_state = leb-true 1 (state_count_of m) (left a e ae); endings = right a e ae; arcs = right (a && e) b aeb; clashes = right (a && e && b) p t }
