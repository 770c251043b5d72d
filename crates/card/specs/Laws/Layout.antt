-- What the check of the counts tells of a card, and its parts. Assumes nothing.
use Rattle.std.specs.Prelude.{◌≡◌, ◌&&◌, ◌<◌, ◌≤◌}
use Rattle.basics.proofs.Words.{true, List, ℕ, length, get_or, leb, left, right}
use Rattle.std.proofs.Common.{leb-true, le-leb}
use Rattle.layout.specs.Layout.{part_of}
use Rattle.layout.specs.LaidOut.{length_parts as length-parts-in, part_at as part_in_at}
use Rattle.card.specs.Layout.{machine_count, symbol_count, sound_counts, counted, parts_of}

pub record Counted (K S : ℕ) : Type 0 where
  pub some_machine : 1 ≤ K
  pub machines : K ≤ 6
  pub some_symbol : 1 ≤ S
  pub symbols : S ≤ 63

pub counts_told : (K S : ℕ) → sound_counts K S ≡ true → Counted K S
counts_told K S e =
    let a = leb 1 K in
    let b = leb K 6 in
    let c = leb 1 S in
    let d = leb S 63 in
    let abc = left (a && b && c) d e in
    let ab = left (a && b) c abc in
    record {
      some_machine = leb-true 1 K (left a b ab);
      machines = leb-true K 6 (right a b ab);
      some_symbol = leb-true 1 S (right (a && b) c abc);
      symbols = leb-true S 63 (right (a && b && c) d e);
    }

pub counts_hold : (K S : ℕ) → Counted K S → sound_counts K S ≡ true
counts_hold K S c = rw (le-leb 1 K c.some_machine, le-leb K 6 c.machines, le-leb 1 S c.some_symbol, le-leb S 63 c.symbols)

-- refusal 1 was not met: both counts are there, and in range
pub record Headed (card : List ℕ) : Type 0 where
  pub two : 2 ≤ length card
  pub counts : Counted (machine_count card) (symbol_count card)

pub head_told : (card : List ℕ) → counted card ≡ true → Headed card
unfolding counted
head_told card e =
    let a = leb 2 (length card) in
    let b = sound_counts (machine_count card) (symbol_count card) in
    record { two = leb-true 2 (length card) (left a b e); counts = counts_told (machine_count card) (symbol_count card) (right a b e) }

-- the parts of a card, one for each machine
pub length_parts : (card : List ℕ) → length (parts_of card) ≡ machine_count card
unfolding parts_of
length_parts card = length-parts-in (machine_count card) card

pub part_at : (card : List ℕ) (i : ℕ) → i < machine_count card → (d : List ℕ) → get_or (parts_of card) i d ≡ part_of card i
unfolding parts_of
part_at card = part_in_at (machine_count card) card
