-- What closing a position does: labels taken apart into counts and written, code by code.
use Rattle.std.specs.Prelude.{◌≡◌, ◌+◌, ◌*◌, ◌/◌, ◌%◌, ◌^◌, ◌<◌, ◌≤◌}
use Rattle.basics.specs.Words.{refl, sym, ◌∙◌, ap, subst, List, Option, some, none, Option·none-ne-some, ℕ, arith, length, set, length-set, get_or-set_same, get_or-set_other}
use Rattle.paths.specs.Ranked.{Ranked}
use Rattle.tables.specs.Work.{label_of, AlikeAt, Stored}
use Rattle.tables.specs.LabelCost.{AllShort}
use Rattle.tables.proofs.Work.{labelled, unlabelled, label_alike, alike_numbers}
use Rattle.settling.specs.Packing.{packed_path}
use Rattle.cells.specs.declared.Cell.{Cell}
use Rattle.cells.specs.Cells.{nowhere}
use Rattle.cells.specs.Labels.{cell_at}
use Rattle.cells.specs.Laws.Trying.{label_there, label_none}
use Rattle.closing.specs.CountsPacking.{first_counts, last_counts, counts_packing}
use Rattle.closing.specs.Closing.{CountsHeld, CountsStored, CountsPre, CountsClosed}
use Rattle.closing.proofs.Writing.{written_start, written_next}

-- a node whose numbers stay keeps its label
still_held : {xs ys : List ℕ} {w : ℕ} {o : Option (Ranked 1)} → AlikeAt xs ys w → CountsHeld xs w o → CountsHeld ys w o
still_held a h = record { stored = h.stored ∙ sym (ap (packed_path counts_packing) (label_alike a)); short = λ k e. h.short k (sym (label_alike a) ∙ e) }

-- ---- two numbers taken apart into counts

parts : (x : ℕ) → x / 65536 * 65536 + x % 65536 ≡ x
parts x = omega arith

three_parts : (x y a b c : ℕ) → a * 65536 + b ≡ y → y * 65536 + c ≡ x → a * 4294967296 + b * 65536 + c ≡ x
three_parts x y a b c p q = omega arith

four_parts : (x y a b c d : ℕ) → a * 4294967296 + b * 65536 + c ≡ y → y * 65536 + d ≡ x → a * 281474976710656 + b * 4294967296 + c * 65536 + d ≡ x
four_parts x y a b c d p q = omega arith

rest_few : (x : ℕ) → x % 65536 < 65536
rest_few x = omega arith

front_few : (x : ℕ) → x < 2 ^ 48 → x / 65536 / 65536 < 65536
front_few x h = let a : x / 65536 < 2 ^ 32 = omega arith in omega (arith, a)

pub first_few : (h : ℕ) → h < 2 ^ 56 → h / 256 / 65536 / 65536 < 65536
first_few h k = front_few (h / 256) (omega arith)

module _ (h l : ℕ) where
  abbrev pub counts_of : Ranked 6
  counts_of = (h / 256 / 65536 / 65536, (h / 256 / 65536 % 65536, (h / 256 % 65536, (l / 65536 / 65536 / 65536, (l / 65536 / 65536 % 65536, (l / 65536 % 65536, l % 65536))))))

  first_are : first_counts counts_of ≡ h / 256
  first_are = three_parts (h / 256) (h / 256 / 65536) (h / 256 / 65536 / 65536) (h / 256 / 65536 % 65536) (h / 256 % 65536) (parts (h / 256 / 65536)) (parts (h / 256))

  last_are : last_counts counts_of ≡ l
  last_are =
      four_parts l (l / 65536) (l / 65536 / 65536 / 65536) (l / 65536 / 65536 % 65536) (l / 65536 % 65536) (l % 65536)
      (three_parts (l / 65536) (l / 65536 / 65536) (l / 65536 / 65536 / 65536) (l / 65536 / 65536 % 65536) (l / 65536 % 65536) (parts (l / 65536 / 65536)) (parts (l / 65536)))
      (parts l)

  packed_are : packed_path counts_packing (some counts_of) ≡ some (h / 256, l)
  unfolding counts_packing
  packed_are = λ i. some (first_are i, last_are i)

  counts_short : h < 2 ^ 56 → l < 2 ^ 64 → AllShort 6 counts_of
  counts_short p q = (first_few h p, (rest_few (h / 256 / 65536), (rest_few (h / 256), (front_few (l / 65536) (omega arith), (rest_few (l / 65536 / 65536), (rest_few (l / 65536), rest_few l))))))

  -- ---- and written

  abbrev cell : Cell
  cell = record { high = h; low = l }

  pub label_stored : (xs ys : List ℕ) (u : ℕ) → h < nowhere → h < 2 ^ 56 → l < 2 ^ 64 → Stored xs ys u counts_of → CountsStored xs ys u h l
  label_stored xs ys u k p q s = record {
    size = s.size;
    held = record { stored = label_there cell k ∙ sym (ap (packed_path counts_packing) is ∙ packed_are); short = λ c e. let z : counts_of ≡ c = cc (is, e) in subst (AllShort 6) z (counts_short p q) };
    others = λ w o n. still_held (s.others w n);
  }
    where
      is : label_of ys u ≡ some counts_of
      is = labelled ys u (λ e. omega (arith, s.state)) ∙ ap some s.cost

  pub none_stored : (xs : List ℕ) (u : ℕ) → u * 8 + 7 < length xs → nowhere ≤ h → CountsStored xs (set xs (u * 8) 0) u h l
  none_stored xs u r k = record {
    size = length-set xs (u * 8) 0;
    held = record { stored = label_none cell k ∙ sym (ap (packed_path counts_packing) is); short = λ c e. absurd (Option·none-ne-some c (sym is ∙ e)) };
    others = λ w o n. still_held (alike_numbers xs (set xs (u * 8) 0) w (λ j a b. get_or-set_other xs (u * 8) j 0 0 (λ e. n (omega arith))));
  }
    where
      is : label_of (set xs (u * 8) 0) u ≡ none
      is = unlabelled (set xs (u * 8) 0) u (get_or-set_same xs (u * 8) 0 0 (omega arith))

-- ---- the loop: the labels of the codes below n are written

pub stored_start : (work own : List ℕ) (base : ℕ) → CountsClosed work work own base 0
stored_start work own base = record { size = refl; written = written_start }

module _ {work work' own : List ℕ} {base n : ℕ} (B : CountsClosed work work' own base n) where
  pub has_node : {P : ℕ} → CountsPre work own base P → n < P → (base + n) * 8 + 7 < length work'
  has_node pre k = omega (arith, B.size, pre.nodes)

  pub stored_next : {work'' : List ℕ} → CountsStored work' work'' (base + n) (cell_at own n).high (cell_at own n).low → CountsClosed work work'' own base (n + 1)
  stored_next S = record { size = S.size ∙ B.size; written = written_next B.written S.held S.others }
