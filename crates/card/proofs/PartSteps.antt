-- How the check of parts in turn goes on and ends. Assumes nothing.
use Rattle.std.specs.Prelude.{◌≡◌, ◌∷◌, ◌+◌, ◌*◌, ◌-◌, ◌^◌, ◌<◌, ◌≤◌}
use Rattle.basics.specs.Words.{refl, ap, sym, ◌∙◌, List, [], map, ℕ, zero, suc, arith, length, get_or, take, drop, drop_of_length-le, leb, lit<, drop-cons, drop-drop, one-mul, mul-one, mul_assoc, mul-le-mul, pow-suc, pow-le-pow_right, add-one, product}
use Rattle.refusals.specs.Refusals.{refuse, first_of}
use Rattle.refusals.proofs.Refusals.{last_one}
use Rattle.machine.specs.Part.{state_count, part_refusal}
use Rattle.card.specs.Card.{parts_refusal, few_states}
use Rattle.card.specs.Packing.{split}

-- the refusal of the parts that are left, where the state counts of those before them have a product
abbrev pub parts_left : ℕ → ℕ → List (List ℕ) → ℕ
parts_left states S parts = first_of (parts_refusal S parts ∷ refuse 6 (leb (states * product (map state_count parts)) 128) ∷ [])

pub parts_start : (S : ℕ) (parts : List (List ℕ)) → parts_left 1 S parts ≡ first_of (parts_refusal S parts ∷ refuse 6 (few_states parts) ∷ [])
parts_start S parts = ap (λ (n : ℕ). first_of (parts_refusal S parts ∷ refuse 6 (leb n 128) ∷ [])) (one-mul (product (map state_count parts)))

module _ (states S : ℕ) where
  pub parts_on : (part : List ℕ) (parts : List (List ℕ)) → part_refusal S part ≡ 0 → parts_left states S (part ∷ parts) ≡ parts_left (states * state_count part) S parts
  unfolding parts_refusal product
  parts_on part parts e = rw (e, mul_assoc states (state_count part) (product (map state_count parts)))

  pub parts_stop : (part : List ℕ) (parts : List (List ℕ)) → 0 < part_refusal S part → parts_left states S (part ∷ parts) ≡ part_refusal S part
  unfolding parts_refusal
  parts_stop part parts h = go (part_refusal S part) refl h
    where
      go : (n : ℕ) → part_refusal S part ≡ n → 0 < n → parts_left states S (part ∷ parts) ≡ n
      go zero e h = absurd (omega arith)
      go (suc n) e h = rw e

  pub parts_end : parts_left states S [] ≡ refuse 6 (leb states 128)
  unfolding parts_refusal product
  parts_end = rw (mul-one states) (last_one (refuse 6 (leb states 128)))

-- the parts from part i on, which start at an offset: the slice of the next, and the others
split_next : (ns : List ℕ) (i : ℕ) (bytes : List ℕ) (offset size : ℕ) → i < length ns → size ≡ get_or ns i 0
    → split (drop i ns) (drop offset bytes) ≡ take (offset + size - offset) (drop offset bytes) ∷ split (drop (i + 1) ns) (drop (offset + size) bytes)
unfolding split
split_next ns i bytes offset size h e =
    let rest = drop offset bytes in
    let f : offset + size - offset ≡ size = omega arith in
    ap (λ (l : List ℕ). split l rest) (drop-cons ns i 0 h)
    ∙ ap (λ (n : ℕ). take n rest ∷ split (drop (suc i) ns) (drop n rest)) (sym e)
    ∙ ap (λ (l : List ℕ). take size rest ∷ split (drop (suc i) ns) l) (drop-drop size offset bytes)
    ∙ ap (λ (k : ℕ). take size rest ∷ split (drop k ns) (drop (offset + size) bytes)) (sym (add-one i))
    ∙ ap (λ (n : ℕ). take n rest ∷ split (drop (i + 1) ns) (drop (offset + size) bytes)) (sym f)

-- a loop over the parts, whose answer z is that of the parts that are left
module _ (S states : ℕ) (ns bytes : List ℕ) (i offset z : ℕ) (left : parts_left states S (split (drop i ns) (drop offset bytes)) ≡ z) where
  pub check_on : (size : ℕ) → i < length ns → size ≡ get_or ns i 0 → part_refusal S (take (offset + size - offset) (drop offset bytes)) ≡ 0
      → parts_left (states * state_count (take (offset + size - offset) (drop offset bytes))) S (split (drop (i + 1) ns) (drop (offset + size) bytes)) ≡ z
  check_on size h e p =
      sym (parts_on states S (take (offset + size - offset) (drop offset bytes)) (split (drop (i + 1) ns) (drop (offset + size) bytes)) p)
      ∙ ap (parts_left states S) (sym (split_next ns i bytes offset size h e))
      ∙ left

  pub check_stop : (size : ℕ) → i < length ns → size ≡ get_or ns i 0 → 0 < part_refusal S (take (offset + size - offset) (drop offset bytes))
      → part_refusal S (take (offset + size - offset) (drop offset bytes)) ≡ z
  check_stop size h e p =
      sym (parts_stop states S (take (offset + size - offset) (drop offset bytes)) (split (drop (i + 1) ns) (drop (offset + size) bytes)) p)
      ∙ ap (parts_left states S) (sym (split_next ns i bytes offset size h e))
      ∙ left

  pub check_end : length ns ≤ i → refuse 6 (leb states 128) ≡ z
  unfolding split
  check_end h =
      sym (parts_end states S)
      ∙ ap (λ (l : List ℕ). parts_left states S (split l (drop offset bytes))) (sym (drop_of_length-le ns h))
      ∙ left

-- a product of counts up to 32
pub product_next : (states i Q : ℕ) → states ≤ 32 ^ i → Q ≤ 32 → states * Q ≤ 32 ^ (i + 1)
product_next states i Q h k = rw (add-one i, pow-suc 32 i) (mul-le-mul h k)

pub product_small : (states i : ℕ) → states ≤ 32 ^ i → i ≤ 6 → states < 2 ^ 64
product_small states i h k = omega (arith, pow-le-pow_right {n = 32} (lit< tt) k)
