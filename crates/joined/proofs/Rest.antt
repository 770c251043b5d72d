-- How loops over a list go on: a test of all that is left, and bytes that are still to be written. Assumes nothing.
use Rattle.std.specs.Prelude.{◌≡◌, ◌∷◌, ◌+◌, ◌-◌, ◌/◌, ◌%◌, ◌<◌, ◌≤◌}
use Rattle.basics.proofs.Words.{refl, ap, sym, ◌∙◌, Bool, true, false, List, [], map, ℕ, arith, length, get_or, drop, set, length-append, all_of, joined, left_at, left_none, all_none, all_next, all_fails}
use Rattle.joined.specs.MachineBytes.{little_endian}
use Rattle.joined.specs.Writing.{placed}
use Rattle.joined.specs.Laws.Placed.{placed_none, placed_length, placed_next, placed_step}
use Rattle.joined.specs.Laws.Writing.{digit_next, joined_left, joined_end}

-- every element that is left passes exactly when z
module _ {A : Type 0} (f : A → Bool) (xs : List A) (i : ℕ) (z : Bool) (inv : all_of f (drop i xs) ≡ z) where
  pub all_go_on : (d : A) → i < length xs → f (get_or xs i d) ≡ true → all_of f (drop (i + 1) xs) ≡ z
  all_go_on d h t = all_next f (left_at xs i d h) t ∙ inv

  pub all_stop : (d : A) → i < length xs → f (get_or xs i d) ≡ false → false ≡ z
  all_stop d h t = sym (all_fails f (left_at xs i d h) t) ∙ inv

  pub all_end : length xs ≤ i → true ≡ z
  all_end h = sym (all_none f (left_none xs i h)) ∙ inv

-- the bytes of the elements from i on are still to be written to t, from a place on to an end; then it is z, of the length n
pub record Rest {A : Type 0} (f : A → List ℕ) (xs : List A) (z : List ℕ) (end n i next : ℕ) (t : List ℕ) : Type 0 where
  pub place : next + length (joined f (drop i xs)) ≡ end
  pub room : end ≤ n
  pub size : length t ≡ n
  pub rest : placed next (joined f (drop i xs)) t ≡ z

module _ {A : Type 0} (f : A → List ℕ) (xs : List A) where
  pub rest_start : (at : ℕ) (t : List ℕ) → at + length (joined f xs) ≤ length t → Rest f xs (placed at (joined f xs) t) (at + length (joined f xs)) (length t) 0 at t
  rest_start at t h = record { place = refl; room = h; size = refl; rest = refl }

  module _ {z : List ℕ} {end n i next : ℕ} {t : List ℕ} (r : Rest f xs z end n i next t) where
    left_size : (d : A) → i < length xs → length (joined f (drop i xs)) ≡ length (f (get_or xs i d)) + length (joined f (drop (i + 1) xs))
    left_size d h = ap length (joined_left xs i f d h) ∙ length-append (f (get_or xs i d)) (joined f (drop (i + 1) xs))

    pub rest_room : (d : A) → i < length xs → next + length (f (get_or xs i d)) ≤ n
    rest_room d h = omega (arith, left_size d h, r.place, r.room)

    pub rest_next : (d : A) → i < length xs → (after : ℕ) (t' : List ℕ) → t' ≡ placed next (f (get_or xs i d)) t → after ≡ next + length (f (get_or xs i d)) → Rest f xs z end n (i + 1) after t'
    rest_next d h after t' e p =
        let x = f (get_or xs i d) in
        let room = rest_room d h in
        record {
          place = omega (arith, p, left_size d h, r.place);
          room = r.room;
          size = ap length e ∙ placed_length next x t (omega (arith, room, r.size)) ∙ r.size;
          rest =
              ap (λ (k : ℕ). placed k (joined f (drop (i + 1) xs)) t') p
              ∙ ap (placed (next + length x) (joined f (drop (i + 1) xs))) e
              ∙ placed_next next x (joined f (drop (i + 1) xs)) t (omega (arith, room, r.size))
              ∙ ap (λ (l : List ℕ). placed next l t) (sym (joined_left xs i f d h))
              ∙ r.rest;
        }

    pub rest_end : length xs ≤ i → (t ≡ z) × (next ≡ end)
    rest_end h =
        let e = joined_end xs i f h in
        (sym (placed_none next t) ∙ ap (λ (l : List ℕ). placed next l t) (sym e) ∙ r.rest, omega (arith, ap length e, r.place))

-- one byte for each element
pub as_joined : {A : Type 0} (f : A → ℕ) (xs : List A) → map f xs ≡ joined (λ x. f x ∷ []) xs
unfolding joined
as_joined f [] = refl
as_joined f (x ∷ xs) = ap (λ (l : List ℕ). f x ∷ l) (as_joined f xs)

-- the digits of a number
pub number_next : (at i left : ℕ) (t z : List ℕ) → i < 8 → at + i < length t → placed (at + i) (little_endian (8 - i) left) t ≡ z
    → placed (at + (i + 1)) (little_endian (8 - (i + 1)) (left / 256)) (set t (at + i) (left % 256)) ≡ z
number_next at i left t z h room e =
    let rest = little_endian (8 - (i + 1)) (left / 256) in
    let p : at + (i + 1) ≡ at + i + 1 = omega arith in
    let q : 8 - (i + 1) ≡ 8 - i - 1 = omega arith in
    ap (λ (k : ℕ). placed k rest (set t (at + i) (left % 256))) p
    ∙ placed_step (at + i) (left % 256) rest t room
    ∙ ap (λ (k : ℕ). placed (at + i) (left % 256 ∷ little_endian k (left / 256)) t) q
    ∙ ap (λ (l : List ℕ). placed (at + i) l t) (sym (digit_next (8 - i) left (omega (arith, h))))
    ∙ e
