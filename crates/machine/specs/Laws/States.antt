-- The state bytes of a part. Assumes nothing.
use Rattle.std.specs.Prelude.{◌≡◌, ◌∷◌, ◌+◌, ◌-◌, ◌<◌, ◌≤◌}
use Rattle.basics.specs.Words.{refl, sym, ap, ◌∙◌, true, List, map, Option, some, none, ℕ, zero, suc, arith, length, get_or, take, List·getD-map, List·getD-eq-default, slice, slice-cons, get_or-drop, get_or-take, add-one}
use Rattle.machine.specs.Machine.{ending_of}
use Rattle.machine.specs.Part.{state_count, state_bytes, ending_byte, machine_of, shaped}
use Rattle.machine.specs.Accepted.{state_count_lem}

-- the first of the bytes from a place to an end, and the others
pub bytes_cons : (l : List ℕ) (at end : ℕ) → at < end → end ≤ length l → slice at end l ≡ get_or l at 0 ∷ slice (at + 1) end l
bytes_cons l at end h e = rw add-one (slice-cons at end l 0 h e)

-- the marks of a byte that is not 0
less_one : (b : ℕ) → (b ≡ 0 → ⊥) → some (b - 1) ≡ ending_byte b
less_one zero h = absurd (h refl)
less_one (suc b) h = let e : suc b - 1 ≡ b = omega arith in ap {B = Option ℕ} some e

module _ (part : List ℕ) (s : ℕ) where
  -- a state's ending is what its byte says
  ending_at_lem : s < state_count part → ending_of (machine_of part) s ≡ ending_byte (get_or part (2 + s) 0)
  unfolding ending_of machine_of
  ending_at_lem h =
      let e : get_or (state_bytes part) s 0 ≡ get_or part (2 + s) 0 = get_or-drop 2 (take (2 + state_count part) part) s 0 ∙ get_or-take (2 + state_count part) part (2 + s) 0 (omega arith) in
      List·getD-map ending_byte (state_bytes part) s 0 ∙ ap ending_byte e

  pub not_final : (i : ℕ) → i ≡ s → s < state_count part → get_or part (2 + i) 0 ≡ 0 → none ≡ ending_of (machine_of part) s
  not_final i q h e = sym (ending_at_lem h ∙ ap ending_byte (ap (λ (n : ℕ). get_or part (2 + n) 0) (sym q) ∙ e))

  pub final : (i : ℕ) → i ≡ s → s < state_count part → (get_or part (2 + i) 0 ≡ 0 → ⊥) → some (get_or part (2 + i) 0 - 1) ≡ ending_of (machine_of part) s
  final i q h e =
      less_one (get_or part (2 + i) 0) e ∙ ap (λ (n : ℕ). ending_byte (get_or part (2 + n) 0)) q ∙ sym (ending_at_lem h)

  -- no other state is final
  pub no_state : shaped part ≡ true → state_count part ≤ s → none ≡ ending_of (machine_of part) s
  unfolding ending_of machine_of
  no_state t h =
      let e : length (map ending_byte (state_bytes part)) ≡ state_count part = state_count_lem part t in
      sym (List·getD-eq-default (map ending_byte (state_bytes part)) none (omega arith))
