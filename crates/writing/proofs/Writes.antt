-- Laws of texts written in a buffer, one after another. Assumes nothing.
use Rattle.std.specs.Prelude.{◌≡◌, ◌∷◌, ◌++◌, ◌+◌, ◌/◌, ◌%◌, ◌<◌, ◌≤◌}
use Rattle.basics.specs.Words.{refl, ap, sym, ◌∙◌, List, [], ℕ, arith, length, set, length-append, sets, length-sets, add-zero}
use Rattle.writing.specs.Decimal.{decimal}
use Rattle.writing.specs.Buffers.{Written, at_front}
use Rattle.writing.specs.DecimalRead.{decimal_digit, decimal_more}
use Rattle.writing.proofs.Lists.{sets_append, sets_front}

pub written_nil : (at : ℕ) (out : List ℕ) → Written [] at out out at
written_nil at out = record { place = sym (add-zero at); bytes = refl }

pub written_byte : (b at : ℕ) (out : List ℕ) → Written (b ∷ []) at out (set out at b) (at + 1)
written_byte b at out = record { place = refl; bytes = refl }

module _ {at next last : ℕ} {xs ys old mid new : List ℕ} where
  pub written_append : Written xs at old mid next → Written ys next mid new last → Written (xs ++ ys) at old new last
  written_append v w =
      record {
        place = w.place ∙ ap (λ (n : ℕ). n + length ys) v.place ∙ omega (arith, length-append xs ys);
        bytes =
            w.bytes
            ∙ ap (λ (n : ℕ). sets mid n ys) v.place
            ∙ ap (λ (l : List ℕ). sets l (at + length xs) ys) v.bytes
            ∙ sets_append old at xs ys;
      }

module _ {at next : ℕ} {text old new : List ℕ} where
  -- the buffer's length stays
  pub written_length : Written text at old new next → length new ≡ length old
  written_length w = ap length w.bytes ∙ length-sets old at text

-- what is still to be written, at a place in a buffer: then the whole will stand in the old buffer from its place on
pub record Ahead (rest : List ℕ) (next : ℕ) (out whole : List ℕ) (at : ℕ) (old : List ℕ) : Type 0 where
  pub place : next + length rest ≡ at + length whole
  pub bytes : sets out next rest ≡ sets old at whole

pub ahead_start : (whole : List ℕ) (at : ℕ) (old : List ℕ) → Ahead whole at old whole at old
ahead_start whole at old = record { place = refl; bytes = refl }

module _ {at next : ℕ} {out whole old : List ℕ} where
  pub ahead_end : {rest : List ℕ} → rest ≡ [] → Ahead rest next out whole at old → Written whole at old out next
  ahead_end e a = record { place = omega (arith, ap length e, a.place); bytes = ap (sets out next) (sym e) ∙ a.bytes }

  pub ahead_length : (rest : List ℕ) → Ahead rest next out whole at old → length out ≡ length old
  ahead_length rest a = sym (length-sets out next rest) ∙ ap length a.bytes ∙ length-sets old at whole

  -- the first part of what is still to be written fits, and when it is written the second part is still to be
  module _ (xs ys : List ℕ) {rest : List ℕ} (e : rest ≡ xs ++ ys) (a : Ahead rest next out whole at old) where
    pub ahead_room : at + length whole ≤ length old → next + length xs ≤ length out
    ahead_room h = omega (arith, a.place, ap length e ∙ length-append xs ys, ahead_length rest a)

    pub ahead_next : {new : List ℕ} {last : ℕ} → Written xs next out new last → Ahead ys last new whole at old
    ahead_next {new} {last} w =
        record {
          place = omega (arith, a.place, w.place, ap length e ∙ length-append xs ys);
          bytes =
              ap (λ (n : ℕ). sets new n ys) w.place
              ∙ ap (λ (l : List ℕ). sets l (next + length xs) ys) w.bytes
              ∙ sets_append out next xs ys
              ∙ ap (sets out next) (sym e)
              ∙ a.bytes;
        }

-- a text written at the front
module _ {next : ℕ} {text old new : List ℕ} (w : Written text 0 old new next) where
  pub front_place : next ≡ length text
  front_place = omega (arith, w.place)

  pub front_bytes : length text ≤ length old → new ≡ at_front text old
  front_bytes h = w.bytes ∙ sets_front text old h

-- the digits of a number
pub written_digit : (n at : ℕ) (out : List ℕ) → n < 10 → Written (decimal n) at out (set out at (48 + n)) (at + 1)
written_digit n at out h = rw (decimal_digit n h) (written_byte (48 + n) at out)

pub written_more : (n : ℕ) {at last : ℕ} {out mid : List ℕ} → 10 ≤ n → Written (decimal (n / 10)) at out mid last
    → Written (decimal n) at out (set mid last (48 + n % 10)) (last + 1)
written_more n h w = rw (decimal_more n h) (written_append w (written_byte _ _ _))
