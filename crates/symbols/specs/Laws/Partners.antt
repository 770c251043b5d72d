-- A set without a symbol, and the symbols of a set by kind. Assumes nothing.
use Rattle.std.specs.Prelude.{◌≡◌, ◌&&◌, ◌/◌, ◌%◌, ◌^◌, ◌<◌}
use Rattle.basics.proofs.Words.{refl, ◌∙◌, ap, Bool, not, and_comm, ℕ, zero, suc, arith, eqb, member, member_one, member_and}
use Rattle.std.specs.Int.Bits.{bit_and, bit_xor, differ, xor_step}
use Rattle.std.proofs.lemmas.Nat.{xor_shr}
use Rattle.symbols.specs.Symbols.{empty_symbol}
use Rattle.symbols.specs.SymbolSets.{without_symbol, without_empty, partners}

-- a set without the symbol x
bit_differ : (a b : ℕ) → a < 2 → b < 2 → (eqb a 1 && eqb (differ a b) 1) ≡ (eqb a 1 && not (eqb b 1))
bit_differ zero b h k = refl
bit_differ (suc zero) zero h k = refl
bit_differ (suc zero) (suc zero) h k = refl
bit_differ (suc zero) (suc (suc b)) h k = absurd (omega arith)
bit_differ (suc (suc a)) b h k = absurd (omega arith)

differ_small : (a b : ℕ) → a < 2 → b < 2 → differ a b < 2
differ_small zero b h k = k
differ_small (suc zero) zero h k = h
differ_small (suc zero) (suc zero) h k = omega arith
differ_small (suc zero) (suc (suc b)) h k = absurd (omega arith)
differ_small (suc (suc a)) b h k = absurd (omega arith)

pub without_symbol_lem : (w x n : ℕ) → member (without_symbol w x) n ≡ (member w n && not (eqb n x))
without_symbol_lem w x n =
    let a = w / 2 ^ n in
    let b = 2 ^ x / 2 ^ n in
    let e : bit_xor a b % 2 ≡ differ (a % 2) (b % 2) = omega (arith, xor_step a b, differ_small (a % 2) (b % 2) (omega arith) (omega arith)) in
    member_and w (bit_xor w (2 ^ x)) n
    ∙ ap (λ (k : ℕ). member w n && eqb (k % 2) 1) (xor_shr w (2 ^ x) n)
    ∙ ap (λ (k : ℕ). member w n && eqb k 1) e
    ∙ bit_differ (a % 2) (b % 2) (omega arith) (omega arith)
    ∙ ap (λ (t : Bool). member w n && not t) (member_one x n)

pub without_empty_lem : (w n : ℕ) → member (without_empty w) n ≡ (not (eqb n empty_symbol) && member w n)
without_empty_lem w n = without_symbol_lem w empty_symbol n ∙ and_comm (member w n) (not (eqb n empty_symbol))

-- by kind
pub any_partners : (kind set x : ℕ) → kind ≡ 0 → set ≡ partners kind set x
unfolding partners
any_partners zero set x e = refl
any_partners (suc k) set x e = absurd (omega arith)

pub same_partners : (kind set one x : ℕ) → kind ≡ 1 → one ≡ 2 ^ x → without_empty (bit_and set one) ≡ partners kind set x
unfolding partners
same_partners zero set one x e q = absurd (omega arith)
same_partners (suc zero) set one x e q = ap (λ (n : ℕ). without_empty (bit_and set n)) q
same_partners (suc (suc k)) set one x e q = absurd (omega arith)

pub unlike_partners : (kind set x : ℕ) → (kind ≡ 0 → ⊥) → (kind ≡ 1 → ⊥) → without_symbol set x ≡ partners kind set x
unfolding partners
unlike_partners zero set x n m = absurd (n refl)
unlike_partners (suc zero) set x n m = absurd (m refl)
unlike_partners (suc (suc k)) set x n m = refl
