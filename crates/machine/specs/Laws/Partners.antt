-- The symbols of a set that make a pair of an arc's kind with a symbol. Assumes nothing.
use Rattle.std.specs.Prelude.{◌≡◌, ◌&&◌, ◌^◌}
use Rattle.basics.proofs.Words.{refl, sym, ◌∙◌, ap, ap₂, Bool, true, false, not, and-true, and-false, and_self, and_comm, and_assoc, ℕ, zero, suc, eqb, member, eqb-true, eq-eqb, same, member_one, member_and}
use Rattle.std.specs.Int.Bits.{bit_and}
use Rattle.symbols.specs.Laws.Partners.{without_symbol_lem}
use Rattle.machine.specs.Symbols.{empty_symbol, pair_of}
use Rattle.machine.specs.SymbolSets.{partners}
use Rattle.machine.specs.Machine.{of_kind}
pub use Rattle.symbols.specs.Laws.Partners.{without_empty_lem}

-- in and out may be exchanged
eqb_swap : (x y : ℕ) → eqb x y ≡ eqb y x
eqb_swap x y = same (eqb x y) (eqb y x) (λ t. eq-eqb y x (sym (eqb-true x y t))) (λ t. eq-eqb x y (sym (eqb-true y x t)))

same_symbol : (x y : ℕ) → (not (eqb y empty_symbol) && eqb y x) ≡ (not (eqb x empty_symbol && eqb y empty_symbol) && eqb x y)
same_symbol x y = go (eqb y x) refl
  where
    go : (b : Bool) → eqb y x ≡ b → (not (eqb y empty_symbol) && eqb y x) ≡ (not (eqb x empty_symbol && eqb y empty_symbol) && eqb x y)
    go true e = rw (eqb_swap x y, eqb-true y x e, and_self (eqb x empty_symbol))
    go false e = rw (eqb_swap x y, e, and-false (not (eqb y empty_symbol)), and-false (not (eqb x empty_symbol && eqb y empty_symbol)))

-- the partners of an in are outs
pub out_partners : (kind set x y : ℕ) → member (partners kind set x) y ≡ (member set y && of_kind kind (pair_of x y))
unfolding partners of_kind
out_partners zero set x y = sym (and-true (member set y))
out_partners (suc zero) set x y =
    without_symbol_lem (bit_and set (2 ^ x)) empty_symbol y
    ∙ ap (λ (t : Bool). t && not (eqb y empty_symbol)) (member_and set (2 ^ x) y ∙ ap (λ (t : Bool). member set y && t) (member_one x y))
    ∙ and_assoc (member set y) (eqb y x) (not (eqb y empty_symbol))
    ∙ ap (λ (t : Bool). member set y && t) (and_comm (eqb y x) (not (eqb y empty_symbol)) ∙ same_symbol x y)
out_partners (suc (suc k)) set x y =
    without_symbol_lem set x y ∙ ap (λ (t : Bool). member set y && not t) (eqb_swap y x)

-- and those of an out are ins
kind_swap : (kind x y : ℕ) → of_kind kind (pair_of x y) ≡ of_kind kind (pair_of y x)
unfolding of_kind
kind_swap zero x y = refl
kind_swap (suc zero) x y = ap₂ (λ (a b : Bool). not a && b) (and_comm (eqb x empty_symbol) (eqb y empty_symbol)) (eqb_swap x y)
kind_swap (suc (suc k)) x y = ap not (eqb_swap x y)

pub in_partners : (kind set x y : ℕ) → member (partners kind set x) y ≡ (member set y && of_kind kind (pair_of y x))
in_partners kind set x y = out_partners kind set x y ∙ ap (λ (t : Bool). member set y && t) (kind_swap kind x y)
