use Rattle.std.specs.Prelude.{◌≡◌, ◌||◌, ◌^◌, ◌<◌}
use Rattle.basics.proofs.Words.{refl, sym, subst, false, not, ℕ, arith, eqb, eqb-false, left_fails, right_fails}
use lib.Bits.{bit_or, and_le_r, or_lt, or_add_and}
use lib.Count.{count_trailing_zeros}
use Rattle.machine.specs.Laws.SymbolSets.{least_at}
use Rattle.joined.specs.CommonPairs.{HasPair}
use Rattle.joined.specs.Laws.CommonPairs.{any_in, same_in, unlike_in}
use Rattle.joined.proofs.has_pair.Goals as goal

-- neither set is empty
some_input : (I O : ℕ) → (eqb I 0 || eqb O 0) ≡ false → I ≡ 0 → ⊥
some_input I O f = eqb-false I 0 (left_fails (eqb I 0) (eqb O 0) f)

some_output : (I O : ℕ) → (eqb I 0 || eqb O 0) ≡ false → O ≡ 0 → ⊥
some_output I O f = eqb-false O 0 (right_fails (eqb I 0) (eqb O 0) f)

all_pos : (I O : ℕ) → (eqb I 0 || eqb O 0) ≡ false → 0 < bit_or I O
all_pos I O f = omega (arith, or_add_and I O, and_le_r I O, some_input I O f)

pub returns-then-kind-eq0 : goal.returns-then-kind-eq0
returns-then-kind-eq0 c =
    let I = c.args.inputs in
    let O = c.args.outputs in
    let fi : I < 2 ^ 64 = omega (arith, c.ranges.inputs) in
    let fo : O < 2 ^ 64 = omega (arith, c.ranges.outputs) in
    subst (λ (w : ℕ). HasPair c.args.kind I O (not (eqb w 0))) (sym c.without_empty.ensures)
    (any_in c.args.kind I O fi fo (some_input I O c.if-inputs-outputs.false) (some_output I O c.if-inputs-outputs.false) c.if-kind-eq0.true (bit_or I O) (or_lt 64 I O fi fo) refl)

pub returns-then-kind-eq1 : goal.returns-then-kind-eq1
returns-then-kind-eq1 c =
    let I = c.args.inputs in
    let O = c.args.outputs in
    let fi : I < 2 ^ 64 = omega (arith, c.ranges.inputs) in
    let fo : O < 2 ^ 64 = omega (arith, c.ranges.outputs) in
    subst (λ (w : ℕ). HasPair c.args.kind I O (not (eqb w 0))) (sym c.without_empty-then-kind-eq1.ensures)
    (same_in c.args.kind I O fi fo (some_input I O c.if-inputs-outputs.false) (some_output I O c.if-inputs-outputs.false) c.if-kind-eq1.true)

pub without_least-requires : goal.without_least-requires
without_least-requires c = all_pos c.args.inputs c.args.outputs c.if-inputs-outputs.false

pub returns : goal.returns
returns c =
    let I = c.args.inputs in
    let O = c.args.outputs in
    let fi : I < 2 ^ 64 = omega (arith, c.ranges.inputs) in
    let fo : O < 2 ^ 64 = omega (arith, c.ranges.outputs) in
    let U = bit_or I O in
    let small = or_lt 64 I O fi fo in
    let t = least_at 64 U (all_pos I O c.if-inputs-outputs.false) small in
    unlike_in c.args.kind I O fi fo (some_input I O c.if-inputs-outputs.false) (some_output I O c.if-inputs-outputs.false) c.if-kind-eq0.false c.if-kind-eq1.false U c.without_least.result (count_trailing_zeros 64 U) refl
    (omega (arith, c.without_least.ensures.0, small)) t.below t.has c.without_least.ensures.1
