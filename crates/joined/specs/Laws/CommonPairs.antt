-- Whether two arcs take a common pair, by their kinds and the sets that they share. Assumes nothing.
use Rattle.std.specs.Prelude.{◌≡◌, ◌&&◌, ◌||◌, ◌⊎◌, ◌^◌, ◌<◌}
use Rattle.basics.proofs.Words.{refl, sym, ap, ◌∙◌, Bool, true, false, not, or-true, inl, inr, ℕ, zero, suc, arith, eqb, ℕ_discrete, member, same, both, left, right, either, fails, clash, has_member, its_member, member_and, member_or}
use Rattle.std.specs.Int.Bits.{bit_and, bit_or, bit_xor}
use Rattle.std.proofs.lemmas.Nat.{and_le_l}
use Rattle.std.proofs.Common.{eqb-true, eq-eqb, ne_eqb}
use Rattle.std.proofs.lemmas.Bool.{eqb-false, not-true}
use Rattle.machine.specs.declared.Arc.{Arc}
use Rattle.machine.specs.declared.Pair.{Pair}
use Rattle.machine.specs.Symbols.{empty_symbol, is_pair}
use Rattle.machine.specs.SymbolSets.{without_empty}
use Rattle.machine.specs.Machine.{of_kind, takes, take_one_pair}
use Rattle.machine.specs.CommonPair.{take_one, common_pair}
use Rattle.machine.specs.Laws.Partners.{without_empty_lem}
use Rattle.joined.specs.JoinedMachine.{joined_kind}
use Rattle.joined.specs.Laws.KindsInCommon.{no_common_kind, kinds_joined}
use Rattle.joined.specs.CommonPairs.{kinds_clash, PairIn, HasPair}

-- ---- pairs of a kind in two sets, each of 64 bits

-- a pair is one if in and out are not both 0
made : (x y : ℕ) → (0 < x) ⊎ (0 < y) → is_pair (record { input = x; output = y }) ≡ true
made x y h = ap not (fails (eqb x 0 && eqb y 0) (λ t. go (eqb-true x 0 (left (eqb x 0) (eqb y 0) t)) (eqb-true y 0 (right (eqb x 0) (eqb y 0) t)) h))
  where
    go : x ≡ 0 → y ≡ 0 → (0 < x) ⊎ (0 < y) → ⊥
    go a b (inl h) = omega (arith, a, h)
    go a b (inr h) = omega (arith, b, h)

-- a set has a symbol that is not 0 exactly if it has one without the empty symbol
its_symbol : (w : ℕ) → w < 2 ^ 64 → (without_empty w ≡ 0 → ⊥) → (i : ℕ) × (i < 64) × (0 < i) × (member w i ≡ true)
its_symbol w h n =
    let q = its_member 64 (without_empty w) (omega (arith, h, and_le_l w (bit_xor w (2 ^ empty_symbol)))) (omega (arith, n)) in
    let m : (not (eqb q.0 empty_symbol) && member w q.0) ≡ true = sym (without_empty_lem w q.0) ∙ q.2 in
    let d = eqb-false q.0 empty_symbol (not-true (eqb q.0 empty_symbol) (left (not (eqb q.0 empty_symbol)) (member w q.0) m)) in
    (q.0, q.1, omega (arith, d), right (not (eqb q.0 empty_symbol)) (member w q.0) m)

has_symbol : (w i : ℕ) → 0 < i → member w i ≡ true → without_empty w ≡ 0 → ⊥
has_symbol w i h m e =
    let p = has_member (without_empty w) i (without_empty_lem w i ∙ both (ap not (ne_eqb i empty_symbol (omega (arith, h)))) m) in
    omega (arith, p, e)

same_kind : (k : ℕ) (p : Pair) → k ≡ 1 → of_kind k p ≡ (is_pair p && eqb p.input p.output)
unfolding of_kind
same_kind k p e = rw e

unlike_kind : (k : ℕ) (p : Pair) → (k ≡ 0 → ⊥) → (k ≡ 1 → ⊥) → of_kind k p ≡ not (eqb p.input p.output)
unfolding of_kind
unlike_kind zero p n m = absurd (n refl)
unlike_kind (suc zero) p n m = absurd (m refl)
unlike_kind (suc (suc k)) p n m = refl

any_kind : (k : ℕ) (p : Pair) → k ≡ 0 → of_kind k p ≡ true
unfolding of_kind
any_kind k p e = rw e

-- a set that is empty
pub none_in : (kind I O : ℕ) → (I ≡ 0) ⊎ (O ≡ 0) → HasPair kind I O false
none_in kind I O e = record { found = λ t. absurd (clash refl (sym t)); missed = λ q. absurd (go q e) }
  where
    go : PairIn kind I O → (I ≡ 0) ⊎ (O ≡ 0) → ⊥
    go q (inl e) = let h = has_member I q.pair.input q.in_set in omega (arith, h, e)
    go q (inr e) = let h = has_member O q.pair.output q.out_set in omega (arith, h, e)

module _ (kind I O : ℕ) (hi : I < 2 ^ 64) (ho : O < 2 ^ 64) (si : I ≡ 0 → ⊥) (so : O ≡ 0 → ⊥) where
  an_input : (x : ℕ) × (x < 64) × (member I x ≡ true)
  an_input = its_member 64 I hi (omega (arith, si))

  an_output : (y : ℕ) × (y < 64) × (member O y ≡ true)
  an_output = its_member 64 O ho (omega (arith, so))

  -- kind 0: one of the sets has a symbol that is not 0
  pub any_in : kind ≡ 0 → (U : ℕ) → U < 2 ^ 64 → U ≡ bit_or I O → HasPair kind I O (not (eqb (without_empty U) 0))
  any_in k U hU e = record { found = found; missed = missed }
    where
      found : not (eqb (without_empty U) 0) ≡ true → PairIn kind I O
      found t =
          let z = its_symbol U hU (eqb-false (without_empty U) 0 (not-true (eqb (without_empty U) 0) t)) in
          go z.0 z.1 z.2 (either (member I z.0) (member O z.0) (sym (member_or I O z.0) ∙ ap (λ w. member w z.0) (sym e) ∙ z.3))
        where
          go : (z : ℕ) → z < 64 → 0 < z → (member I z ≡ true) ⊎ (member O z ≡ true) → PairIn kind I O
          go z h p (inl m) = record { pair = record { input = z; output = an_output.0 }; input = h; output = an_output.1; is_pair_lem = made z an_output.0 (inl p); in_set = m; out_set = an_output.2; kind_is = any_kind kind _ k }
          go z h p (inr m) = record { pair = record { input = an_input.0; output = z }; input = an_input.1; output = h; is_pair_lem = made an_input.0 z (inr p); in_set = an_input.2; out_set = m; kind_is = any_kind kind _ k }

      missed : PairIn kind I O → not (eqb (without_empty U) 0) ≡ true
      missed q = ap not (ne_eqb (without_empty U) 0 (λ z. go (eqb q.pair.input 0) refl z))
        where
          in_union : (i : ℕ) → (member I i ≡ true) ⊎ (member O i ≡ true) → member U i ≡ true
          in_union i (inl m) = ap (λ w. member w i) e ∙ member_or I O i ∙ ap (λ b. b || member O i) m
          in_union i (inr m) = ap (λ w. member w i) e ∙ member_or I O i ∙ ap (λ b. member I i || b) m ∙ or-true (member I i)

          go : (b : Bool) → eqb q.pair.input 0 ≡ b → without_empty U ≡ 0 → ⊥
          go false f z = has_symbol U q.pair.input (omega (arith, eqb-false q.pair.input 0 f)) (in_union q.pair.input (inl q.in_set)) z
          go true f z =
              let g : eqb q.pair.output 0 ≡ false = fails (eqb q.pair.output 0) (λ t. clash (both f t) (not-true (eqb q.pair.input 0 && eqb q.pair.output 0) q.is_pair_lem)) in
              has_symbol U q.pair.output (omega (arith, eqb-false q.pair.output 0 g)) (in_union q.pair.output (inr q.out_set)) z

  -- kind 1: both have a symbol that is not 0
  pub same_in : kind ≡ 1 → HasPair kind I O (not (eqb (without_empty (bit_and I O)) 0))
  same_in k = record { found = found; missed = missed }
    where
      found : not (eqb (without_empty (bit_and I O)) 0) ≡ true → PairIn kind I O
      found t =
          let z = its_symbol (bit_and I O) (omega (arith, hi, and_le_l I O)) (eqb-false (without_empty (bit_and I O)) 0 (not-true (eqb (without_empty (bit_and I O)) 0) t)) in
          let m = sym (member_and I O z.0) ∙ z.3 in
          let p : Pair = record { input = z.0; output = z.0 } in
          let i = made z.0 z.0 (inl z.2) in
          record {
            pair = p;
            input = z.1;
            output = z.1;
            is_pair_lem = i;
            in_set = left (member I z.0) (member O z.0) m;
            out_set = right (member I z.0) (member O z.0) m;
            kind_is = same_kind kind p k ∙ both i (eq-eqb z.0 z.0 refl);
          }

      missed : PairIn kind I O → not (eqb (without_empty (bit_and I O)) 0) ≡ true
      missed q =
          let x = q.pair.input in
          let y = q.pair.output in
          let s = sym (same_kind kind q.pair k) ∙ q.kind_is in
          let e : x ≡ y = eqb-true x y (right (is_pair q.pair) (eqb x y) s) in
          let p : x ≡ 0 → ⊥ = λ z. clash (both (eq-eqb x 0 z) (eq-eqb y 0 (sym e ∙ z))) (not-true (eqb x 0 && eqb y 0) q.is_pair_lem) in
          let m : member (bit_and I O) x ≡ true = member_and I O x ∙ both q.in_set (ap (λ n. member O n) e ∙ q.out_set) in
          ap not (ne_eqb (without_empty (bit_and I O)) 0 (has_symbol (bit_and I O) x (omega (arith, p)) m))

  -- kind 2: the two together have more symbols than one. R is what they have but for their least symbol t
  pub unlike_in : (kind ≡ 0 → ⊥) → (kind ≡ 1 → ⊥) → (U R t : ℕ) → U ≡ bit_or I O → R < 2 ^ 64 → t < 64 → member U t ≡ true → ((n : ℕ) → member R n ≡ (member U n && not (eqb n t))) → HasPair kind I O (not (eqb R 0))
  unlike_in n0 n1 U R t e hR ht mt rest = record { found = found; missed = missed }
    where
      unlike : (x y : ℕ) → (x ≡ y → ⊥) → x < 64 → y < 64 → member I x ≡ true → member O y ≡ true → PairIn kind I O
      unlike x y d hx hy mx my = record {
        pair = record { input = x; output = y };
        input = hx;
        output = hy;
        is_pair_lem = ap not (fails (eqb x 0 && eqb y 0) (λ t. d (eqb-true x 0 (left (eqb x 0) (eqb y 0) t) ∙ sym (eqb-true y 0 (right (eqb x 0) (eqb y 0) t)))));
        in_set = mx;
        out_set = my;
        kind_is = unlike_kind kind _ n0 n1 ∙ ap not (ne_eqb x y d);
      }

      -- with a symbol z of the two that is not x
      with_another : (x : ℕ) → x < 64 → member I x ≡ true → member O x ≡ true → (z : ℕ) → z < 64 → (z ≡ x → ⊥) → (member I z ≡ true) ⊎ (member O z ≡ true) → PairIn kind I O
      with_another x hx mi mo z hz d (inl m) = unlike z x d hz hx m mo
      with_another x hx mi mo z hz d (inr m) = unlike x z (λ q. d (sym q)) hx hz mi m

      of_either : (z : ℕ) → member U z ≡ true → (member I z ≡ true) ⊎ (member O z ≡ true)
      of_either z m = either (member I z) (member O z) (sym (member_or I O z) ∙ ap (λ w. member w z) (sym e) ∙ m)

      found : not (eqb R 0) ≡ true → PairIn kind I O
      found s = go (ℕ_discrete an_input.0 an_output.0)
        where
          z : (i : ℕ) × (i < 64) × (member R i ≡ true)
          z = its_member 64 R hR (omega (arith, eqb-false R 0 (not-true (eqb R 0) s)))

          zm : (member U z.0 && not (eqb z.0 t)) ≡ true
          zm = sym (rest z.0) ∙ z.2

          differ : z.0 ≡ t → ⊥
          differ = eqb-false z.0 t (not-true (eqb z.0 t) (right (member U z.0) (not (eqb z.0 t)) zm))

          go : Dec (an_input.0 ≡ an_output.0) → PairIn kind I O
          go (no d) = unlike an_input.0 an_output.0 d an_input.1 an_output.1 an_input.2 an_output.2
          go (yes q) = again (ℕ_discrete t an_input.0)
            where
              mo : member O an_input.0 ≡ true
              mo = ap (λ n. member O n) q ∙ an_output.2

              again : Dec (t ≡ an_input.0) → PairIn kind I O
              again (no d) = with_another an_input.0 an_input.1 an_input.2 mo t ht d (of_either t mt)
              again (yes p) = with_another an_input.0 an_input.1 an_input.2 mo z.0 z.1 (λ r. differ (r ∙ sym p)) (of_either z.0 (left (member U z.0) (not (eqb z.0 t)) zm))

      missed : PairIn kind I O → not (eqb R 0) ≡ true
      missed q = ap not (ne_eqb R 0 (λ z. go z (ℕ_discrete q.pair.input t)))
        where
          x : ℕ
          x = q.pair.input

          y : ℕ
          y = q.pair.output

          differ : x ≡ y → ⊥
          differ = eqb-false x y (not-true (eqb x y) (sym (unlike_kind kind q.pair n0 n1) ∙ q.kind_is))

          mx : member U x ≡ true
          mx = ap (λ w. member w x) e ∙ member_or I O x ∙ ap (λ b. b || member O x) q.in_set

          my : member U y ≡ true
          my = ap (λ w. member w y) e ∙ member_or I O y ∙ ap (λ b. member I y || b) q.out_set ∙ or-true (member I y)

          pos : (n : ℕ) → member U n ≡ true → (n ≡ t → ⊥) → R ≡ 0 → ⊥
          pos n m d z = let h = has_member R n (rest n ∙ both m (ap not (ne_eqb n t d))) in omega (arith, h, z)

          go : R ≡ 0 → Dec (x ≡ t) → ⊥
          go z (no d) = pos x mx d z
          go z (yes p) = pos y my (λ r. differ (p ∙ sym r)) z

-- ---- hence arcs

pub common_by_sets : (a b : Arc) (r : Bool) → HasPair (joined_kind a.kind b.kind) (bit_and a.inputs b.inputs) (bit_and a.outputs b.outputs) r
    → (not (kinds_clash a.kind b.kind) && r) ≡ take_one_pair a b
unfolding takes
common_by_sets a b r h = same (not (kinds_clash a.kind b.kind) && r) (take_one_pair a b) there back
  where
    I : ℕ
    I = bit_and a.inputs b.inputs

    O : ℕ
    O = bit_and a.outputs b.outputs

    there : (not (kinds_clash a.kind b.kind) && r) ≡ true → take_one_pair a b ≡ true
    there t =
        let q = h.found (right (not (kinds_clash a.kind b.kind)) r t) in
        let p = q.pair in
        let k = sym (kinds_joined a.kind b.kind (not-true (kinds_clash a.kind b.kind) (left (not (kinds_clash a.kind b.kind)) r t)) p) ∙ q.kind_is in
        let ai = member a.inputs p.input in
        let bi = member b.inputs p.input in
        let ao = member a.outputs p.output in
        let bo = member b.outputs p.output in
        let ka = of_kind a.kind p in
        let kb = of_kind b.kind p in
        let i = sym (member_and a.inputs b.inputs p.input) ∙ q.in_set in
        let o = sym (member_and a.outputs b.outputs p.output) ∙ q.out_set in
        take_one a b p q.input q.output q.is_pair_lem (both (both (left ai bi i) (left ao bo o)) (left ka kb k)) (both (both (right ai bi i) (right ao bo o)) (right ka kb k))

    back : take_one_pair a b ≡ true → (not (kinds_clash a.kind b.kind) && r) ≡ true
    back t =
        let c = common_pair a b t in
        let p = c.pair in
        let ai = member a.inputs p.input in
        let bi = member b.inputs p.input in
        let ao = member a.outputs p.output in
        let bo = member b.outputs p.output in
        let ka = of_kind a.kind p in
        let kb = of_kind b.kind p in
        let sa = left (ai && ao) ka c.first in
        let sb = left (bi && bo) kb c.second in
        let f : kinds_clash a.kind b.kind ≡ false = fails (kinds_clash a.kind b.kind) (λ t. no_common_kind a.kind b.kind t p (right (ai && ao) ka c.first) (right (bi && bo) kb c.second)) in
        both (ap not f) (h.missed (record {
          pair = p;
          input = c.input;
          output = c.output;
          is_pair_lem = c.is_pair_lem;
          in_set = member_and a.inputs b.inputs p.input ∙ both (left ai ao sa) (left bi bo sb);
          out_set = member_and a.outputs b.outputs p.output ∙ both (right ai ao sa) (right bi bo sb);
          kind_is = kinds_joined a.kind b.kind f p ∙ both (right (ai && ao) ka c.first) (right (bi && bo) kb c.second);
        }))
