-- Sets of symbols: the set of one symbol, sets with no bit over S. Assumes nothing.
use Rattle.std.specs.Prelude.{◌≡◌, ◌&&◌, ◌+◌, ◌-◌, ◌*◌, ◌/◌, ◌%◌, ◌^◌, ◌<◌}
use Rattle.basics.proofs.Words.{refl, sym, ◌∙◌, ap, Bool, true, false, not, ℕ, zero, suc, arith, eqb, ltb, div-one, pow-suc, add-one, member, ltb-true, lt-ltb, eqb-true, eqb-false, eq-eqb, ne_eqb, not-true, same, clash, both, left, right, has_member, its_member, member_one, member_and}
use Rattle.std.specs.Int.Bits.{bit_and}
use Rattle.std.proofs.lemmas.Nat.{and_le_l}
use Rattle.std.specs.Int.Count.{count_trailing_zeros, under}
use Rattle.std.proofs.Common.{shr-shr}

-- a set has a symbol where it meets the set of that symbol
pub meets_one : (w n : ℕ) → w < 2 ^ 64 → not (eqb (bit_and w (2 ^ n)) 0) ≡ member w n
meets_one w n h = same (not (eqb (bit_and w (2 ^ n)) 0)) (member w n) there back
  where
    there : not (eqb (bit_and w (2 ^ n)) 0) ≡ true → member w n ≡ true
    there t =
        let z = eqb-false (bit_and w (2 ^ n)) 0 (not-true _ t) in
        let q = its_member 64 (bit_and w (2 ^ n)) (omega (arith, and_le_l w (2 ^ n))) (omega (arith, z)) in
        let i = q.0 in
        let m = sym (member_and w (2 ^ n) i) ∙ q.2 in
        let e = eqb-true i n (sym (member_one n i) ∙ right (member w i) (member (2 ^ n) i) m) in
        rw (← e) (left (member w i) (member (2 ^ n) i) m)

    back : member w n ≡ true → not (eqb (bit_and w (2 ^ n)) 0) ≡ true
    back t =
        let m = member_and w (2 ^ n) n ∙ both t (member_one n n ∙ eq-eqb n n refl) in
        let p = has_member (bit_and w (2 ^ n)) n m in
        rw (ne_eqb (bit_and w (2 ^ n)) 0 (omega arith))

-- a set has no bit over S where half of it is below the set of S
pub half_below : (w S : ℕ) → ltb (w / 2) (2 ^ S) ≡ ltb w (2 ^ (S + 1))
half_below w S =
    let e : 2 ^ (S + 1) ≡ 2 ^ S * 2 = rw add-one (pow-suc 2 S) in
    same (ltb (w / 2) (2 ^ S)) (ltb w (2 ^ (S + 1)))
    (λ t. let h = ltb-true (w / 2) (2 ^ S) t in lt-ltb w (2 ^ (S + 1)) (omega arith))
    (λ t. let h = ltb-true w (2 ^ (S + 1)) t in lt-ltb (w / 2) (2 ^ S) (omega arith))

-- the least symbol t of a set w, and what of w - 1 is in w
pub record LeastAt (d w t : ℕ) : Type 0 where
  pub below : t < d
  pub has : member w t ≡ true
  pub gone : member (w - 1) t ≡ false
  pub others : (n : ℕ) → (n ≡ t → ⊥) → member w n ≡ true → member (w - 1) n ≡ true

-- a symbol but 0 of a set is one of its half
pub member_half : (w n : ℕ) → member w (suc n) ≡ member (w / 2) n
member_half w n = ap (λ (x : ℕ). eqb (x % 2) 1) (ap (λ (k : ℕ). w / 2 ^ k) (omega arith) ∙ sym (shr-shr w 1 n))

pub least_at : (d w : ℕ) → 0 < w → w < 2 ^ d → LeastAt d w (count_trailing_zeros d w)
unfolding count_trailing_zeros
least_at zero w h b = absurd (omega arith)
least_at (suc d) w h b = go (w % 2) refl (least_at d (w / 2))
  where
    go : (r : ℕ) → w % 2 ≡ r → (0 < w / 2 → w / 2 < 2 ^ d → LeastAt d (w / 2) (count_trailing_zeros d (w / 2))) → LeastAt (suc d) w (under r (count_trailing_zeros d (w / 2)))
    go zero e r =
        let q = r (omega arith) (omega (arith, pow-suc 2 d)) in
        let t = count_trailing_zeros d (w / 2) in
        let half : (w - 1) / 2 ≡ w / 2 - 1 = omega arith in
        record {
          below = omega (arith, q.below);
          has = member_half w t ∙ q.has;
          gone = member_half (w - 1) t ∙ ap (λ (x : ℕ). member x t) half ∙ q.gone;
          others = λ n k m. at n k m q;
        }
      where
        at : (n : ℕ) → (n ≡ suc (count_trailing_zeros d (w / 2)) → ⊥) → member w n ≡ true → LeastAt d (w / 2) (count_trailing_zeros d (w / 2)) → member (w - 1) n ≡ true
        at zero k m q = absurd (clash m (rw div-one (ne_eqb (w % 2) 1 (omega arith))))
        at (suc n) k m q =
            let half : (w - 1) / 2 ≡ w / 2 - 1 = omega arith in
            member_half (w - 1) n ∙ ap (λ (x : ℕ). member x n) half ∙ q.others n (λ z. k (ap suc z)) (sym (member_half w n) ∙ m)
    go (suc r) e i =
        record {
          below = omega arith;
          has = rw div-one (eq-eqb (w % 2) 1 (omega arith));
          gone = rw div-one (ne_eqb ((w - 1) % 2) 1 (omega arith));
          others = at;
        }
      where
        at : (n : ℕ) → (n ≡ 0 → ⊥) → member w n ≡ true → member (w - 1) n ≡ true
        at zero k m = absurd (k refl)
        at (suc n) k m =
            let half : (w - 1) / 2 ≡ w / 2 = omega arith in
            member_half (w - 1) n ∙ ap (λ (x : ℕ). member x n) half ∙ sym (member_half w n) ∙ m

-- the set without its least symbol
pub without_least : (d w n : ℕ) → 0 < w → w < 2 ^ d → member (bit_and w (w - 1)) n ≡ (member w n && not (eqb n (count_trailing_zeros d w)))
without_least d w n h b = member_and w (w - 1) n ∙ go (eqb n t) refl (member w n) refl
  where
    t : ℕ
    t = count_trailing_zeros d w

    l : LeastAt d w t
    l = least_at d w h b

    go : (e : Bool) → eqb n t ≡ e → (m : Bool) → member w n ≡ m → (member w n && member (w - 1) n) ≡ (member w n && not (eqb n t))
    go e p false q = rw q
    go true p true q = rw (q, p) (rw (eqb-true n t p) l.gone)
    go false p true q = rw (q, p) (l.others n (eqb-false n t p) q)

-- no symbol of a set is below its least one
pub below_least : (d w n : ℕ) → n < count_trailing_zeros d w → member w n ≡ false
unfolding count_trailing_zeros
below_least zero w n h = absurd (omega arith)
below_least (suc d) w n h = go (w % 2) refl h (λ m. below_least d (w / 2) m)
  where
    at : (n : ℕ) → w % 2 ≡ 0 → n < suc (count_trailing_zeros d (w / 2)) → ((m : ℕ) → m < count_trailing_zeros d (w / 2) → member (w / 2) m ≡ false) → member w n ≡ false
    at zero e h rec = rw div-one (ne_eqb (w % 2) 1 (omega arith))
    at (suc m) e h rec = member_half w m ∙ rec m (omega arith)

    go : (r : ℕ) → w % 2 ≡ r → n < under r (count_trailing_zeros d (w / 2)) → ((m : ℕ) → m < count_trailing_zeros d (w / 2) → member (w / 2) m ≡ false) → member w n ≡ false
    go zero e h rec = at n e h rec
    go (suc r) e h rec = absurd (omega arith)
