-- The first look at an arc: where its marks of the first constraints, with its target's counts, are more than its node's, it was dropped or gives no less.
use Rattle.std.specs.Prelude.{◌≡◌, ◌⊎◌, ◌+◌, ◌*◌, ◌/◌, ◌%◌, ◌^◌, ◌≤◌, ◌<◌}
use Rattle.basics.specs.Words.{refl, sym, ◌∙◌, ap, subst, false, List, Option, none, some, inl, inr, ℕ, zero, suc, arith, length, get_or, set, get_or-set_same, get_or-set_other, div-le_self, ℕ_discrete}
use Rattle.paths.specs.Costs.{AtMost}
use Rattle.paths.specs.Ranked.{Ranked, Less, count_at}
use Rattle.tables.specs.Marks.{marks_cost}
use Rattle.tables.specs.MarksLaws.{nibbles_most}
use Rattle.cells.specs.Cells.{nowhere}
use Rattle.insertions.proofs.Steps.{marks_are}
use Rattle.stage.specs.Below.{Below, below_none, below_next}
use Rattle.stage.specs.StageLabels.{count_of, stage_label}
use Rattle.stage.specs.Relaxing.{Makes, counts_of, Fits, ArcTried, unlabelled, dropped, lowered}
use Rattle.stage_entering.specs.Entering.{marks_by, top_of, FrontCounts, AheadOf, BehindFront, FrontMarks, LanePre}
use Rattle.stage.proofs.Marks.{first_marks, second_marks, third_marks}
use Rattle.stage.proofs.StageWork.{lowered_kept}

-- ---- the counts stay while the labels and the counts below k do

pub front_kept : {xs ys : List ℕ} {k u n : ℕ} → ((i w : ℕ) → i < k → count_of ys i w ≡ count_of xs i w) → stage_label ys k u ≡ stage_label xs k u → FrontCounts xs k u n → FrontCounts ys k u n
front_kept {u = u} C l F = record {
  first = λ q. F.first q ∙ ap top_of (sym l);
  second = λ q. omega (arith, F.second q, ap top_of l, C 0 u (omega arith));
  third = λ q. omega (arith, F.third q, ap top_of l, C 0 u (omega arith), C 1 u (omega arith));
  later = λ q. omega (arith, F.later q, C 0 u (omega arith), C 1 u (omega arith), C 2 u (omega arith));
  few = F.few;
}

pub ahead_kept : {xs ys ahead : List ℕ} {k t P : ℕ} → ((i w : ℕ) → i < k → count_of ys i w ≡ count_of xs i w) → ((w : ℕ) → t ≤ w → stage_label ys k w ≡ stage_label xs k w) → AheadOf xs k t P ahead → AheadOf ys k t P ahead
ahead_kept {t = t} C f A = record { each = λ c h. front_kept C (f (t + c) (omega arith)) (A.each c h) }

-- ---- the marks in front

-- n is so many of the marks m
pub record Marked (m k n : ℕ) : Type 0 where
  pub first : k ≡ 0 → n ≡ count_at 6 0 (marks_cost m)
  pub second : k ≡ 1 → n ≡ count_at 6 0 (marks_cost m) * 65536 + count_at 6 1 (marks_cost m)
  pub third : 2 ≤ k → n ≡ (count_at 6 0 (marks_cost m) * 65536 + count_at 6 1 (marks_cost m)) * 65536 + count_at 6 2 (marks_cost m)

marked : {h l k s : ℕ} → FrontMarks h l → BehindFront k s → Marked (marks_by h l) k (h / 2 ^ s)
marked {h} F B = record {
  first = λ q. ap (λ (n : ℕ). h / 2 ^ n) (B.first q) ∙ F.first;
  second = λ q. ap (λ (n : ℕ). h / 2 ^ n) (B.second q) ∙ F.second;
  third = λ q. ap (λ (n : ℕ). h / 2 ^ n) (B.third q) ∙ F.third;
}

-- those of a joint step with the marks a to f
module _ (t a b c d e f h l : ℕ) (ha : a ≤ 15) (hb : b ≤ 15) (hc : c ≤ 15) (hd : d ≤ 15) (he : e ≤ 15) (hf : f ≤ 15) (ht : t < 128)
    (high : h ≡ t + (a * 1099511627776 + (b * 16777216 + c * 256))) (low : l ≡ d * 281474976710656 + (e * 4294967296 + f * 65536)) where
  number : marks_by h l ≡ a * 1048576 + (b * 65536 + (c * 4096 + (d * 256 + (e * 16 + f))))
  number = marks_are t a b c d e f h l ha hb hc hd he hf ht high low

  five : (a * 1048576 + (b * 65536 + (c * 4096 + (d * 256 + (e * 16 + f))))) % 1048576 ≡ b * 65536 + (c * 4096 + (d * 256 + (e * 16 + f)))
  five = omega arith

  four : (b * 65536 + (c * 4096 + (d * 256 + (e * 16 + f)))) % 65536 ≡ c * 4096 + (d * 256 + (e * 16 + f))
  four = omega arith

  first_is : count_at 6 0 (marks_cost (marks_by h l)) ≡ a
  first_is = sym (first_marks (marks_by h l) refl) ∙ ap (λ (n : ℕ). n / 1048576) number ∙ omega arith

  second_is : count_at 6 1 (marks_cost (marks_by h l)) ≡ b
  second_is = sym (second_marks (marks_by h l) refl) ∙ ap (λ (n : ℕ). n % 1048576 / 65536) number ∙ ap (λ (n : ℕ). n / 65536) five ∙ omega arith

  third_is : count_at 6 2 (marks_cost (marks_by h l)) ≡ c
  third_is = sym (third_marks (marks_by h l) refl) ∙ ap (λ (n : ℕ). n % 1048576 % 65536 / 4096) number ∙ ap (λ (n : ℕ). n % 65536 / 4096) five ∙ ap (λ (n : ℕ). n / 4096) four ∙ omega arith

  pub front_of : FrontMarks h l
  front_of =
      let q : h / 1099511627776 ≡ a = omega arith in
      let r : h / 16777216 ≡ a * 65536 + b = omega arith in
      let z : h / 256 ≡ (a * 65536 + b) * 65536 + c = omega arith in
      record { first = q ∙ sym first_is; second = omega (arith, r, first_is, second_is); third = omega (arith, z, first_is, second_is, third_is) }

-- ---- an arc from u to v with the marks m

module _ (xs : List ℕ) (u v m : ℕ) (d : Ranked 1) (few : m < 16 ^ 6) (fits : Fits d) where
  -- it was dropped, or gives no less
  abbrev pub Idle : ℕ → Type 0
  Idle k = ((i : ℕ) × (i < k) × (¬ (Makes xs u m (counts_of xs v) i))) ⊎ (Below (Makes xs u m (counts_of xs v)) k × AtMost (Less 1) (stage_label xs k u) (count_at 6 k (marks_cost m) + d.0, 1 + d.1))

  no_less : (k : ℕ) → top_of (stage_label xs k u) < count_at 6 k (marks_cost m) + d.0 → AtMost (Less 1) (stage_label xs k u) (count_at 6 k (marks_cost m) + d.0, 1 + d.1)
  no_less k h = go (stage_label xs k u) refl
    where
      go : (o : Option (Ranked 1)) → stage_label xs k u ≡ o → AtMost (Less 1) (stage_label xs k u) (count_at 6 k (marks_cost m) + d.0, 1 + d.1)
      go none e = absurd (omega (arith, h, ap top_of e, nibbles_most 6 k m few, fits.0))
      go (some c) e = record { val = c; is = e; upto = inl (inl (omega (arith, h, ap top_of e))) }

  pub dearer : (k : ℕ) {goal ahead n : ℕ} → FrontCounts xs k u goal → FrontCounts xs k v ahead → Marked m k n → stage_label xs k v ≡ some d → goal < n + ahead → Idle k
  dearer zero G A N l h = inr (below_none (Makes xs u m (counts_of xs v)), no_less 0 (omega (arith, h, G.first refl, A.first refl, N.first refl, ap top_of l)))
  dearer (suc zero) G A N l h = go (ℕ_discrete (count_of xs 0 u) (count_at 6 0 (marks_cost m) + count_of xs 0 v))
    where
      go : Dec (count_of xs 0 u ≡ count_at 6 0 (marks_cost m) + count_of xs 0 v) → Idle 1
      go (no n) = inl (0, omega arith, n)
      go (yes p) = inr (below_next (Makes xs u m (counts_of xs v)) 0 (below_none (Makes xs u m (counts_of xs v))) p, no_less 1 (omega (arith, h, p, G.second refl, A.second refl, N.second refl, ap top_of l)))
  dearer (suc (suc zero)) G A N l h = go (ℕ_discrete (count_of xs 0 u) (count_at 6 0 (marks_cost m) + count_of xs 0 v)) (ℕ_discrete (count_of xs 1 u) (count_at 6 1 (marks_cost m) + count_of xs 1 v))
    where
      go : Dec (count_of xs 0 u ≡ count_at 6 0 (marks_cost m) + count_of xs 0 v) → Dec (count_of xs 1 u ≡ count_at 6 1 (marks_cost m) + count_of xs 1 v) → Idle 2
      go (no n) _ = inl (0, omega arith, n)
      go (yes p) (no n) = inl (1, omega arith, n)
      go (yes p) (yes q) =
          inr (
            below_next (Makes xs u m (counts_of xs v)) 1 (below_next (Makes xs u m (counts_of xs v)) 0 (below_none (Makes xs u m (counts_of xs v))) p) q,
            no_less 2 (omega (arith, h, p, q, G.third refl, A.third refl, N.third (omega arith), ap top_of l)),
          )
  dearer (suc (suc (suc k))) G A N l h =
      go (ℕ_discrete (count_of xs 0 u) (count_at 6 0 (marks_cost m) + count_of xs 0 v)) (ℕ_discrete (count_of xs 1 u) (count_at 6 1 (marks_cost m) + count_of xs 1 v)) (ℕ_discrete (count_of xs 2 u) (count_at 6 2 (marks_cost m) + count_of xs 2 v))
    where
      go : Dec (count_of xs 0 u ≡ count_at 6 0 (marks_cost m) + count_of xs 0 v) → Dec (count_of xs 1 u ≡ count_at 6 1 (marks_cost m) + count_of xs 1 v) → Dec (count_of xs 2 u ≡ count_at 6 2 (marks_cost m) + count_of xs 2 v) → Idle (suc (suc (suc k)))
      go (no n) _ _ = inl (0, omega arith, n)
      go (yes p) (no n) _ = inl (1, omega arith, n)
      go (yes p) (yes q) (no n) = inl (2, omega arith, n)
      go (yes p) (yes q) (yes r) = absurd (omega (arith, h, p, q, r, G.later (omega arith), A.later (omega arith), N.third (omega arith)))

-- ---- a lane whose arc leads to more

pub lane_dearer : {xs ahead : List ℕ} {step rest goal u t k s : ℕ} → LanePre xs ahead step rest goal u t k → marks_by step rest < 16 ^ 6 → step < nowhere → BehindFront k s → goal < step / 2 ^ s + get_or ahead (step % 128) 0
    → ArcTried xs xs u (t + step % 128) (marks_by step rest) k false
lane_dearer {xs} {ahead} {step} {rest} {goal} {u} {t} {k} {s} Q few h B g = go (stage_label xs k v) refl
  where
    v : ℕ
    v = t + step % 128

    m : ℕ
    m = marks_by step rest

    same : (i : ℕ) → i < k → Makes Q.start u m (counts_of Q.start v) i → Makes xs u m (counts_of xs v) i
    same i l f = omega (arith, f, Q.counts i u l, Q.counts i v l)

    back : (i : ℕ) → i < k → Makes xs u m (counts_of xs v) i → Makes Q.start u m (counts_of Q.start v) i
    back i l f = omega (arith, f, Q.counts i u l, Q.counts i v l)

    go : (o : Option (Ranked 1)) → stage_label xs k v ≡ o → ArcTried xs xs u v m k false
    go none e = unlabelled e refl refl
    go (some d) e = look (dearer Q.start u v m d few (Q.given.fits v d (omega arith) (omega (arith, Q.leads)) e) k Q.goal_is (Q.ahead_is.each (step % 128) Q.leads) (marked (Q.marks h) B) (sym (Q.others v (omega (arith, Q.given.apart))) ∙ e) g)
      where
        look : Idle Q.start u v m d few (Q.given.fits v d (omega arith) (omega (arith, Q.leads)) e) k → ArcTried xs xs u v m k false
        look (inl w) = dropped d e w.0 w.1 (λ z. w.2 (back w.0 w.1 z)) refl refl
        look (inr w) = lowered d e (λ i l. same i l (w.0 i l)) (lowered_kept (count_at 6 k (marks_cost m) + d.0, 1 + d.1) (Q.falls u (count_at 6 k (marks_cost m) + d.0, 1 + d.1) w.1))

pub front_room : {xs ahead : List ℕ} {step rest goal u t k : ℕ} → LanePre xs ahead step rest goal u t k → step < nowhere → (s : ℕ) → step / 2 ^ s + get_or ahead (step % 128) 0 < 2 ^ 64
front_room {step = step} Q h s = omega (arith, h, div-le_self step (2 ^ s), (Q.ahead_is.each (step % 128) Q.leads).few)

-- ---- looking ahead

pub look_next : {xs ahead : List ℕ} {k t n r : ℕ} → n < length ahead → AheadOf xs k t n ahead → FrontCounts xs k (t + n) r → AheadOf xs k t (n + 1) (set ahead n r)
look_next {xs} {ahead} {k} {t} {n} {r} h A F = record { each = λ c l. each c l (ℕ_discrete c n) }
  where
    each : (c : ℕ) → c < n + 1 → Dec (c ≡ n) → FrontCounts xs k (t + c) (get_or (set ahead n r) c 0)
    each c l (yes q) = subst (λ (j : ℕ). FrontCounts xs k (t + j) (get_or (set ahead n r) j 0)) (sym q) (subst (λ (z : ℕ). FrontCounts xs k (t + n) z) (sym (get_or-set_same ahead n r 0 h)) F)
    each c l (no d) = subst (λ (z : ℕ). FrontCounts xs k (t + c) z) (sym (get_or-set_other ahead n c r 0 d)) (A.each c (omega arith))
