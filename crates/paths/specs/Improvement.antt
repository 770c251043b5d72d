-- Improving the label of one node: labels only fall, and attained labels stay attained.
use Rattle.std.specs.Prelude.{◌≡◌, ◌≢◌, List, [], ◌∷◌, ℕ}
use Rattle.std.proofs.Common.{sym, ◌∙◌, ap}
use Rattle.std.proofs.Math.Option.{Option, some}
use Rattle.std.proofs.Math.Decide.{ℕ_discrete}
use Rattle.paths.specs.Total.{Total}
use Rattle.paths.specs.Costs.{Costs, Labels, AtMost, Above, Lowers, kept, lowered, atmost_is, atmost_not_above, lowers_upto, lowers_falls}
use Rattle.paths.specs.Pigeonhole.{NotIn}
use Rattle.paths.specs.Graph.{Alphabet, Edge, Graph, nodes}
use Rattle.paths.specs.Costly.{Costly}
use Rattle.paths.specs.Labels.{Held, Attains, Attained}

module _ {A : Type 0} (R : A → A → Type 0) where
  -- M is L, but at u it has c where that is less than what L has there
  pub record Improves (L : ℕ → Option A) (u : ℕ) (c : A) (M : ℕ → Option A) : Type 0 where
    pub here : Lowers R (L u) c (M u)
    pub others : (w : ℕ) → w ≢ u → M w ≡ L w

  -- labels only fall from L to M
  abbrev pub Falls : (ℕ → Option A) → (ℕ → Option A) → Type 0
  Falls L M = (w : ℕ) (c : A) → AtMost R (L w) c → AtMost R (M w) c

module _ {A : Type 0} {R : A → A → Type 0} (T : Total R) where
  -- u's label is at most c afterwards, and no label rose
  pub improves_upto : {L M : ℕ → Option A} {u : ℕ} {c : A} → Improves R L u c M → AtMost R (M u) c
  improves_upto I = lowers_upto T I.here

  pub improves_falls : {L M : ℕ → Option A} {u : ℕ} {c : A} → Improves R L u c M → Falls R L M
  improves_falls {L} {M} {u} I w d m = go (ℕ_discrete w u)
    where
      go : Dec (w ≡ u) → AtMost R (M w) d
      go (yes q) = rw q (lowers_falls T I.here (rw q at m))
      go (no n) = rw (I.others w n) m

module _ {costs : Costs} {alphabet : Alphabet} (G : Graph costs alphabet) where
  infixl 65 ◌⊕◌
  infix 4 ◌≺◌
  open G use {edge, ending, positive}
  open costs use {Cost, ◌⊕◌, ◌≺◌, total}
  open alphabet use {Letter}

  -- what is held stays so where labels only fall
  pub held_falls : {L M : Labels costs} → Falls ◌≺◌ L M → {u : ℕ} {ps : List Letter} {c : Cost} → Held G L u ps c → Held G M u ps c
  held_falls f (Held.halt {u} {c} h m) = Held.halt h (f u c m)
  held_falls f (Held.step {u} {c = c} e d h r q m) = Held.step e d h (held_falls f r) q (f u c m)

  -- where every edge costs something
  module _ (costly : Costly G) where
    pub held_avoids_of : {L : Labels costs} (w : ℕ) (c : Cost) → Above ◌≺◌ (L w) c → {u : ℕ} {ps : List Letter} {d : Cost} → Held G L u ps d → d ≺ c → NotIn w (nodes G u ps)
    unfolding nodes
    held_avoids_of w c a (Held.halt h m) k = (λ q. atmost_not_above total m k (rw q at a), tt)
    held_avoids_of w c a (Held.step {u} {p} {ps} {c = d} e f h r q m) k =
        rw h ((λ z. atmost_not_above total m k (rw z at a)), held_avoids_of w c a r (total.trans f d c (rw q (costly u p e h f)) k))

  -- a node whose label is missing, or above c, is on no held path that costs less than c: from there on it would cost less than the label
  pub held_avoids : {L : Labels costs} (w : ℕ) (c : Cost) → Above ◌≺◌ (L w) c → {u : ℕ} {ps : List Letter} {d : Cost} → Held G L u ps d → d ≺ c → NotIn w (nodes G u ps)
  held_avoids w c a k l = held_avoids_of positive w c a k l

  -- ---- Theorem 2: attained labels stay attained when a node is improved by its ending, or by an edge and its target's label

  module _ {L M : Labels costs} {u : ℕ} {c : Cost} (A : Attained G L) (I : Improves ◌≺◌ L u c M) where
    falls : Falls ◌≺◌ L M
    falls = improves_falls total I

    -- a label that is as it was
    as_before : (w : ℕ) (d : Cost) → L w ≡ some d → Attains G M w d
    as_before w d l = let a = A w d l in record { letters = a.letters; held = held_falls falls a.held; distinct = a.distinct }

    keep_attained : Lowers ◌≺◌ (L u) c (M u) → (Above ◌≺◌ (L u) c → M u ≡ some c → Attains G M u c) → Attained G M
    keep_attained k f w d m = go (ℕ_discrete w u) k
      where
        go : Dec (w ≡ u) → Lowers ◌≺◌ (L u) c (M u) → Attains G M w d
        go (no n) k = as_before w d (sym (I.others w n) ∙ m)
        go (yes q) (kept a e) = as_before w d (ap L q ∙ sym e ∙ ap M (sym q) ∙ m)
        go (yes q) (lowered a e) = let z : d ≡ c = cc (ap M q, e, m) in rw (q, z) (f a e)

    -- by its ending
    pub improve_end : ending u ≡ some c → Attained G M
    unfolding nodes
    improve_end h = keep_attained I.here (λ a e. record { letters = []; held = Held.halt h (atmost_is e); distinct = (tt, tt) })

    -- by an edge and its target's label: u is not on the target's path, which would cost less from u on than u's label
    module _ (costly : Costly G) where
      pub improve_edge_of : (p : Letter) (e : Edge Cost) (d : Cost) → edge u p ≡ some e → L e.target ≡ some d → c ≡ e.cost ⊕ d → Attained G M
      unfolding nodes
      improve_edge_of p e d h l q = keep_attained I.here extended
        where
          extended : Above ◌≺◌ (L u) c → M u ≡ some c → Attains G M u c
          extended a m =
              let k = A e.target d l in
              let n : NotIn u (nodes G e.target k.letters) = held_avoids_of costly u c a k.held (rw q (costly u p e h d)) in
              record { letters = p ∷ k.letters; held = Held.step e d h (held_falls falls k.held) q (atmost_is m); distinct = rw h (n, k.distinct) }

    pub improve_edge : (p : Letter) (e : Edge Cost) (d : Cost) → edge u p ≡ some e → L e.target ≡ some d → c ≡ e.cost ⊕ d → Attained G M
    improve_edge p e d h l q = improve_edge_of positive p e d h l q
