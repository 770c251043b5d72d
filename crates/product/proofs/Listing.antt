-- What the definition of the best lists: the complete candidates for the word among the lists, and the least of these. Assumes nothing.
use Rattle.std.specs.Prelude.{◌≡◌, ◌&&◌, ◌∷◌, ◌⊎◌}
use Rattle.basics.proofs.Words.{refl, sym, ◌∙◌, ap, Bool, true, false, List, [], List-as-Memᴰ, List·Memᴰ·head, List·Memᴰ·tail, List·Memᴰ·not-nil, List·Memᴰ·cases-cons, Memᴰ·cast, Option, some, none, Option·none-ne-some, inl, inr, ℕ, clash}
use Rattle.machine.specs.declared.Pair.{Pair}
use Rattle.machine.specs.Machine.{Machine}
use Rattle.candidate.specs.Candidates.{spelled, is_complete}
use Rattle.product.specs.Best.{Contender, contender_of, ProfileOrder, preferred, same_word, contenders_among, least_of}
use Rattle.paths.specs.Total.{Upto, upto_trans, not_less_upto}
use Rattle.paths.specs.Costs.{Costs}
use Rattle.paths.specs.Best.{Before, before_total}
use Rattle.product.specs.Prices.{Price, Agrees}
use Rattle.product.specs.ProductGraph.{pairs}
use Rattle.product.specs.Laws.Preference.{key_of, beats_earlier, earlier_beats}
use Rattle.product.proofs.Preferred.{preferred_beats, beats_preferred}

-- ---- those of them that are complete candidates for the word

module _ (ms : List Machine) (word : List ℕ) where
  -- the test on a list
  abbrev pub fitting : List Pair → Bool
  fitting c = same_word (spelled c) word && is_complete ms c

  contenders_none : contenders_among ms word [] ≡ []
  unfolding contenders_among
  contenders_none = refl

  contenders_next : (c : List Pair) (cs : List (List Pair)) → fitting c ≡ true → contenders_among ms word (c ∷ cs) ≡ contender_of ms c ∷ contenders_among ms word cs
  unfolding contenders_among
  contenders_next c cs e = rw (e, contenders_among)

  contenders_skip : (c : List Pair) (cs : List (List Pair)) → fitting c ≡ false → contenders_among ms word (c ∷ cs) ≡ contenders_among ms word cs
  unfolding contenders_among
  contenders_skip c cs e = rw (e, contenders_among)

  pub record ListedContender (cs : List (List Pair)) (a : Contender) : Type 0 where
    pub listed : List-as-Memᴰ a.candidate cs
    pub fits : fitting a.candidate ≡ true
    pub is : a ≡ contender_of ms a.candidate

  pub contenders_listed : (cs : List (List Pair)) (a : Contender) → List-as-Memᴰ a (contenders_among ms word cs) → ListedContender cs a
  contenders_listed [] a m = absurd (List·Memᴰ·not-nil (rw contenders_none at m))
  contenders_listed (c ∷ cs) a m = go (fitting c) refl (contenders_listed cs a)
    where
      more : ListedContender cs a → ListedContender (c ∷ cs) a
      more l = record { listed = List·Memᴰ·tail l.listed; fits = l.fits; is = l.is }

      here : fitting c ≡ true → (List-as-Memᴰ a (contenders_among ms word cs) → ListedContender cs a) → (a ≡ contender_of ms c) ⊎ List-as-Memᴰ a (contenders_among ms word cs) → ListedContender (c ∷ cs) a
      here t rec (inl e) = rw e (record { listed = List·Memᴰ·head refl; fits = t; is = refl })
      here t rec (inr k) = more (rec k)

      go : (b : Bool) → fitting c ≡ b → (List-as-Memᴰ a (contenders_among ms word cs) → ListedContender cs a) → ListedContender (c ∷ cs) a
      go true t rec = here t rec (List·Memᴰ·cases-cons (rw (contenders_next c cs t) at m))
      go false t rec = more (rec (rw (contenders_skip c cs t) at m))

  pub listed_contenders : {c : List Pair} {cs : List (List Pair)} → List-as-Memᴰ c cs → fitting c ≡ true → List-as-Memᴰ (contender_of ms c) (contenders_among ms word cs)
  listed_contenders {c} (List·Memᴰ·head {x = d} {xs = cs} e) t =
      let q : fitting d ≡ true = rw e at t in
      rw (contenders_next d cs q) (List·Memᴰ·head (ap (contender_of ms) e))
  listed_contenders {c} (List·Memᴰ·tail {x = d} {xs = cs} m) t = go (fitting d) refl (listed_contenders m t)
    where
      go : (b : Bool) → fitting d ≡ b → List-as-Memᴰ (contender_of ms c) (contenders_among ms word cs) → List-as-Memᴰ (contender_of ms c) (contenders_among ms word (d ∷ cs))
      go true u k = rw (contenders_next d cs u) (List·Memᴰ·tail k)
      go false u k = rw (contenders_skip d cs u) k

-- ---- the least of them

module _ (better : ProfileOrder) where
  least_alone : (a : Contender) (rest : List Contender) → least_of better rest ≡ none → least_of better (a ∷ rest) ≡ some a
  unfolding least_of
  least_alone a rest e = rw (e, least_of)

  least_stays : (a b : Contender) (rest : List Contender) → least_of better rest ≡ some b → preferred better b a ≡ true → least_of better (a ∷ rest) ≡ some b
  unfolding least_of
  least_stays a b rest e t = rw (e, t, least_of)

  least_falls : (a b : Contender) (rest : List Contender) → least_of better rest ≡ some b → preferred better b a ≡ false → least_of better (a ∷ rest) ≡ some a
  unfolding least_of
  least_falls a b rest e t = rw (e, t, least_of)

  least_none : least_of better [] ≡ none
  unfolding least_of
  least_none = refl

  -- it is one of them
  pub least_member : (fs : List Contender) (b : Contender) → least_of better fs ≡ some b → List-as-Memᴰ b fs
  least_member [] b e = absurd (Option·none-ne-some b (sym least_none ∙ e))
  least_member (a ∷ rest) b e = go (least_of better rest) refl (λ d. least_member rest d)
    where
      Rest : Type 0
      Rest = (d : Contender) → least_of better rest ≡ some d → List-as-Memᴰ d rest

      two : (d : Contender) → least_of better rest ≡ some d → (t : Bool) → preferred better d a ≡ t → Rest → List-as-Memᴰ b (a ∷ rest)
      two d k true t rec = let q : b ≡ d = cc (e, least_stays a d rest k t) in List·Memᴰ·tail (Memᴰ·cast q (rec d k))
      two d k false t rec = let q : b ≡ a = cc (e, least_falls a d rest k t) in List·Memᴰ·head q

      go : (o : Option Contender) → least_of better rest ≡ o → Rest → List-as-Memᴰ b (a ∷ rest)
      go none k rec = let q : b ≡ a = cc (e, least_alone a rest k) in List·Memᴰ·head q
      go (some d) k rec = two d k (preferred better d a) refl rec

-- and none of them comes before it
pub record LeastUpto {costs : Costs} (price : Price costs) (better : ProfileOrder) (fs : List Contender) (a : Contender) : Type 0 where
  pub least : Contender
  pub is : least_of better fs ≡ some least
  pub upto : Upto (Before costs pairs) (key_of price least) (key_of price a)

module _ {costs : Costs} {price : Price costs} {better : ProfileOrder} (agrees : Agrees price better) where
  not_preferred : (a b : Contender) → preferred better a b ≡ false → Upto (Before costs pairs) (key_of price b) (key_of price a)
  not_preferred a b t = not_less_upto (before_total costs pairs) (key_of price b) (key_of price a) (λ h. clash (beats_preferred a b (earlier_beats agrees a b h)) t)

  pub least_upto : {a : Contender} {fs : List Contender} → List-as-Memᴰ a fs → LeastUpto price better fs a
  least_upto {a = a} (List·Memᴰ·head {x = b} {xs = rest} e) = go (least_of better rest) refl
    where
      two : (d : Contender) → least_of better rest ≡ some d → (t : Bool) → preferred better d b ≡ t → LeastUpto price better (b ∷ rest) a
      two d k true t = record { least = d; is = least_stays better b d rest k t; upto = rw e (inl (beats_earlier agrees d b (preferred_beats d b t))) }
      two d k false t = record { least = b; is = least_falls better b d rest k t; upto = inr (ap (key_of price) (sym e)) }

      go : (o : Option Contender) → least_of better rest ≡ o → LeastUpto price better (b ∷ rest) a
      go none k = record { least = b; is = least_alone better b rest k; upto = inr (ap (key_of price) (sym e)) }
      go (some d) k = two d k (preferred better d b) refl
  least_upto {a = a} (List·Memᴰ·tail {x = b} {xs = rest} m) = go (least_upto m)
    where
      two : (l : LeastUpto price better rest a) (t : Bool) → preferred better l.least b ≡ t → LeastUpto price better (b ∷ rest) a
      two l true t = record { least = l.least; is = least_stays better b l.least rest l.is t; upto = l.upto }
      two l false t = record {
        least = b;
        is = least_falls better b l.least rest l.is t;
        upto = upto_trans (before_total costs pairs) (not_preferred l.least b t) l.upto;
      }

      go : LeastUpto price better rest a → LeastUpto price better (b ∷ rest) a
      go l = two l (preferred better l.least b) refl
