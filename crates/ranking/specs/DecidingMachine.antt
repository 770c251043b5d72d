-- What the machine that comparing answers means: it is ranked, the counts differ there, and agree at every machine ranked above it. Assumes nothing.
use Rattle.std.specs.Prelude.{◌≡◌, ◌↔◌}
use Rattle.basics.specs.Words.{refl, sym, ◌∙◌, ap, true, List, Option, some, none, ℕ, length, get_or}
use Rattle.ranking.specs.declared.Order.{Order}
use Rattle.ranking.specs.declared.Order.TheVariants.{Better, Equal, Worse}
use Rattle.ranking.specs.declared.Profile.{Profile}
use Rattle.ranking.specs.Rankings.{is_machine_count, is_ranking}
use Rattle.ranking.specs.Harmony.{harmony, is_better, Compared, comparing}
use Rattle.ranking.specs.HarmonicInequality.{AgreeAbove, MoreHarmonic, decided_at, better_means, opposite, reversed, equal_at, same_at, itself}

-- machine m decides for v: v is more harmonic than w, by its count of m
pub record Decides (m : ℕ) (r v w : List ℕ) : Type 0 where
  pub harmonic : MoreHarmonic r v w
  pub machine : get_or r harmonic.place 0 ≡ m

-- what comparing answers where it does not refuse
abbrev pub ordered : Order → Compared
ordered o = record { number = 0; order = some o }

-- the three answers, each exactly when
pub record DecidedMeans (K : ℕ) (r : List ℕ) (v w : Profile) : Type 0 where
  pub better_by : (m : ℕ) → (comparing K r v w ≡ ordered (Better m)) ↔ Decides m r v.counts w.counts
  pub worse_by : (m : ℕ) → (comparing K r v w ≡ ordered (Worse m)) ↔ Decides m r w.counts v.counts
  pub equal_by_none : (comparing K r v w ≡ ordered Equal) ↔ AgreeAbove (length r) r v.counts w.counts

-- the machine that an order carries
abbrev carried : Order → ℕ
carried (Better m) = m
carried Equal = 0
carried (Worse m) = m

module _ (r v w : List ℕ) where
  by_better : (m : ℕ) → (harmony r v w ≡ Better m) ↔ Decides m r v w
  by_better m = (decides, λ d. decided_at r v w d.harmonic ∙ ap {B = Order} Better d.machine)
    where
      decides : harmony r v w ≡ Better m → Decides m r v w
      decides e =
          let d = (better_means r v w).0 (ap is_better e) in
          record { harmonic = d; machine = ap carried (sym (decided_at r v w d) ∙ e) }

by_worse : (r v w : List ℕ) (m : ℕ) → (harmony r v w ≡ Worse m) ↔ Decides m r w v
by_worse r v w m = (
  λ e. (by_better r w v m).0 (reversed r v w ∙ ap opposite e),
  λ d. reversed r w v ∙ ap opposite ((by_better r w v m).1 d),
)

by_none : (r v w : List ℕ) → (harmony r v w ≡ Equal) ↔ AgreeAbove (length r) r v w
by_none r v w = (λ e. equal_at r v w e, λ a. same_at r v w w w a (λ i h. refl) ∙ itself r w)

pub decided_means : (K : ℕ) (r : List ℕ) → is_machine_count K ≡ true → is_ranking K r ≡ true → (v w : Profile) → DecidedMeans K r v w
decided_means K r counted ranks v w =
    record {
      better_by = λ m. (λ e. (by_better r v.counts w.counts m).0 (told e), λ d. answered ∙ ap ordered ((by_better r v.counts w.counts m).1 d));
      worse_by = λ m. (λ e. (by_worse r v.counts w.counts m).0 (told e), λ d. answered ∙ ap ordered ((by_worse r v.counts w.counts m).1 d));
      equal_by_none = (λ e. (by_none r v.counts w.counts).0 (told e), λ a. answered ∙ ap ordered ((by_none r v.counts w.counts).1 a));
    }
  where
    answered : comparing K r v w ≡ ordered (harmony r v.counts w.counts)
    answered = rw (counted, ranks)

    of : Option Order → Order
    of none = Equal
    of (some o) = o

    told : {o : Order} → comparing K r v w ≡ ordered o → harmony r v.counts w.counts ≡ o
    told e = ap (λ (c : Compared). of c.order) (sym answered ∙ e)
