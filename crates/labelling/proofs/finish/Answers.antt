use Rattle.std.specs.Prelude.{◌≡◌}
use Rattle.basics.proofs.Words.{sym, subst, Bool, true, false, List, ℕ, length, eq-eqb, ne_eqb}
use Rattle.settling.specs.Insertions.{lists_of}
use Rattle.settling.specs.Settling.{SettlePre, Settled}
use Rattle.labelling.specs.Kinds.{in_counts}
use Rattle.closing.specs.Closing.{CountsPre, CountsClosed, SumsPre, SumsClosed, PassAllPre, AllPassed}
use Rattle.labelling.specs.Labelling.{FinishPre, Finished}
use Rattle.labelling.proofs.Closed.{counts_closed, sums_closed}
use Rattle.labelling.proofs.finish.Goals as goal

module _ {ranked sums hs own next entries ends : List ℕ} {base P : ℕ} (Q : FinishPre ranked sums hs own next entries ends base P) where
  -- of that kind
  module _ (kind : Bool) (is : in_counts sums ≡ kind) where
    settle_by : SettlePre (lists_of entries ends hs kind) own P
    settle_by = subst (λ (k : Bool). SettlePre (lists_of entries ends hs k) own P) is Q.settle

    settled_by : {ys : List ℕ} → Settled (lists_of entries ends hs kind) own ys → Settled (lists_of entries ends hs (in_counts sums)) own ys
    settled_by {ys} S = subst (λ (k : Bool). Settled (lists_of entries ends hs k) own ys) (sym is) S

  module _ (z : length sums ≡ 0) {ys : List ℕ} (S : Settled (lists_of entries ends hs true) own ys) where
    counts_ready : CountsPre ranked ys base P × PassAllPre ys next P
    counts_ready = let q = Q.close ys (settled_by true (eq-eqb (length sums) 0 z) S) in (q.counts z, q.pass)

    counts_finished : {ranked' own' next' : List ℕ} → CountsClosed ranked ranked' ys base P × AllPassed ys own' next next' P → Finished ranked ranked' sums sums hs own own' next next' entries ends base P
    counts_finished C = record { labels = ys; settled = settled_by true (eq-eqb (length sums) 0 z) S; closed = counts_closed z C.0 C.1 }

  module _ (z : length sums ≡ 0 → ⊥) {ys : List ℕ} (S : Settled (lists_of entries ends hs false) own ys) where
    sums_ready : SumsPre sums ys base P × PassAllPre ys next P
    sums_ready = let q = Q.close ys (settled_by false (ne_eqb (length sums) 0 z) S) in (q.in_sums z, q.pass)

    sums_finished : {sums' own' next' : List ℕ} → SumsClosed sums sums' ys base P × AllPassed ys own' next next' P → Finished ranked ranked sums sums' hs own own' next next' entries ends base P
    sums_finished C = record { labels = ys; settled = settled_by false (ne_eqb (length sums) 0 z) S; closed = sums_closed z C.0 C.1 }

pub settle-requires : goal.settle-requires
settle-requires c =
    settle_by c.requires true (eq-eqb (length c.args.sums.now) 0 c.if-sums-eq0.true)

pub close_counts-requires : goal.close_counts-requires
close_counts-requires c =
    counts_ready c.requires c.if-sums-eq0.true c.settle.ensures

pub returns-then-sums-eq0 : goal.returns-then-sums-eq0
returns-then-sums-eq0 c =
    counts_finished c.requires c.if-sums-eq0.true c.settle.ensures c.close_counts.ensures

pub settle-requires-else-sums-eq0 : goal.settle-requires-else-sums-eq0
settle-requires-else-sums-eq0 c =
    settle_by c.requires false (ne_eqb (length c.args.sums.now) 0 c.if-sums-eq0.false)

pub close_sums-requires : goal.close_sums-requires
close_sums-requires c =
    sums_ready c.requires c.if-sums-eq0.false c.settle-else-sums-eq0.ensures

pub returns-else-sums-eq0 : goal.returns-else-sums-eq0
returns-else-sums-eq0 c =
    sums_finished c.requires c.if-sums-eq0.false c.settle-else-sums-eq0.ensures c.close_sums.ensures
