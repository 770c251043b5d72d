use Rattle.basics.proofs.Words.{ap, ◌∙◌, ℕ, arith, length, get_or, lt-leb, le-leb}
use Rattle.refusals.specs.Refusals.{refuse}
use Rattle.card.specs.Layout.{sound_counts, counted}
use Rattle.card.proofs.head.check_head.Goals as goal

pub returns-then-card-lt2 : goal.returns-then-card-lt2
unfolding counted
returns-then-card-lt2 c = rw (lt-leb _ _ c.if-card-lt2.true)

pub returns : goal.returns
unfolding counted
returns c =
    let l = c.args.card.now in
    rw (le-leb 2 (length l) (omega arith)) (c.check_counts.ensures ∙ ap (λ (n : ℕ). refuse 1 (sound_counts n (get_or l 1 0))) c.index.ensures.0)
