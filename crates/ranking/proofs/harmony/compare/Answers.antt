use Rattle.std.specs.Prelude.{◌≡◌, ◌∷◌}
use Rattle.basics.proofs.Words.{sym, ◌∙◌, ap, [], lit<}
use Rattle.refusals.specs.Refusals.{refuse, first_of, checked_number}
use Rattle.refusals.proofs.Refusals.{passed, none_first}
use Rattle.ranking.specs.Rankings.{is_machine_count, is_ranking}
use Rattle.ranking.specs.Lemmas.Rankings.{comparable}
use Rattle.ranking.proofs.harmony.compare.Goals as goal

pub harmony-requires : goal.harmony-requires
harmony-requires c =
    let n = refuse 1 (is_machine_count c.args.machines) in
    let m = refuse 7 (is_ranking c.args.machines c.args.ranking.now) in
    let none_refused : first_of (n ∷ m ∷ []) ≡ 0 = sym c.check.ensures ∙ ap checked_number c.in_ok-check.was in
    let first = none_first n (m ∷ []) none_refused in
    let second = none_first m [] first.1 in
    comparable c.args.machines c.args.ranking.now (passed 1 (is_machine_count c.args.machines) (lit< tt) first.0) (passed 7 (is_ranking c.args.machines c.args.ranking.now) (lit< tt) second.0)
