use Rattle.std.specs.Prelude.{◌≡◌, ◌∷◌}
use Rattle.std.proofs.Common.{Result, Ok}
use Rattle.std.proofs.lemmas.Result.{err_from_is_err_and}
use Rattle.basics.proofs.Words.{◌∙◌, ap, sym, List, [], ℕ, lit<}
use Rattle.refusals.specs.declared.Refusal.{Refusal}
use Rattle.refusals.specs.Refusals.{refuse, first_of, checked_number}
use Rattle.refusals.proofs.Refusals.{last_one, was_true, goes_on, goes_up}
use Rattle.machine.specs.Part.{shaped, sound_states, sound_arcs, no_clash, part_refusal}
use Rattle.part_check.proofs.Clashing.{sound_leaves}
use Rattle.part_check.proofs.check.Goals as goal

-- the numbers of the checks from each on
from_5 : List ℕ → List ℕ
from_5 l = refuse 5 (no_clash l) ∷ []

from_arcs : ℕ → List ℕ → List ℕ
from_arcs S l = refuse 4 (sound_arcs S l) ∷ from_5 l

from_4 : ℕ → List ℕ → List ℕ
from_4 S l = refuse 4 (sound_states l) ∷ from_arcs S l

-- what is left where a check passed
after-3 : (S : ℕ) (l : List ℕ) {A : Type 0} {r : Result A Refusal} {a : A} → r ≡ Ok a → checked_number r ≡ refuse 3 (shaped l) → part_refusal S l ≡ first_of (from_4 S l)
unfolding part_refusal from_4 from_arcs from_5
after-3 S l e t = goes_on e _ (from_4 S l) t

after-states : (S : ℕ) (l : List ℕ) {A : Type 0} {r : Result A Refusal} {a : A} → r ≡ Ok a → checked_number r ≡ refuse 4 (sound_states l) → first_of (from_4 S l) ≡ first_of (from_arcs S l)
unfolding from_4
after-states S l e t = goes_on e _ (from_arcs S l) t

after-arcs : (S : ℕ) (l : List ℕ) {A : Type 0} {r : Result A Refusal} {a : A} → r ≡ Ok a → checked_number r ≡ refuse 4 (sound_arcs S l) → first_of (from_arcs S l) ≡ first_of (from_5 l)
unfolding from_arcs
after-arcs S l e t = goes_on e _ (from_5 l) t

pub returns-in_err-check_length : goal.returns-in_err-check_length
unfolding part_refusal from_4 from_arcs from_5
returns-in_err-check_length c =
    let p = err_from_is_err_and c.from_residual.result c.from_residual.ensures.1 in
    let e = c.in_err-check_length.was in
    rw (p.1, p.2) (sym (ap checked_number e) ∙ goes_up e _ (from_4 c.args.symbols c.args.part.now) c.check_length.ensures)

pub returns-in_err-check_states : goal.returns-in_err-check_states
unfolding from_4
returns-in_err-check_states c =
    let p = err_from_is_err_and c.from_residual-in_err-check_states.result c.from_residual-in_err-check_states.ensures.1 in
    let e = c.in_err-check_states.was in
    rw (p.1, p.2)
    (sym (ap checked_number e)
    ∙ goes_up e _ (from_arcs c.args.symbols c.args.part.now) c.check_states.ensures
    ∙ sym (after-3 c.args.symbols c.args.part.now c.in_ok-check_length.was c.check_length.ensures))

pub returns-in_err-check_arcs : goal.returns-in_err-check_arcs
unfolding from_arcs
returns-in_err-check_arcs c =
    let p = err_from_is_err_and c.from_residual-in_err-check_arcs.result c.from_residual-in_err-check_arcs.ensures.1 in
    let e = c.in_err-check_arcs.was in
    rw (p.1, p.2)
    (sym (ap checked_number e)
    ∙ goes_up e _ (from_5 c.args.part.now) c.check_arcs.ensures
    ∙ sym (after-3 c.args.symbols c.args.part.now c.in_ok-check_length.was c.check_length.ensures ∙ after-states c.args.symbols c.args.part.now c.in_ok-check_states.was c.check_states.ensures))

pub check_clashes-requires : goal.check_clashes-requires
check_clashes-requires c =
    (was_true c.in_ok-check_length.was 3 _ (lit< tt) c.check_length.ensures, sound_leaves c.args.symbols c.args.part.now (was_true c.in_ok-check_arcs.was 4 _ (lit< tt) c.check_arcs.ensures))

pub returns : goal.returns
unfolding from_5
returns c =
    c.check_clashes.ensures
    ∙ sym
    (after-3 c.args.symbols c.args.part.now c.in_ok-check_length.was c.check_length.ensures
    ∙ after-states c.args.symbols c.args.part.now c.in_ok-check_states.was c.check_states.ensures
    ∙ after-arcs c.args.symbols c.args.part.now c.in_ok-check_arcs.was c.check_arcs.ensures
    ∙ last_one _)
