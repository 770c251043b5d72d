use Rattle.std.specs.Prelude.{◌≡◌, ◌∷◌, ◌+◌, ◌*◌, ◌<◌, ◌≤◌}
use Rattle.std.proofs.lemmas.Result.{err_from_is_err_and}
use Rattle.basics.proofs.Words.{ap, sym, ◌∙◌, [], List, ℕ, arith, length, ltb, lit<, ltb-true}
use Rattle.refusals.specs.Refusals.{checked_number, refuse}
use Rattle.refusals.proofs.Refusals.{passed, passed_number, number_positive}
use Rattle.card.specs.Layout.{machine_count}
use Rattle.card.specs.Card.{card_refusal}
use Rattle.card.specs.Reading.{reading_refusal}
use Rattle.card.specs.Laws.Search.{first_passed, rest_passed}
use Rattle.card.specs.Accepted.{accepted}
use Rattle.card.proofs.Answers.{read_refused, read_placed}
use Rattle.card.proofs.read_part.Goals as goal

-- a part that can be read has its place in the table
placed : (card : List ℕ) (machine i : ℕ) → reading_refusal card machine ≡ 0 → i ≡ machine → 6 + 4 * i ≤ length card
placed card machine i e q =
    let t = ltb machine (machine_count card) in
    let f = first_passed (refuse 17 t) [] (rest_passed (card_refusal card) (refuse 17 t ∷ []) e) in
    let ok : card_refusal card ≡ 0 = first_passed (card_refusal card) (refuse 17 t ∷ []) e in
    let one : i < machine_count card = omega (arith, ltb-true machine (machine_count card) (passed 17 t (lit< tt) f)) in
    omega (arith, (accepted card ok).within i one)

pub returns-in_err-check_reading : goal.returns-in_err-check_reading
returns-in_err-check_reading c =
    let p = err_from_is_err_and c.from_residual.result c.from_residual.ensures.1 in
    let e = c.in_err-check_reading.was in
    let told = c.check_reading.ensures in
    rw (p.1, p.2) (sym (read_refused c.args.card.now c.args.machine _ (sym told ∙ ap checked_number e) (number_positive c.in_err-check_reading.field-0.0)))

pub part_offset-requires : goal.part_offset-requires
part_offset-requires c = placed c.args.card.now c.args.machine _ (passed_number c.in_ok-check_reading.was c.check_reading.ensures) c.index-machine.ensures.0

pub part_length-requires : goal.part_length-requires
part_length-requires c = placed c.args.card.now c.args.machine _ (passed_number c.in_ok-check_reading.was c.check_reading.ensures) c.index-machine.ensures.0

pub returns : goal.returns
returns c =
    read_placed c.args.card.now c.args.machine c.index-machine.result c.part_offset.result c.part_length.result (passed_number c.in_ok-check_reading.was c.check_reading.ensures) c.index-machine.ensures.0
    c.part_offset.ensures.0 c.part_length.ensures.0
