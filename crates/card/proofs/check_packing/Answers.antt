use Rattle.std.specs.Prelude.{◌≡◌, ◌∷◌}
use Rattle.std.proofs.lemmas.Result.{err_from_is_err_and}
use Rattle.basics.proofs.Words.{ap, sym, ◌∙◌, true, [], length, eqb, leb, lit<}
use Rattle.refusals.specs.Refusals.{checked_number, refuse}
use Rattle.refusals.proofs.Refusals.{first_on, last_one, passed_number, was_true, goes_up}
use Rattle.card.specs.Layout.{sound_counts}
use Rattle.card.specs.Card.{machines_refusal}
use Rattle.card.specs.Packing.{total, split, packed, packing_refusal}
use Rattle.card.specs.Laws.Packed.{packed_length}
use Rattle.card.proofs.check_packing.Goals as goal

pub returns-in_err-check_counts : goal.returns-in_err-check_counts
unfolding packing_refusal
returns-in_err-check_counts c =
    let S = c.args.symbols in
    let ns = c.args.lengths.now in
    let bytes = c.args.parts.now in
    let p = err_from_is_err_and c.from_residual.result c.from_residual.ensures.1 in
    let e = c.in_err-check_counts.was in
    rw (p.1, p.2)
    (sym (ap checked_number e)
    ∙ goes_up e (refuse 1 (sound_counts (length ns) S))
    (refuse 17 (eqb (total ns) (length bytes)) ∷ machines_refusal S (split ns bytes) ∷ refuse 18 (leb (length (packed S ns bytes)) c.args.room) ∷ [])
    c.check_counts.ensures)

pub returns-in_err-tested : goal.returns-in_err-tested
unfolding packing_refusal
returns-in_err-tested c =
    let S = c.args.symbols in
    let ns = c.args.lengths.now in
    let bytes = c.args.parts.now in
    let counted : sound_counts (length ns) S ≡ true = was_true c.in_ok-check_counts.was 1 (sound_counts (length ns) S) (lit< tt) c.check_counts.ensures in
    let tested = c.tested.ensures ∙ ap (λ n. refuse 17 (eqb n (length bytes))) c.sum.ensures in
    let p = err_from_is_err_and c.from_residual-in_err-tested.result c.from_residual-in_err-tested.ensures.1 in
    let e = c.in_err-tested.was in
    rw (p.1, p.2, counted)
    (sym (ap checked_number e)
    ∙ goes_up e (refuse 17 (eqb (total ns) (length bytes)))
    (machines_refusal S (split ns bytes) ∷ refuse 18 (leb (length (packed S ns bytes)) c.args.room) ∷ [])
    tested)

pub returns-in_err-check_parts : goal.returns-in_err-check_parts
unfolding packing_refusal
returns-in_err-check_parts c =
    let S = c.args.symbols in
    let ns = c.args.lengths.now in
    let bytes = c.args.parts.now in
    let counted : sound_counts (length ns) S ≡ true = was_true c.in_ok-check_counts.was 1 (sound_counts (length ns) S) (lit< tt) c.check_counts.ensures in
    let tested = c.tested.ensures ∙ ap (λ n. refuse 17 (eqb n (length bytes))) c.sum.ensures in
    let sum : eqb (total ns) (length bytes) ≡ true = was_true c.in_ok-tested.was 17 (eqb (total ns) (length bytes)) (lit< tt) tested in
    let p = err_from_is_err_and c.from_residual-in_err-check_parts.result c.from_residual-in_err-check_parts.ensures.1 in
    let e = c.in_err-check_parts.was in
    rw (p.1, p.2, counted, sum)
    (sym (ap checked_number e)
    ∙ goes_up e (machines_refusal S (split ns bytes)) (refuse 18 (leb (length (packed S ns bytes)) c.args.room) ∷ [])
    c.check_parts.ensures)

pub returns : goal.returns
unfolding packing_refusal
returns c =
    let S = c.args.symbols in
    let ns = c.args.lengths.now in
    let bytes = c.args.parts.now in
    let counted : sound_counts (length ns) S ≡ true = was_true c.in_ok-check_counts.was 1 (sound_counts (length ns) S) (lit< tt) c.check_counts.ensures in
    let tested = c.tested.ensures ∙ ap (λ n. refuse 17 (eqb n (length bytes))) c.sum.ensures in
    let sum : eqb (total ns) (length bytes) ≡ true = was_true c.in_ok-tested.was 17 (eqb (total ns) (length bytes)) (lit< tt) tested in
    let parts : machines_refusal S (split ns bytes) ≡ 0 = passed_number c.in_ok-check_parts.was c.check_parts.ensures in
    let room = refuse 18 (leb (length (packed S ns bytes)) c.args.room) in
    rw (counted, sum)
    (c.tested-2.ensures
    ∙ ap (λ n. refuse 18 (leb n c.args.room)) (sym (packed_length S ns bytes))
    ∙ sym (first_on (machines_refusal S (split ns bytes)) (room ∷ []) parts ∙ last_one room))
