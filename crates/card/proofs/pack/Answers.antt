use Rattle.std.proofs.lemmas.Result.{err_from_is_err_and}
use Rattle.basics.proofs.Words.{ap, sym, ◌∙◌, arith, length}
use Rattle.layout.specs.Layout.{Bytes}
use Rattle.refusals.specs.Refusals.{checked_number}
use Rattle.card.specs.Laws.Layout.{counts_told}
use Rattle.card.specs.Laws.Packed.{packed_length}
use Rattle.card.specs.Laws.Packable.{packable}
use Rattle.card.specs.Laws.Checked.{parts_small}
use Rattle.refusals.proofs.Refusals.{passed_number, number_positive}
use Rattle.card.proofs.Answers.{pack_refused, target_kept, pack_accepted, target_packed}
use Rattle.card.proofs.pack.Goals as goal

pub returns-in_err-check_packing : goal.returns-in_err-check_packing
returns-in_err-check_packing c =
    let S = c.args.symbols in
    let p = err_from_is_err_and c.from_residual.result c.from_residual.ensures.1 in
    let e = sym c.check_packing.ensures ∙ ap checked_number c.in_err-check_packing.was in
    let pos = number_positive c.in_err-check_packing.field-0.0 in
    rw (p.1, p.2)
    ((
      sym (pack_refused S c.args.lengths.now c.args.parts.now c.args.target.now _ e pos),
      sym (target_kept S c.args.lengths.now c.args.parts.now c.args.target.now _ e pos),
    ))

pub write_table-requires : goal.write_table-requires
write_table-requires c =
    let S = c.args.symbols in
    let ns = c.args.lengths.now in
    let parts = c.args.parts.now in
    let input = packable S ns parts (length c.args.target.now) (passed_number c.in_ok-check_packing.was c.check_packing.ensures) in
    let counts = counts_told (length ns) S input.counts in
    let bytes : Bytes parts = λ i. omega (arith, c.type_inv.parts i) in (
      omega (arith, counts),
      omega (arith, input.fits, packed_length S ns parts),
      omega (arith, counts, parts_small S ns parts bytes (omega (arith, input.sum)) input.parts),
    )

pub write_parts-requires : goal.write_parts-requires
write_parts-requires c =
    let S = c.args.symbols in
    let ns = c.args.lengths.now in
    let parts = c.args.parts.now in
    let input = packable S ns parts (length c.args.target.now) (passed_number c.in_ok-check_packing.was c.check_packing.ensures) in
    (omega (arith, counts_told (length ns) S input.counts), input.sum, omega (arith, input.fits, packed_length S ns parts, c.write_table.auto.target))

pub returns : goal.returns
returns c =
    let e = passed_number c.in_ok-check_packing.was c.check_packing.ensures in (
      sym (pack_accepted c.args.symbols c.args.lengths.now c.args.parts.now c.args.target.now e),
      target_packed c.args.symbols c.args.lengths.now c.args.parts.now c.args.target.now c.write_table.new.target c.write_parts.new.target e c.write_table.ensures c.write_parts.ensures,
    )
