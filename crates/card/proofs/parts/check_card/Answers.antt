use Rattle.std.specs.Prelude.{◌≡◌, ◌∷◌, ◌+◌, ◌*◌, ◌<◌, ◌≤◌}
use Rattle.basics.proofs.Words.{ap, sym, ◌∙◌, List, ℕ, [], map, arith, length, get_or, take, drop, length-take-le, get_or-take}
use Rattle.refusals.specs.Refusals.{refuse, first_of}
use Rattle.layout.specs.Layout.{length_of}
use Rattle.card.specs.Layout.{machine_count, symbol_count, parts_of}
use Rattle.card.specs.Card.{parts_refusal, few_states}
use Rattle.card.specs.Packing.{split}
use Rattle.layout.specs.LaidOut.{LaidOut, layout_told}
use Rattle.card.specs.Laws.Layout.{head_told}
use Rattle.card.specs.Laws.Repacked.{table_lengths, table_parts, table_total}
use Rattle.card.proofs.parts.check_card.Goals as goal

-- the lengths handed on: one for each machine, the parts' lengths
lengths : (l r : List ℕ) (k : ℕ) → LaidOut (machine_count l) l → k ≡ machine_count l → k ≤ length r
    → ((i : ℕ) → i < machine_count l → get_or r i 0 ≡ length_of l i) → take k r ≡ map length (parts_of l)
lengths l r k laid e h f =
    table_lengths l laid (take k r) (length-take-le k r h ∙ e)
    (λ i q. get_or-take k r i 0 (omega arith) ∙ f i q)

pub read_lengths-lengths-requires : goal.read_lengths-lengths-requires
read_lengths-lengths-requires c =
    omega (arith, head_told c.args.card.now c.requires.0, (layout_told (machine_count c.args.card.now) c.args.card.now c.requires.1).table)

pub bounds-card-0 : goal.bounds-card-0
bounds-card-0 c =
    omega (arith, head_told c.args.card.now c.requires.0)

pub slice_bounds-lengths-end : goal.slice_bounds-lengths-end
slice_bounds-lengths-end c = omega (arith, head_told c.args.card.now c.requires.0)

pub slice_bounds-check_parts-end : goal.slice_bounds-check_parts-end
slice_bounds-check_parts-end c =
    let h = head_told c.args.card.now c.requires.0 in
    sym (length-take-le c.index-machines.result c.read_lengths-lengths.result (omega (arith, h)))

pub bounds-card-1 : goal.bounds-card-1
bounds-card-1 c = omega (arith, head_told c.args.card.now c.requires.0)

pub check_parts-requires : goal.check_parts-requires
check_parts-requires c =
    let l = c.args.card.now in
    let k = c.index-machines.result in
    let r = c.read_lengths-lengths.result in
    let h = head_told l c.requires.0 in
    let laid = layout_told (machine_count l) l c.requires.1 in
    let fits : k ≤ length r = omega (arith, h) in
    let e = lengths l r k laid c.index-machines.ensures.0 fits c.read_lengths-lengths.ensures.1 in
    (omega (arith, table_total l laid (take k r) e), omega (arith, h, length-take-le k r fits), omega (arith, h))

pub returns : goal.returns
returns c =
    let l = c.args.card.now in
    let k = c.index-machines.result in
    let r = c.read_lengths-lengths.result in
    let h = head_told l c.requires.0 in
    let laid = layout_told (machine_count l) l c.requires.1 in
    let fits : k ≤ length r = omega (arith, h) in
    let are = lengths l r k laid c.index-machines.ensures.0 fits c.read_lengths-lengths.ensures.1 in
    let e : k ≡ machine_count l = c.index-machines.ensures.0 in
    let p = ap (λ n. split (take k r) (drop (2 + 4 * n) l)) e ∙ table_parts l laid (take k r) are in
    c.check_parts.ensures ∙ ap (λ ps. first_of (parts_refusal (symbol_count l) ps ∷ refuse 6 (few_states ps) ∷ [])) p
