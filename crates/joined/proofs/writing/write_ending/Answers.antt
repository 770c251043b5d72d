use Rattle.std.specs.Prelude.{◌≡◌, ◌∷◌, ◌+◌}
use Rattle.basics.proofs.Words.{sym, ap, subst, ◌∙◌, true, List, [], ℕ, arith, length, get_or, set, length-map, joined}
use Rattle.machine.specs.Part.{state_count, state_bytes, shaped}
use Rattle.joined.specs.Writing.{placed, joined_byte}
use Rattle.joined.specs.Laws.Placed.{placed_one}
use Rattle.joined.proofs.Rest.{Rest, rest_start, rest_next, rest_end, as_joined}
use Rattle.joined.proofs.Parts.{states_length, state_byte_few}
use Rattle.joined.proofs.writing.write_ending.Invariants.{one_byte}
use Rattle.joined.proofs.writing.write_ending.Goals as goal

-- as many bytes as states
bytes : (byte : ℕ) (second : List ℕ) → shaped second ≡ true → length (joined (one_byte byte) (state_bytes second)) ≡ state_count second
bytes byte second t =
    let b = joined_byte byte in
    let l = state_bytes second in
    sym (ap length (as_joined b l)) ∙ length-map l b ∙ states_length second t

pub loop-i-init : goal.loop-i-init
loop-i-init c =
    let f = one_byte c.args.byte in
    let l = state_bytes c.args.second.now in
    let t = c.args.target.now in
    let at = c.args.at in
    let e : at ≡ at + 0 = omega arith in
    (c.state_count-i-end.ensures, omega arith, subst (λ (k : ℕ). Rest f l (placed at (joined f l) t) (at + length (joined f l)) (length t) 0 k t) e (rest_start f l at t (omega (arith, bytes c.args.byte c.args.second.now c.requires.0))))

pub joined_byte-requires : goal.joined_byte-requires
joined_byte-requires c =
    let second = c.args.second.now in
    (c.requires.2, omega (arith, c.state_byte.ensures, state_byte_few second c.requires.0 c.requires.1 c.loop-i.i (omega arith)))

pub loop-i-preserved : goal.loop-i-preserved
loop-i-preserved c =
    let second = c.args.second.now in
    let byte = c.args.byte in
    let at = c.args.at in
    let v : c.joined_byte.result ≡ joined_byte byte (get_or (state_bytes second) c.loop-i.i 0) = c.joined_byte.ensures ∙ ap (joined_byte byte) c.state_byte.ensures in (
      c.loop-i.invariant.0,
      omega arith,
      rest_next (one_byte byte) (state_bytes second) c.loop-i.invariant.2 0 (omega (arith, states_length second c.requires.0)) (at + (c.loop-i.i + 1)) (set c.loop-i.target (at + c.loop-i.i) c.joined_byte.result)
          (placed_one (at + c.loop-i.i) c.joined_byte.result c.loop-i.target (omega (arith, c.loop-i.invariant.2.size)) ∙ ap (λ (x : ℕ). placed (at + c.loop-i.i) (x ∷ []) c.loop-i.target) v)
          (omega arith),
    )

pub returns : goal.returns
returns c =
    let second = c.args.second.now in
    let byte = c.args.byte in
    (rest_end (one_byte byte) (state_bytes second) c.loop-i.invariant.2 (omega (arith, states_length second c.requires.0))).0
    ∙ ap (λ (l : List ℕ). placed c.args.at l c.args.target.now) (sym (as_joined (joined_byte byte) (state_bytes second)))
