-- A card made of parts: where they pass it is accepted, and they are its parts. Assumes nothing.
use Rattle.std.specs.Prelude.{◌≡◌, ◌∷◌, ◌<◌}
use Rattle.basics.specs.Words.{◌∙◌, ap, List, [], map, ℕ, suc, arith, length, get_or, length-map, joined}
use Rattle.machine.specs.Part.{machine_of}
use Rattle.layout.specs.Layout.{Bytes}
use Rattle.card.specs.Layout.{machine_count, symbol_count, parts_of}
use Rattle.card.specs.Card.{machines_of, card_refusal}
use Rattle.card.specs.Packing.{packed, packing_refusal}
use Rattle.layout.specs.Laws.Bytes.{bytes_none, bytes_append}
use Rattle.card.specs.Laws.Parts.{joined_split}
use Rattle.card.specs.Laws.Packed.{packed_machines}
use Rattle.card.specs.Laws.Packable.{PartsPass, parts_pack}
use Rattle.card.specs.RoundTrip.{ReadsBack, packed_reads_back, packed_is_bytes}

-- the card of S symbols with such parts
abbrev pub card_of : ℕ → List (List ℕ) → List ℕ
card_of S ps = packed S (map length ps) (joined (λ part. part) ps)

pub record MadeOf (S : ℕ) (ps : List (List ℕ)) (card : List ℕ) : Type 0 where
  pub accepts : card_refusal card ≡ 0
  pub symbols : symbol_count card ≡ S
  pub count : machine_count card ≡ length ps
  pub parts : parts_of card ≡ ps
  pub machines : machines_of card ≡ map machine_of ps
  -- its bytes are bytes, where those of the parts are
  pub bytes : ((k : ℕ) → k < length ps → Bytes (get_or ps k [])) → Bytes card

joined_bytes_lem : (ps : List (List ℕ)) → ((k : ℕ) → k < length ps → Bytes (get_or ps k [])) → Bytes (joined (λ part. part) ps)
unfolding joined
joined_bytes_lem [] b = bytes_none
joined_bytes_lem (p ∷ ps) b = bytes_append p (joined (λ part. part) ps) (b 0 (omega arith)) (joined_bytes_lem ps (λ k h. b (suc k) (omega (arith, h))))

pub made_of : (S : ℕ) (ps : List (List ℕ)) → PartsPass S ps → MadeOf S ps (card_of S ps)
made_of S ps pass = record {
  accepts = reads.accepts;
  symbols = reads.symbols;
  count = packed_machines S lengths bytes ∙ length-map ps length;
  parts = reads.parts ∙ joined_split ps;
  machines = reads.machines ∙ ap (map machine_of) (joined_split ps);
  bytes = λ b. packed_is_bytes S lengths bytes (length (card_of S ps)) (joined_bytes_lem ps b) packs;
}
  where
    lengths : List ℕ
    lengths = map length ps

    bytes : List ℕ
    bytes = joined (λ part. part) ps

    packs : packing_refusal S (map length ps) (joined (λ part. part) ps) (length (card_of S ps)) ≡ 0
    packs = parts_pack S ps pass (length (card_of S ps)) (omega arith)

    reads : ReadsBack S (map length ps) (joined (λ part. part) ps) (card_of S ps) (card_of S ps)
    reads = packed_reads_back S (map length ps) (joined (λ part. part) ps) (card_of S ps) packs
