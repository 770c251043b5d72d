-- Ranked costs as two numbers: the three highest counts in the first, 16 bits each, and the other three and the pairs in the second.
use Rattle.std.specs.Prelude.{◌≡◌, ◌+◌, ◌*◌}
use Rattle.basics.specs.Words.{inl, inr, ℕ, zero, suc, arith}
use Rattle.paths.specs.Ranked.{Ranked, add, Less, ranked_costs}
use Rattle.tables.specs.LabelCost.{AllShort}
use Rattle.settling.specs.Packing.{Packing}

abbrev pub first_counts : Ranked 6 → ℕ
first_counts c = c.0 * 4294967296 + c.1.0 * 65536 + c.1.1.0

abbrev pub last_counts : Ranked 6 → ℕ
last_counts c = c.1.1.1.0 * 281474976710656 + c.1.1.1.1.0 * 4294967296 + c.1.1.1.1.1.0 * 65536 + c.1.1.1.1.1.1

abbrev pub both_counts : Ranked 6 → Ranked 1
both_counts c = (first_counts c, last_counts c)

pub counts_sum : (e c : Ranked 6) → both_counts (add 6 e c) ≡ add 1 (both_counts e) (both_counts c)
counts_sum e c =
    let a : first_counts (add 6 e c) ≡ first_counts e + first_counts c = omega arith in
    let b : last_counts (add 6 e c) ≡ last_counts e + last_counts c = omega arith in
    λ i. (a i, b i)

pub short_rest : (k : ℕ) (e c : Ranked k) → AllShort k (add k e c) → AllShort k c
short_rest zero e c h = omega arith
short_rest (suc k) e c h = (omega (arith, h.0), short_rest k e.1 c.1 h.1)

pub counts_less : (a b : Ranked 6) → AllShort 6 a → AllShort 6 b → Less 6 a b → Less 1 (both_counts a) (both_counts b)
counts_less a b s t (inl h) = inl (omega (arith, h, s.1.0, s.1.1.0))
counts_less a b s t (inr (x, inl h)) = inl (omega (arith, x, h, s.1.1.0))
counts_less a b s t (inr (x, inr (y, inl h))) = inl (omega (arith, x, y, h))
counts_less a b s t (inr (x, inr (y, inr (z, inl h)))) = inr (omega (arith, x, y, z), omega (arith, h, s.1.1.1.1.0, s.1.1.1.1.1.0, s.1.1.1.1.1.1))
counts_less a b s t (inr (x, inr (y, inr (z, inr (w, inl h))))) = inr (omega (arith, x, y, z), omega (arith, w, h, s.1.1.1.1.1.0, s.1.1.1.1.1.1))
counts_less a b s t (inr (x, inr (y, inr (z, inr (w, inr (v, inl h)))))) = inr (omega (arith, x, y, z), omega (arith, w, v, h, s.1.1.1.1.1.1))
counts_less a b s t (inr (x, inr (y, inr (z, inr (w, inr (v, inr (r, h))))))) = inr (omega (arith, x, y, z), omega (arith, w, v, r, h))

-- edges and paths by the same two numbers
unfoldable pub counts_packing : Packing (ranked_costs 6)
counts_packing = record {
  edge = both_counts;
  path = both_counts;
  Short = AllShort 6;
  sum = counts_sum;
  rest = short_rest 6;
  less = counts_less;
}
