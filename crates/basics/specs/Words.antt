-- The words that most files use, of the library and of this crate, in one place: a file brings in those that it needs by one line.
pub use Rattle.std.proofs.Common.{◌∙◌, ap, ap₂, subst, subst₂, sym, true≢false, inl, inr, ⊎_elim, zero-le, arith, drop_of_length-le, length-append, length-drop, length-set, length-take, take-append-drop, eqb→eq, lit<, lit≤, ltb→lt, lt→ltb, drop_at, drop-cons, drop-drop, drop-set-lt, ext_get_or, get_or-append-add, get_or-drop, get_or-set_other, get_or-set_same, get_or-take, length-take-le, take-add, take_all, take_at, take-suc, take-suc-set, take-take, add_assoc, add-mul, add-suc, add-zero, div-add-mod', div-le_self, div-lt_iff_lt-mul, div-one, le-div_iff_mul-le, le_of_eq, le_of_lt, le_of_suc-le-suc, le_trans, mod-eq_of_lt, mod-lt, mul-add, mul_assoc, mul_comm, mul-le-mul, mul-le-mul_left, mul-le-mul_right, mul_left_comm, mul-one, mul-pos, mul-suc, mul-zero, not-suc-le-zero, one-mul, pow-suc, suc-add, suc-mul, suc-ne-zero, zero-add, zero-mul, add-one, sub-one}
pub use Rattle.std.specs.Prelude.{◌≡◌, refl, Bool, ◌&&◌, ◌||◌, cond, false, not, true, ◌↔◌, ◌≢◌, ◌⊎◌, ◌%◌, ◌*◌, ◌+◌, ◌-◌, ◌/◌, ◌<◌, ◌^◌, ◌≤◌, max, min, suc, zero, ℕ, drop, get_or, length, replicate, set, take, T, eqb, leb, ltb}
pub use Rattle.std.proofs.Math.Bool.{not-not as Bool·not-not, and_assoc, and_comm, and-false, and_self, and-true, or-false, or-true}
pub use Rattle.std.proofs.lemmas.Bool.{false≢true}
pub use mathlib.Core.List.Memᴰ.{append_cases as List·Memᴰ·append-cases}
pub use mathlib.Core.List.Memᴰ.{cases_cons as List·Memᴰ·cases-cons}
pub use mathlib.Core.List.Memᴰ.{cast as Memᴰ·cast}
pub use mathlib.Core.List.Memᴰ.{eq_of_singleton as List·Memᴰ·eq-of-singleton}
pub use mathlib.Core.List.Memᴰ.{head as List·Memᴰ·head}
pub use mathlib.Core.List.Memᴰ.{not-nil as List·Memᴰ·not-nil}
pub use mathlib.Core.List.Memᴰ.{tail as List·Memᴰ·tail}
pub use mathlib.Core.List.{List, Memᴰ as List-as-Memᴰ, [], ◌++◌, ◌∷◌, append_assoc, append-nil, map, map-append, map-map}
pub use Rattle.std.proofs.Math.Option.{Option, map as Option·map, none-ne-some as Option·none-ne-some, map-eq-some_iff, none, some}
pub use Rattle.std.proofs.Math.ListN.{get_or-append as List·getD-append, get_or-eq_default as List·getD-eq-default, get_or-map as List·getD-map}
pub use Rattle.std.proofs.lemmas.List.{get_or-replicate, length-map, length-replicate, replicate-append-replicate, drop-append-le, set_at, set_split, take-append-le}
pub use Rattle.std.proofs.Math.Dec.{not_T}
pub use Rattle.std.proofs.Math.Seq.{append_snoc, drop-append-add, drop-length, length-sets, length-slice, map-set_same, slice, slice-cons, slice_empty, take-append-add, take-append_seam, take-length, take-set-lt}
pub use Rattle.std.proofs.lemmas.List.Edits.{sets, sets-eq}
pub use Rattle.std.proofs.Math.Nat.{add-sub_cancel_left, div-eq_of_lt, le-max_left, le-max_right, le-pred_of_lt, mul-add-div_right, mul-add-mod_self_right, mul-div_cancel_left, one-le-pow, pow-le-pow_right, pow-succ', sub-zero, suc_inj}
unfoldable pub use Rattle.std.proofs.Math.Decide.{dec_lt, ℕ_discrete}
pub use Rattle.std.proofs.Math.Numerals.{add-two}
unfoldable pub use Rattle.basics.specs.Search.{all_of, every_below, first_that, joined, numbers_below, occurrences, pairwise, some_below, those, without}
pub use Rattle.basics.specs.Sets.{member}
unfoldable pub use Rattle.basics.specs.Sets.{set_of}
unfoldable pub use Rattle.basics.specs.Products.{product}
