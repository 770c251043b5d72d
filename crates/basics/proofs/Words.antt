-- The words of specs/, and those on a function's needs and tests and on searches, in one place.
pub use Rattle.std.specs.Prelude.{◌%◌, ◌&&◌, ◌*◌, ◌++◌, ◌+◌, ◌-◌, ◌/◌, ◌<◌, ◌^◌, ◌||◌, ◌↔◌, ◌∷◌, ◌≡◌, ◌≢◌, ◌≤◌, ◌⊎◌}
pub use Rattle.basics.specs.Words.{Bool, Bool·not-not, List, List-as-Memᴰ, List·Memᴰ·append-cases, List·Memᴰ·cases-cons, List·Memᴰ·eq-of-singleton, List·Memᴰ·head, List·Memᴰ·not-nil, List·Memᴰ·tail, List·getD-append, List·getD-eq-default, List·getD-map, Memᴰ·cast, Option, Option·map, Option·none-ne-some, T, [], ◌∙◌, add_assoc, add-mul, add-one, add-sub_cancel_left, add-suc, add-two, add-zero, and_assoc, and_comm, and-false, and_self, and-true, ap, append_assoc, append-nil, append_snoc, ap₂, arith, cond, div-add-mod', div-eq_of_lt, div-le_self, div-lt_iff_lt-mul, div-one, drop, drop-append-add, drop-append-le, drop_at, drop-cons, drop-drop, drop-length, drop_of_length-le, drop-set-lt, eqb, eqb→eq, ext_get_or, false, false≢true, get_or, get_or-append-add, get_or-drop, get_or-replicate, get_or-set_other, get_or-set_same, get_or-take, inl, inr, le-div_iff_mul-le, le-max_left, le-max_right, le_of_eq, le_of_lt, le_of_suc-le-suc, le-pred_of_lt, le_trans, leb, length, length-append, length-drop, length-map, length-replicate, length-set, length-sets, length-slice, length-take, length-take-le, lit<, lit≤, ltb, ltb→lt, lt→ltb, map, map-append, map-eq-some_iff, map-map, map-set_same, max, member, min, mod-eq_of_lt, mod-lt, mul-add, mul-add-div_right, mul-add-mod_self_right, mul_assoc, mul_comm, mul-div_cancel_left, mul-le-mul, mul-le-mul_left, mul-le-mul_right, mul_left_comm, mul-one, mul-pos, mul-suc, mul-zero, none, not, not_T, not-suc-le-zero, one-le-pow, one-mul, or-false, or-true, pow-le-pow_right, pow-suc, pow-succ', refl, replicate, replicate-append-replicate, set, set_at, set_split, sets, sets-eq, slice, slice-cons, slice_empty, some, sub-one, sub-zero, subst, subst₂, suc, suc-add, suc_inj, suc-mul, suc-ne-zero, sym, take, take-add, take_all, take-append-add, take-append-drop, take-append-le, take-append_seam, take_at, take-length, take-set-lt, take-suc, take-suc-set, take-take, true, true≢false, zero, zero-add, zero-le, zero-mul, ℕ, ⊎_elim}
unfoldable pub use Rattle.basics.specs.Words.{all_of, dec_lt, every_below, first_that, joined, numbers_below, occurrences, pairwise, product, set_of, some_below, those, without, ℕ_discrete}
pub use borrow.Author.Rules.{length_unmapped, rules, scaled_Fits}
pub use borrow.Author.Tests.{eq-eqb, eqb-false, eqb-true, le-leb, le-ltb, leb-false, leb-true, lt-leb, lt-ltb, ltb-false, ltb-true, ne_eqb, not-false, not-true}
pub use Rattle.basics.proofs.Bools.{both, clash, either, fails, left, left_fails, neither, right, right_fails, same}
pub use Rattle.basics.proofs.Search.{all_append, all_at, all_fails, all_member, all_next, all_none, any_default, each_at, each_member, first_found, first_member, first_misses, first_next, first_passes, joined_member, left_at, left_next, left_none, map_at, member_joined, member_those, pairwise_at, pairwise_fails, pairwise_next, pairwise_those, those_here, those_later, those_member}
pub use Rattle.basics.proofs.Below.{each_below, every_at, every_next, every_start, finds_below, found_below, length_numbers, member_numbers, number_at, numbers_member, one_below_fails}
pub use Rattle.basics.proofs.Occurrences.{its_place, member_occurs, occurrences_append, occurs_here, occurs_later, occurs_member, occurs_none, one_place}
pub use Rattle.basics.proofs.Sets.{empty_set, has_member, its_member, member_and, member_beyond, member_one, member_or, no_member, set_bound, set_empty, set_grows, set_member, set_start, set_stays}
