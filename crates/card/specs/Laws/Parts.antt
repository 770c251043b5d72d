-- Parts that are joined and split by their lengths, as the crate `layout` has them.
pub use Rattle.layout.specs.Laws.Parts.{total_snoc, total_next, total_parted, total_left, total_within, split_snoc, length_split, split_lengths, split_joined, joined_split, joined_total}
