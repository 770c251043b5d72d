-- Lists of bytes, as the crate `layout` has them.
pub use Rattle.layout.specs.Laws.Bytes.{low_byte, high_byte, bytes_none, bytes_cons, bytes_append, bytes_drop, bytes_take}
