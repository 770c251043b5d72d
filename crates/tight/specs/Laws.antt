-- Laws of labels as cells.
pub mod Labels
