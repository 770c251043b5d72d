pub mod Marks
pub mod Totals
pub mod StageWork
pub mod Trying
