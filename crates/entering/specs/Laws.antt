pub mod Most
