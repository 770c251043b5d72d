-- definitions; the theorems on them stand in proofs/
pub mod Travelling
pub mod Trimmed
pub mod Answering
pub mod TrimmedAnswers
