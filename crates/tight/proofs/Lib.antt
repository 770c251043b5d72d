pub mod JointSteps
pub mod Tests
