-- steps as numbers
pub mod StepTable
pub mod Filling
-- marks and labels as numbers; labels by sums
pub mod Marks
pub mod LabelCost
pub mod MarksLaws
pub mod Work
pub mod SumLabels
pub mod SumsDone
-- cards and rankings as numbers
pub mod Places
pub mod Engine
pub mod JointNumbers
pub mod Tables
pub mod Endings
pub mod Laws
