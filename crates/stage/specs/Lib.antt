pub mod Below
pub mod StageLabels
pub mod Relaxing
