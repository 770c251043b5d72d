pub mod WeighsBy
pub mod FirstPlace
pub mod Labelling
pub mod Laws
