pub mod Put
pub mod Staged
pub mod Moment
pub mod TwoRoads
