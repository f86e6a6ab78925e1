pub mod Lengths
pub mod BoundaryLaws
pub mod Agreement
pub mod AppendLaws
pub mod ListingLaws
