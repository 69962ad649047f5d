-- Laws of the reasons for which cells wake.
pub mod Named
pub mod Laws
