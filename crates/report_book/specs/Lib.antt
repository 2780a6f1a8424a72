pub mod BookView
pub mod Knowing
pub mod Standing
pub mod Moves
pub mod Refusals
pub mod Faults
pub mod Allowing
