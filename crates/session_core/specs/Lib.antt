pub mod Naming
pub mod Pushing
pub mod Queue
pub mod SessionView
pub mod Stretches
pub mod Holding
pub mod Generations
pub mod Allowing
