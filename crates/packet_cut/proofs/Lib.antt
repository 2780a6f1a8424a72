mod HeadLaws
pub mod PacketLaws
pub mod StreamLaws
mod Stamps
mod Steps
mod CutLaws
mod Rule
mod Fronts
mod Runs
