pub mod Places
pub mod Asking
pub mod Opening
pub mod MemoryWorlds
pub mod RealWorlds
pub mod OpenInOrder
