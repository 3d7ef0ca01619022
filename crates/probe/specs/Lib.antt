pub mod Room
pub mod Nearer
pub mod Window
