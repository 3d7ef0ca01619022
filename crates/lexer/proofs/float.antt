-- The laws of the module `float`, each file over those above it.
pub mod Grid
pub mod Doubles
pub mod Tens
pub mod Values
pub mod Ways
pub mod Capped
pub mod Specimens
