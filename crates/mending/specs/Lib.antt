pub mod Mended
pub mod Mendable
pub mod CleanSheet
pub mod Theorems
pub mod Enough
