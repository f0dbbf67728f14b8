mod ByFault
pub mod Copying
