pub mod Call
pub mod FlowRow
pub mod Overwritten
pub mod Said
