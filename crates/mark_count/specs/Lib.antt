pub mod MarkCount
