pub mod FreeRows
