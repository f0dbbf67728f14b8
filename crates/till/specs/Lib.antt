pub mod Till
