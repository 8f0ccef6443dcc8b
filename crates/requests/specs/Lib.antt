pub mod Texts
pub mod Requests
pub mod Files
pub mod Templates
pub mod Given
