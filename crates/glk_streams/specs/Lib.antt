pub mod Constants
pub mod Files
pub mod Stream
pub mod Streams
pub mod Sound
pub mod Laws
