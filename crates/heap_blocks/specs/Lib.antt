pub mod Heap
pub mod Gapless
pub mod Sound
pub mod Relations
