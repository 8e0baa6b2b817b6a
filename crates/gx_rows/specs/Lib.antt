pub mod ShortNumbers
pub mod LongNumbers
pub mod Numbers
pub mod Keys
pub mod Table
pub mod Opcodes
pub mod Modes
pub mod Gestalts
