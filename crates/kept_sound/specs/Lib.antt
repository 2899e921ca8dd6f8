pub mod SoundState
pub mod Kept
pub mod EntryPlaced
pub mod Laws
