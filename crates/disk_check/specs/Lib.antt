pub mod SoundHelpers
