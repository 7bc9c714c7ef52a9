pub mod ProfileAccepted
pub mod ProfileTable
pub mod ShortFormsOff
pub mod WithoutProfile
