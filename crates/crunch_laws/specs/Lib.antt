pub mod BeforeShortForms
pub mod ProfileAccepted
pub mod ProfileTable
pub mod WithoutProfile
