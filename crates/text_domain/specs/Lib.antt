pub mod Domain
pub mod DomainHelpers
pub mod EightHelpers
