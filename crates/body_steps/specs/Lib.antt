pub mod BraceHelpers
