pub mod CallHelpers
