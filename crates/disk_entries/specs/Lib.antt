pub mod EntryHelpers
