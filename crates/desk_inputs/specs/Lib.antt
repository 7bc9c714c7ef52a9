pub mod CountedHelpers
