pub mod ByteHelpers
