pub mod LocateHelpers
