pub mod FramesHelpers
