pub mod FrameHelpers
