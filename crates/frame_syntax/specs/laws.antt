pub mod LengthLaws
pub mod FrameLaws
