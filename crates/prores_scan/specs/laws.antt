pub mod LevelLaws
pub mod ScaleLaws
pub mod HalfStepLaws
pub mod ChangeLaws
