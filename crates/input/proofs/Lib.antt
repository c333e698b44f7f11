pub mod CutLines
pub mod HexLaws
pub mod RunSteps
