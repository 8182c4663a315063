pub mod Same
pub mod Cells
pub mod Links
pub mod StandsFor
pub mod Fragments
pub mod WholeOf
pub mod inner
