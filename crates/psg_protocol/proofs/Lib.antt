pub mod CutLaws
pub mod FramedLaws
pub mod HeadLaws
pub mod HeaderLaws
pub mod LineLaws
pub mod TextLaws
pub mod WalkLaws
pub mod WithinLaws
