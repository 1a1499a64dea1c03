pub mod ByteLaws
pub mod CutLaws
pub mod LineLaws
pub mod NameLaws
pub mod SizeLaws
