pub mod KeyOrder
pub mod KeyLists
pub mod MergeLaws
pub mod SpaceLaws
pub mod HeaderLaws
pub mod RunLaws
pub mod SharedLaws
