mod KeyLaws
mod ListedLaws
pub mod SiteLaws
mod TextLaws
mod ValueLaws
