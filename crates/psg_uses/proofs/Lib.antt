mod FreeKeys
mod FreeLaws
mod MemberLaws
mod NamesLaws
mod OpenLaws
mod OutwardLaws
mod PartLaws
mod RegionLaws
