pub mod LeadLaws
pub mod MoveLaws
pub mod OpenLaws
