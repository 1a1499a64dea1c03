pub mod KeyLaws
pub mod OfferLaws
pub mod RangeLaws
pub mod RepairLaws
pub mod TableLaws
