pub mod InputLaws
pub mod PieceLaws
pub mod PlaceLaws
pub mod SinkLaws
