pub mod SeenRows
pub mod ShownLaws
pub mod PossibleLaws
