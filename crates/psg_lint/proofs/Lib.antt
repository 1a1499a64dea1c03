mod EndLaws
mod FineLaws
mod HiddenLaws
mod HintLaws
mod LineLaws
mod MessageLaws
mod NotedLaws
mod OnceLaws
mod OpenLaws
mod OptionLaws
mod PlaceLaws
mod ReadLaws
pub mod ReportLaws
mod SeenLaws
mod SuspectLaws
mod TellLaws
mod WarningLaws
mod WrongLaws
