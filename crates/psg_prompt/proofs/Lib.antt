pub mod CompletingLaws
pub mod PromptLaws
pub mod RunningLaws
