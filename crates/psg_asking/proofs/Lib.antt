pub mod AskedLaws
pub mod ProgramLaws
pub mod PutLaws
pub mod QuestionLaws
pub mod WordLaws
