mod FloatLaws
mod KindLaws
mod TalkLaws
