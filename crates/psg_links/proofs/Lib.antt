mod Agree
mod AroundLaws
mod LinkLaws
mod NamesLaws
mod PageLaws
mod RenameLaws
mod SpotLaws
