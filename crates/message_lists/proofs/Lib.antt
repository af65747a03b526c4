mod Children
mod Growing
mod Kept
mod Texts
