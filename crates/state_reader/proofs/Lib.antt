mod Commits
mod FoldLaws
mod Folding
mod Keeping
mod ListLaws
mod Places
mod Several
