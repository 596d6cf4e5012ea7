mod ListLaws
mod ListedLaws
