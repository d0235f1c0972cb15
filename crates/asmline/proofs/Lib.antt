mod ClearLaws
mod LineLaws
