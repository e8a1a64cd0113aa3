pub mod Files
pub mod Serves
pub mod Links
pub mod Publishing
pub mod Headline
pub mod SameRuns
