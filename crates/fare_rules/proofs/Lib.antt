pub mod EndRules
pub mod LineLaws
pub mod Means
pub mod PrintedNumbers
pub mod SetLines
pub mod StartLists
