pub mod Entries
pub mod MarginalSums
pub mod WorkedFares
pub mod WorkedGoods
pub mod MaximumWelfare
