mod GoodsAudits
pub mod OnePublication
mod Pairs
mod Statuses
