pub mod FewParts
pub mod TextPasses
pub mod TextFits
pub mod TextLines
mod ShownAnswers
mod OneAnswer
mod LastGoods
