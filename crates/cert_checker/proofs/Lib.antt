pub mod SaidLists
pub mod FaresViews
pub mod HeadParts
pub mod TableParts
pub mod LineSteps
mod MarkSteps
pub mod CutRows
pub mod Kept
pub mod TreeParts
pub mod GoodsViews
pub mod NoTrees
pub mod Judgements
pub mod RentViews
pub mod SaidViews
pub mod SameTrees
