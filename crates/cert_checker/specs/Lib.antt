pub mod Judged
pub mod FaresLines
pub mod Lines
pub mod GoodsLines
pub mod GoodsLeaves
