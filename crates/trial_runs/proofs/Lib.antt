pub mod ReadBack
pub mod TrialTexts
