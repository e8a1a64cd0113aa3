pub mod SameCases
pub mod SolvedCases
