pub mod AllowedFacts
pub mod FreeFares
pub mod JsonValues
pub mod Lists
pub mod ReadyCases
pub mod ReadyCreations
pub mod ReadyProposals
pub mod WrittenBids
