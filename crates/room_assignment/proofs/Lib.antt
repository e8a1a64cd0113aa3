pub mod AlternatingTrees
pub mod FoundRooms
pub mod LongestWalks
pub mod TreeLists
pub mod ValueSteps
