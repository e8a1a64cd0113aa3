pub mod FareRanges
pub mod SameFares
pub mod MembersApart
