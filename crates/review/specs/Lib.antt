pub mod Proposals
pub mod Listings
pub mod Faults
pub mod Settled
pub mod Recalls
