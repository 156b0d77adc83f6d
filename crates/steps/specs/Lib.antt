pub mod Standing
pub mod Listed
pub mod Compared
pub mod Lending
