pub mod Tags
pub mod Firsts
pub mod Surveys
pub mod Chains
pub mod Visits
pub mod Links
pub mod Accepted
pub mod Refusals
