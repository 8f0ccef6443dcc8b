pub mod Gathered
pub mod GroupPlans
